-- Whether something is open, journal by journal.
use Rattle.std.specs.Prelude.{◌≡◌, ℕ, Bool, true, false, ◌||◌, nat_lt, List, [], ◌∷◌, ◌++◌, length}
use Rattle.std.specs.List.{list_any}
use Rattle.std.proofs.Common.{refl, ap, ap₂, sym, ◌∙◌, arith}
use Rattle.std.proofs.lemmas.Bool.{cond_both, lt-ltb}
use Rattle.escrow_num.specs.declared.reservation.Reservation.{Reservation}
use Rattle.escrow_journal.specs.Journal.{Journal}
use Rattle.escrow_journal.specs.Open.{has_open}
use Rattle.escrow_txn.specs.Joined.{put, by_id, opened, holds_any}
use Rattle.escrow_txn.proofs.Sessions.{reservations_of, savepoints_of}

-- the list has an item
abbrev has_some : {A : Type 0} → List A → Bool
has_some xs = nat_lt 0 (length xs)

some_more : {A : Type 0} (x : A) (xs : List A) → has_some (x ∷ xs) ≡ true
some_more x xs = lt-ltb 0 (length (x ∷ xs)) (omega arith)

some_append : {A : Type 0} (xs ys : List A) → has_some (xs ++ ys) ≡ (has_some xs || has_some ys)
some_append [] ys = refl
some_append (x ∷ xs) ys = some_more x (xs ++ ys) ∙ sym (ap (λ b. b || has_some ys) (some_more x xs))

some_put : (r : Reservation) (xs : List Reservation) → has_some (put r xs) ≡ true
some_put r [] = some_more r []
some_put r (x ∷ xs) =
    cond_both (nat_lt x.id r.id) (x ∷ put r xs) (r ∷ x ∷ xs) (λ ys. has_some ys ≡ true) (λ _. some_more x (put r xs)) (λ _. some_more r (x ∷ xs))

some_by_id : (xs : List Reservation) → has_some (by_id xs) ≡ has_some xs
some_by_id [] = refl
some_by_id (r ∷ rest) = some_put r (by_id rest) ∙ sym (some_more r rest)

both_joined : (a b c d : Bool) → ((a || b) || (c || d)) ≡ ((a || c) || (b || d))
both_joined true b c d = refl
both_joined false true true d = refl
both_joined false true false d = refl
both_joined false false c d = refl

any_holds : (journals : List Journal) → (has_some (reservations_of journals) || has_some (savepoints_of journals)) ≡ list_any holds_any journals
any_holds [] = refl
any_holds (journal ∷ journals) =
    ap₂ (λ a b. a || b) (some_append journal.reservations (reservations_of journals)) (some_append journal.savepoints (savepoints_of journals))
    ∙ both_joined (has_some journal.reservations) (has_some (reservations_of journals)) (has_some journal.savepoints) (has_some (savepoints_of journals))
    ∙ ap (λ b. holds_any journal || b) (any_holds journals)

-- something is open exactly if one of the journals holds something
pub open_by_journals : (journals : List Journal) (next : ℕ) → has_open (opened journals next) ≡ list_any holds_any journals
open_by_journals journals next = ap (λ b. b || has_some (savepoints_of journals)) (some_by_id (reservations_of journals)) ∙ any_holds journals
