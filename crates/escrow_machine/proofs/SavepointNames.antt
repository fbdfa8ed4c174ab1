-- Which savepoint a name finds, after one is inserted and after some are removed.
use Rattle.std.specs.Prelude.{◌≡◌, ◌⊎◌, ◌<◌, ◌≤◌, ℕ, Bool, true, false, ◌==◌, not, nat_lt, cond, List, [], ◌∷◌, bytes_eq, IsTrue, Option, Some, None}
use Rattle.std.proofs.Common.{inl, inr, sym, ap, ◌∙◌, subst, refl, arith, le_refl}
use Rattle.std.proofs.lemmas.Bool.{cond_both, cond-true, cond-false, and_left, cases_Bool, false_from_ne_true, and_from, and_parts, not_from_false, not-true, ltb-true, eqb-true, eq-eqb}
use Rattle.escrow_num.specs.declared.reservation.Savepoint.{Savepoint}
use Rattle.escrow_num.specs.Ascending.{IsAscending}
use Rattle.escrow_num.proofs.Items.{Has, all_has, has_filter, find_has}
use Rattle.escrow_num.proofs.Orders.{name_same, same_name}
use Rattle.escrow_num.proofs.Put.{find_put}
use Rattle.escrow_journal.specs.Reservations.{other_savepoints, savepoint_before}
use Rattle.escrow_journal.specs.Savepoints.{is_named, savepoint_of, without_savepoint, put_savepoint, through}
use Rattle.escrow_machine.proofs.Filters.{filter_all, none_found}
use Rattle.escrow_machine.proofs.Kept.{find_filter}
use Rattle.escrow_machine.proofs.Savepoints.{before_parts, sessions_rise, session_before, put_is}

-- a savepoint has its own name
named_itself : (p : Savepoint) → is_named p.session p.name p ≡ true
named_itself p = and_from (p.session == p.session) (bytes_eq p.name p.name) (eq-eqb p.session p.session refl) (same_name p.name)

-- a savepoint that is named has this session and this name
pub named_is : (session : ℕ) (name : List ℕ) (p : Savepoint) → is_named session name p ≡ true → (p.session ≡ session) × (p.name ≡ name)
named_is session name p t =
    let parts = and_parts (p.session == session) (bytes_eq p.name name) t in
    (eqb-true p.session session parts.0, name_same p.name name parts.1)

-- without the savepoint of a name, none of that session has the name
pub none_named : (session : ℕ) (name : List ℕ) (savepoints : List Savepoint) (q : Savepoint) → Has (without_savepoint session name savepoints) q
    → is_named session name q ≡ false
none_named session name savepoints q h = not-true (is_named session name q) (has_filter (λ (p : Savepoint). not (is_named session name p)) savepoints q h).1

-- a savepoint with a new name is found by that name once it is inserted
pub found_put : (p : Savepoint) (savepoints : List Savepoint) → ((q : Savepoint) → Has savepoints q → is_named p.session p.name q ≡ false)
    → savepoint_of p.session p.name (put_savepoint p savepoints) ≡ Some p
found_put p [] others = cond-true (is_named p.session p.name p) (Some p) None (named_itself p)
found_put p (q ∷ rest) others =
    cond_both (nat_lt p.session q.session) (p ∷ q ∷ rest) (q ∷ put_savepoint p rest) (λ zs. savepoint_of p.session p.name zs ≡ Some p)
    (λ _. cond-true (is_named p.session p.name p) (Some p) (savepoint_of p.session p.name (q ∷ rest)) (named_itself p))
    (λ _. cond-false (is_named p.session p.name q) (Some q) (savepoint_of p.session p.name (put_savepoint p rest)) (others q (inl refl))
    ∙ found_put p rest (λ r h. others r (inr h)))

-- that savepoint is the last of its session
pub through_put : (p : Savepoint) (savepoints : List Savepoint) → IsAscending savepoint_before savepoints
    → ((q : Savepoint) → Has savepoints q → is_named p.session p.name q ≡ false)
    → through p.session p.name (put_savepoint p savepoints) ≡ put_savepoint p savepoints
through_put p [] order others = cond-true (is_named p.session p.name p) (p ∷ []) (p ∷ []) (named_itself p)
through_put p (q ∷ rest) order others =
    let later : nat_lt p.session q.session ≡ true → (r : Savepoint) → Has (q ∷ rest) r → not (r.session == p.session) ≡ true = λ t r h.
    let lower : p.session < q.session = ltb-true p.session q.session t in
    let risen : q.session ≤ r.session = from_first r h in
    not_from_false (r.session == p.session) (false_from_ne_true (r.session == p.session) (λ same. let is : r.session ≡ p.session = eqb-true r.session p.session same in absurd (omega arith))) in
    cond_both (nat_lt p.session q.session) (p ∷ q ∷ rest) (q ∷ put_savepoint p rest) (λ zs. through p.session p.name zs ≡ zs)
    (λ t. cond-true (is_named p.session p.name p) (p ∷ other_savepoints p.session (q ∷ rest)) (p ∷ through p.session p.name (q ∷ rest)) (named_itself p)
    ∙ ap (λ (zs : List Savepoint). p ∷ zs) (filter_all (λ (r : Savepoint). not (r.session == p.session)) (q ∷ rest) (later t)))
    (λ _. cond-false (is_named p.session p.name q) (q ∷ other_savepoints p.session (put_savepoint p rest)) (q ∷ through p.session p.name (put_savepoint p rest)) (others q (inl refl))
    ∙ ap (λ (zs : List Savepoint). q ∷ zs) (through_put p rest order.1 (λ r h. others r (inr h))))
  where
    from_first : (r : Savepoint) → Has (q ∷ rest) r → q.session ≤ r.session
    from_first r (inl same) = subst (λ (x : Savepoint). q.session ≤ x.session) same (le_refl q.session)
    from_first r (inr h) = sessions_rise q r (all_has (λ (x : Savepoint). IsTrue (savepoint_before q x)) rest order.0 r h)

-- putting a savepoint of another name leaves what a name finds
pub found_beside : (session : ℕ) (name : List ℕ) (q : Savepoint) (savepoints : List Savepoint) → is_named session name q ≡ false
    → savepoint_of session name (put_savepoint q savepoints) ≡ savepoint_of session name savepoints
found_beside session name q savepoints other =
    ap (savepoint_of session name) (put_is q savepoints) ∙ find_put session_before (is_named session name) q savepoints other

-- a session's savepoints are found after another session's are removed
pub found_of_other : (session : ℕ) (name : List ℕ) (other : ℕ) (savepoints : List Savepoint) → ¬ (other ≡ session)
    → savepoint_of session name (other_savepoints other savepoints) ≡ savepoint_of session name savepoints
found_of_other session name other savepoints differ =
    find_filter (is_named session name) (λ (p : Savepoint). not (p.session == other)) savepoints
    (λ p t. not_from_false (p.session == other) (false_from_ne_true (p.session == other) (λ u. differ (sym (eqb-true p.session other u) ∙ (named_is session name p t).0))))

-- after its own are removed, none is found
pub found_of_own : (session : ℕ) (name : List ℕ) (savepoints : List Savepoint) → savepoint_of session name (other_savepoints session savepoints) ≡ None
found_of_own session name savepoints =
    none_found (is_named session name) (other_savepoints session savepoints)
    (λ p h. and_left (p.session == session) (bytes_eq p.name name) (not-true (p.session == session) (has_filter (λ (q : Savepoint). not (q.session == session)) savepoints p h).1))

-- a session's savepoints are found after another session's ROLLBACK TO
pub found_through_other : (session : ℕ) (name : List ℕ) (other : ℕ) (back : List ℕ) (savepoints : List Savepoint) → ¬ (other ≡ session)
    → savepoint_of session name (through other back savepoints) ≡ savepoint_of session name savepoints
found_through_other session name other back [] differ = refl
found_through_other session name other back (p ∷ rest) differ =
    let first : Option Savepoint → Option Savepoint = λ o. cond (is_named session name p) (Some p) o in
    cond_both (is_named other back p) (p ∷ other_savepoints other rest) (p ∷ through other back rest)
    (λ zs. savepoint_of session name zs ≡ savepoint_of session name (p ∷ rest))
    (λ _. ap first (found_of_other session name other rest differ)) (λ _. ap first (found_through_other session name other back rest differ))

-- after a ROLLBACK TO of its session, a savepoint is removed; or it is found as before, and is no later than
-- the one that the session returned to
abbrev pub IsBehind : ℕ → List ℕ → Savepoint → List Savepoint → List Savepoint → Type 0
IsBehind session name q savepoints left =
    (savepoint_of session name left ≡ None)
    ⊎ ((savepoint_of session name left ≡ savepoint_of session name savepoints)
    × ((p : Savepoint) → savepoint_of session name savepoints ≡ Some p → p.id ≤ q.id))

some_is : {A : Type 0} {x y : A} → Some x ≡ Some y → x ≡ y
some_is e = cc

pub found_through_own : (session : ℕ) (name back : List ℕ) (q : Savepoint) (savepoints : List Savepoint) → IsAscending savepoint_before savepoints
    → savepoint_of session back savepoints ≡ Some q → IsBehind session name q savepoints (through session back savepoints)
found_through_own session name back q [] order found = absurd (cc)
found_through_own session name back q (p ∷ rest) order found =
    let named : Bool = is_named session name p in
    let was : Option Savepoint = savepoint_of session name rest in
    let to_first : is_named session back p ≡ true → IsBehind session name q (p ∷ rest) (p ∷ other_savepoints session rest) = λ t.
    let is : p ≡ q = some_is (sym (cond-true (is_named session back p) (Some p) (savepoint_of session back rest) t) ∙ found) in
    elim (cases_Bool named) [
      | inl here ↦ inr (
        cond-true named (Some p) (savepoint_of session name (other_savepoints session rest)) here ∙ sym (cond-true named (Some p) was here),
        λ r e. let same : p ≡ r = some_is (sym (cond-true named (Some p) was here) ∙ e) in subst (λ (x : Savepoint). x.id ≤ q.id) same (subst (λ (x : Savepoint). p.id ≤ x.id) is (le_refl p.id)),
      )
      | inr away ↦ inl (cond-false named (Some p) (savepoint_of session name (other_savepoints session rest)) away ∙ found_of_own session name rest)
    ] in
    let past_first : is_named session back p ≡ false → IsBehind session name q (p ∷ rest) (p ∷ through session back rest) = λ f.
    let in_rest : savepoint_of session back rest ≡ Some q = sym (cond-false (is_named session back p) (Some p) (savepoint_of session back rest) f) ∙ found in
    let left : Option Savepoint = savepoint_of session name (through session back rest) in
    elim (cases_Bool named) [
      | inl here ↦ inr (
        cond-true named (Some p) left here ∙ sym (cond-true named (Some p) was here),
        λ r e. let same : p ≡ r = some_is (sym (cond-true named (Some p) was here) ∙ e) in subst (λ (x : Savepoint). x.id ≤ q.id) same (made_before here in_rest),
      )
      | inr away ↦ elim (found_through_own session name back q rest order.1 in_rest) [
        | inl none ↦ inl (cond-false named (Some p) left away ∙ none)
        | inr k ↦ inr (
          cond-false named (Some p) left away ∙ k.0 ∙ sym (cond-false named (Some p) was away),
          λ r e. k.1 r (sym (cond-false named (Some p) was away) ∙ e),
        )
      ]
    ] in
    cond_both (is_named session back p) (p ∷ other_savepoints session rest) (p ∷ through session back rest) (IsBehind session name q (p ∷ rest)) to_first past_first
  where
    made_before : is_named session name p ≡ true → savepoint_of session back rest ≡ Some q → p.id ≤ q.id
    made_before here in_rest =
        let stands = find_has (is_named session back) rest q in_rest in
        let of_p : p.session ≡ session = (named_is session name p here).0 in
        let of_q : q.session ≡ session = (named_is session back q stands.1).0 in
        elim (before_parts p q (all_has (λ (x : Savepoint). IsTrue (savepoint_before p x)) rest order.0 q stands.0)) [
          | inl lower ↦ absurd (omega arith)
          | inr e ↦ e.made
        ]
