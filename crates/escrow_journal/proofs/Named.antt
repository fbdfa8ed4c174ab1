-- The savepoint with a name, among the savepoints of one session.
use Rattle.std.specs.Prelude.{◌≡◌, ℕ, ◌+◌, Bool, true, false, not, ◌&&◌, ◌==◌, slice_get, cond, List, [], ◌∷◌, filter, take, position, Some, None, bytes_eq}
use Rattle.std.specs.List.{position_or_len, AllByRecursion}
use Rattle.std.proofs.Common.{suc, refl, sym, ap, ◌∙◌, arith, eq-eqb, get_or}
use Rattle.std.proofs.lemmas.List.Folds.{find_at}
use Rattle.std.proofs.lemmas.Option.{slice_get-get_or}
use Rattle.escrow_num.specs.declared.reservation.Savepoint.{Savepoint}
use Rattle.escrow_journal.specs.Reservations.{other_savepoints}
use Rattle.escrow_journal.specs.Savepoints.{is_named, savepoint_of, without_savepoint, through}
use Rattle.escrow_journal.proofs.Filters.{filter_none, filter_others, find_same, place_inside, none_inside}

-- a savepoint has this name
abbrev pub has_name : List ℕ → Savepoint → Bool
has_name name p = bytes_eq p.name name

-- among a session's own savepoints, the name alone decides
pub named_is : (session : ℕ) (name : List ℕ) (ps : List Savepoint) → AllByRecursion (λ p. p.session ≡ session) ps
    → AllByRecursion (λ p. is_named session name p ≡ has_name name p) ps
named_is session name [] own = tt
named_is session name (p ∷ ps) own = (ap (λ b. b && has_name name p) (eq-eqb p.session session own.0), named_is session name ps own.1)

pub without_is : (session : ℕ) (name : List ℕ) (ps : List Savepoint) → AllByRecursion (λ p. p.session ≡ session) ps
    → without_savepoint session name ps ≡ filter (λ p. not (has_name name p)) ps
without_is session name ps own = filter_others (is_named session name) (has_name name) ps (named_is session name ps own)

-- the savepoint at the index of the name has that name
pub found_is : (session : ℕ) (name : List ℕ) (ps : List Savepoint) (place : ℕ) (p : Savepoint) → AllByRecursion (λ q. q.session ≡ session) ps
    → position (has_name name) ps ≡ Some place → p ≡ get_or ps place p → savepoint_of session name ps ≡ Some p
found_is session name ps place p own at is =
    let inside = place_inside (has_name name) ps place at in
    find_same (is_named session name) (has_name name) ps (named_is session name ps own)
    ∙ find_at (has_name name) ps
    ∙ ap (λ n. slice_get ps n) inside.0
    ∙ slice_get-get_or ps place p inside.1
    ∙ ap (λ (q : Savepoint). Some q) (sym is)

-- if the name has no index, no savepoint has it
pub none_is : (session : ℕ) (name : List ℕ) (ps : List Savepoint) → AllByRecursion (λ q. q.session ≡ session) ps
    → position (has_name name) ps ≡ None → savepoint_of session name ps ≡ None
none_is session name ps own at = find_same (is_named session name) (has_name name) ps (named_is session name ps own) ∙ none_inside (has_name name) ps at

-- no savepoint of the session belongs to another one
own_tests : (session : ℕ) (ps : List Savepoint) → AllByRecursion (λ p. p.session ≡ session) ps → AllByRecursion (λ p. (p.session == session) ≡ true) ps
own_tests session [] own = tt
own_tests session (p ∷ ps) own = (eq-eqb p.session session own.0, own_tests session ps own.1)

others_none : (session : ℕ) (ps : List Savepoint) → AllByRecursion (λ p. p.session ≡ session) ps → other_savepoints session ps ≡ []
others_none session ps own = filter_none (λ p. p.session == session) ps (own_tests session ps own)

through_step : (b : Bool) (p : Savepoint) (others more ps : List Savepoint) (n : ℕ) → others ≡ [] → more ≡ take (n + 1) ps
    → cond b (p ∷ others) (p ∷ more) ≡ take (cond (not b) (1 + n) 0 + 1) (p ∷ ps)
through_step true p others more ps n none rest = ap (λ qs. p ∷ qs) none
through_step false p others more ps n none rest = let e : 1 + n + 1 ≡ suc (n + 1) = omega arith in rw e (ap (λ qs. p ∷ qs) rest)

-- the savepoints up to the one with a name are the first ones
pub through_is : (session : ℕ) (name : List ℕ) (ps : List Savepoint) → AllByRecursion (λ p. p.session ≡ session) ps
    → through session name ps ≡ take (position_or_len (has_name name) ps + 1) ps
through_is session name [] own = refl
through_is session name (p ∷ ps) own =
    ap (λ b. cond b (p ∷ other_savepoints session ps) (p ∷ through session name ps)) (named_is session name (p ∷ ps) own).0
    ∙ through_step (has_name name p) p (other_savepoints session ps) (through session name ps) ps (position_or_len (has_name name) ps)
    (others_none session ps own.1) (through_is session name ps own.1)
