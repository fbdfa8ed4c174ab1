-- Lists of which one part belongs to a session, and the parts before and after it to others.
use Rattle.std.specs.Prelude.{◌≡◌, ℕ, ◌==◌, Bool, true, false, cond, not, nat_lt, Some, List, [], ◌∷◌, ◌++◌, filter, find, bytes_eq, IsTrue}
use Rattle.std.specs.List.{AllByRecursion}
use Rattle.std.proofs.Common.{refl, ap, ◌∙◌, arith}
use Rattle.std.proofs.lemmas.Bool.{cond_both, cond-true, cond-false, ltb-true, le-ltb, not_from_false, and_left}
use Rattle.std.proofs.lemmas.List.{append-nil}
use Rattle.std.proofs.lemmas.List.Elements.{filter-append}
use Rattle.escrow_num.specs.declared.reservation.Savepoint.{Savepoint}
use Rattle.escrow_num.proofs.Items.{all_has, has_all}
use Rattle.escrow_journal.proofs.Filters.{filter_all}
use Rattle.escrow_journal.specs.Reservations.{other_savepoints}
use Rattle.escrow_journal.specs.Savepoints.{is_named, put_savepoint, through}

-- if no item passes, the filter keeps none
pub filter_none : {A : Type 0} (p : A → Bool) (xs : List A) → AllByRecursion (λ x. p x ≡ false) xs → filter p xs ≡ []
filter_none p [] all = refl
filter_none p (x ∷ xs) all = cond-false (p x) (x ∷ filter p xs) (filter p xs) all.0 ∙ filter_none p xs all.1

filter_parts : {A : Type 0} (p : A → Bool) (xs part ys : List A) → filter p (xs ++ (part ++ ys)) ≡ filter p xs ++ (filter p part ++ filter p ys)
filter_parts p xs part ys = filter-append p xs (part ++ ys) ∙ ap (λ zs. filter p xs ++ zs) (filter-append p part ys)

-- only items of the part pass
pub filter_part : {A : Type 0} (p : A → Bool) (xs part ys : List A) → AllByRecursion (λ x. p x ≡ false) xs → AllByRecursion (λ x. p x ≡ false) ys
    → filter p (xs ++ (part ++ ys)) ≡ filter p part
filter_part p xs part ys before behind =
    rw (filter_parts p xs part ys, filter_none p xs before, filter_none p ys behind) (append-nil (filter p part))

-- all items outside the part pass
pub filter_beside : {A : Type 0} (p : A → Bool) (xs part ys : List A) → AllByRecursion (λ x. p x ≡ true) xs → AllByRecursion (λ x. p x ≡ true) ys
    → filter p (xs ++ (part ++ ys)) ≡ xs ++ (filter p part ++ ys)
filter_beside p xs part ys before behind = rw (filter_parts p xs part ys, filter_all p xs before, filter_all p ys behind) refl

-- a property that follows for each item follows for all
pub all_as : {A : Type 0} (P Q : A → Type 0) (xs : List A) → ((x : A) → P x → Q x) → AllByRecursion P xs → AllByRecursion Q xs
all_as P Q xs each all = has_all Q xs (λ x h. each x (all_has P xs all x h))

-- a lookup finds an item of the part, if none outside passes
pub find_part : {A : Type 0} (p : A → Bool) (xs part ys : List A) → AllByRecursion (λ x. p x ≡ false) xs → AllByRecursion (λ x. p x ≡ false) ys
    → find p (xs ++ (part ++ ys)) ≡ find p part
find_part p [] [] [] before behind = refl
find_part p [] [] (y ∷ ys) before behind = cond-false (p y) (Some y) (find p ys) behind.0 ∙ find_part p [] [] ys tt behind.1
find_part p [] (x ∷ part) ys before behind = ap (λ o. cond (p x) (Some x) o) (find_part p [] part ys tt behind)
find_part p (x ∷ xs) part ys before behind =
    cond-false (p x) (Some x) (find p (xs ++ (part ++ ys))) before.0 ∙ find_part p xs part ys before.1 behind

-- a savepoint is put after those of its session, and before those of greater sessions
put_behind : (p : Savepoint) (part ys : List Savepoint) → AllByRecursion (λ q. q.session ≡ p.session) part
    → AllByRecursion (λ q. IsTrue (nat_lt p.session q.session)) ys → put_savepoint p (part ++ ys) ≡ (part ++ p ∷ []) ++ ys
put_behind p [] [] same above = refl
put_behind p [] (y ∷ ys) same above = cond-true (nat_lt p.session y.session) (p ∷ y ∷ ys) (y ∷ put_savepoint p ys) above.0
put_behind p (q ∷ part) ys same above =
    cond-false (nat_lt p.session q.session) (p ∷ q ∷ part ++ ys) (q ∷ put_savepoint p (part ++ ys)) (le-ltb p.session q.session (omega (arith, same.0)))
    ∙ ap (λ zs. q ∷ zs) (put_behind p part ys same.1 above)

pub put_savepoint_is : (p : Savepoint) (xs part ys : List Savepoint) → AllByRecursion (λ q. IsTrue (nat_lt q.session p.session)) xs
    → AllByRecursion (λ q. q.session ≡ p.session) part → AllByRecursion (λ q. IsTrue (nat_lt p.session q.session)) ys
    → put_savepoint p (xs ++ (part ++ ys)) ≡ xs ++ ((part ++ p ∷ []) ++ ys)
put_savepoint_is p [] part ys below same above = put_behind p part ys same above
put_savepoint_is p (x ∷ xs) part ys below same above =
    cond-false (nat_lt p.session x.session) (p ∷ x ∷ xs ++ (part ++ ys)) (x ∷ put_savepoint p (xs ++ (part ++ ys)))
    (le-ltb p.session x.session (omega (arith, ltb-true x.session p.session below.0)))
    ∙ ap (λ zs. x ∷ zs) (put_savepoint_is p xs part ys below.1 same above)

-- the savepoints up to a name that none of them has
through_none : (session : ℕ) (name : List ℕ) (xs : List Savepoint) → AllByRecursion (λ q. (q.session == session) ≡ false) xs → through session name xs ≡ xs
through_none session name [] others = refl
through_none session name (x ∷ xs) others =
    cond-false (is_named session name x) (x ∷ other_savepoints session xs) (x ∷ through session name xs) (and_left (x.session == session) (bytes_eq x.name name) others.0)
    ∙ ap (λ zs. x ∷ zs) (through_none session name xs others.1)

other_behind : (session : ℕ) (part ys : List Savepoint) → AllByRecursion (λ q. (q.session == session) ≡ false) ys
    → other_savepoints session (part ++ ys) ≡ other_savepoints session part ++ ys
other_behind session part ys others =
    filter-append (λ (q : Savepoint). not (q.session == session)) part ys
    ∙ ap (λ zs. other_savepoints session part ++ zs)
    (filter_all (λ (q : Savepoint). not (q.session == session)) ys
    (all_as (λ (q : Savepoint). (q.session == session) ≡ false) (λ q. not (q.session == session) ≡ true) ys (λ q. not_from_false (q.session == session)) others))

through_behind : (session : ℕ) (name : List ℕ) (part ys : List Savepoint) → AllByRecursion (λ q. (q.session == session) ≡ false) ys
    → through session name (part ++ ys) ≡ through session name part ++ ys
through_behind session name [] ys others = through_none session name ys others
through_behind session name (x ∷ part) ys others =
    ap (λ zs. cond (is_named session name x) zs (x ∷ through session name (part ++ ys))) (ap (λ zs. x ∷ zs) (other_behind session part ys others))
    ∙ ap (λ zs. cond (is_named session name x) (x ∷ other_savepoints session part ++ ys) (x ∷ zs)) (through_behind session name part ys others)
    ∙ cond_both (is_named session name x) (x ∷ other_savepoints session part) (x ∷ through session name part)
    (λ zs. cond (is_named session name x) (x ∷ other_savepoints session part ++ ys) (x ∷ through session name part ++ ys) ≡ zs ++ ys)
    (λ t. cond-true (is_named session name x) (x ∷ other_savepoints session part ++ ys) (x ∷ through session name part ++ ys) t)
    (λ f. cond-false (is_named session name x) (x ∷ other_savepoints session part ++ ys) (x ∷ through session name part ++ ys) f)

pub through_is : (session : ℕ) (name : List ℕ) (xs part ys : List Savepoint) → AllByRecursion (λ q. (q.session == session) ≡ false) xs
    → AllByRecursion (λ q. (q.session == session) ≡ false) ys → through session name (xs ++ (part ++ ys)) ≡ xs ++ (through session name part ++ ys)
through_is session name [] part ys before behind = through_behind session name part ys behind
through_is session name (x ∷ xs) part ys before behind =
    cond-false (is_named session name x) (x ∷ other_savepoints session (xs ++ (part ++ ys))) (x ∷ through session name (xs ++ (part ++ ys)))
    (and_left (x.session == session) (bytes_eq x.name name) before.0)
    ∙ ap (λ zs. x ∷ zs) (through_is session name xs part ys before.1 behind)
