-- The new passes: each pass occurs once, at its place.
use Rattle.std.proofs.Common.{◌≡◌, ℕ, zero, suc, ◌+◌, ◌*◌, ◌<◌, ◌≤◌, ◌⊎◌, Bool, true, false, ◌&&◌, ◌==◌, Some, List, [], ◌∷◌, ◌++◌, length, refl, sym, ap, ◌∙◌, subst, arith, inl, inr, add-one}
use Rattle.std.specs.Prelude.{cond}
use Rattle.std.specs.List.{All, AllByRecursion, slice_get}
use Rattle.std.proofs.Math.Nat.{eq-or-lt_of_le}
use Rattle.std.proofs.lemmas.List.{length-append}
use Rattle.std.proofs.lemmas.List.Elements.{All-from_get_or}
use Rattle.std.proofs.lemmas.List.Sums.{sum_by-append}
use Rattle.sqlite_trees.proofs.ListLemmas.{all-get_or}
use Rattle.escrow_machine.proofs.Choices.{append_all}
use Rattle.escrow_shards.specs.Pass.{Pass, is_at, passes_at, IsPassOf, AreAllPasses, new_pass, new_passes_of, new_passes}
use Rattle.escrow_shards.specs.Shared.{Shared, HasPass}

-- TWO CONCATENATED LISTS

front : {X : Type 0} (xs ys : List X) (i : ℕ) (x : X) → slice_get xs i ≡ Some x → slice_get (xs ++ ys) i ≡ Some x
front [] ys i x at = absurd (cc)
front (y ∷ xs) ys zero x at = at
front (y ∷ xs) ys (suc i) x at = front xs ys i x at

behind : {X : Type 0} (xs ys : List X) (i : ℕ) → slice_get (xs ++ ys) (length xs + i) ≡ slice_get ys i
behind [] ys i = ap (λ (n : ℕ). slice_get ys n) (omega arith)
behind (x ∷ xs) ys i = let e : length (x ∷ xs) + i ≡ suc (length xs + i) = omega arith in ap (λ (n : ℕ). slice_get (x ∷ (xs ++ ys)) n) e ∙ behind xs ys i

-- a number below the successor of another
below_next : (i k : ℕ) → i < suc k → (i ≡ k) ⊎ (i < k)
below_next i k below = eq-or-lt_of_le (omega arith)

-- EACH AT ITS PLACE

as_many_of : (d sessions : ℕ) → length (new_passes_of d sessions) ≡ sessions
as_many_of d zero = refl
as_many_of d (suc k) = length-append (new_passes_of d k) (new_pass d (k + 1) ∷ []) ∙ ap (λ (n : ℕ). n + 1) (as_many_of d k) ∙ add-one k

as_many : (databases sessions : ℕ) → length (new_passes databases sessions) ≡ databases * sessions
as_many zero sessions = omega arith
as_many (suc d) sessions = let a = as_many d sessions in let b = as_many_of d sessions in length-append (new_passes d sessions) (new_passes_of d sessions) ∙ (grind arith)

-- the pass appended to others
next_place : (xs : List Pass) (x : Pass) (i : ℕ) → i ≡ length xs → slice_get (xs ++ x ∷ []) i ≡ Some x
next_place xs x i is = ap (λ (n : ℕ). slice_get (xs ++ x ∷ []) n) (let e : i ≡ length xs + 0 = omega arith in e) ∙ behind xs (x ∷ []) 0

-- the place of a session's pass among those of its database
place_of : (d sessions before : ℕ) → before < sessions → slice_get (new_passes_of d sessions) before ≡ Some (new_pass d (before + 1))
place_of d zero before below = absurd (omega arith)
place_of d (suc k) before below =
    elim (below_next before k below) as (λ _. slice_get (new_passes_of d (suc k)) before ≡ Some (new_pass d (before + 1))) [
      | inl last ↦ next_place (new_passes_of d k) (new_pass d (k + 1)) before (last ∙ sym (as_many_of d k)) ∙ ap (λ (n : ℕ). Some (new_pass d (n + 1))) (sym last)
      | inr earlier ↦ front (new_passes_of d k) (new_pass d (k + 1) ∷ []) before (new_pass d (before + 1)) (place_of d k before earlier)
    ]

-- and among all passes
pub passes_have_places : (databases sessions database before : ℕ) → database < databases → before < sessions
    → slice_get (new_passes databases sessions) (database * sessions + before) ≡ Some (new_pass database (before + 1))
passes_have_places zero sessions database before below among = absurd (omega arith)
passes_have_places (suc d) sessions database before below among =
    elim (below_next database d below) as (λ _. slice_get (new_passes (suc d) sessions) (database * sessions + before) ≡ Some (new_pass database (before + 1))) [
      | inl last ↦
          ap (λ (n : ℕ). slice_get (new_passes (suc d) sessions) (n + before)) (ap (λ (n : ℕ). n * sessions) last ∙ sym (as_many d sessions))
          ∙ behind (new_passes d sessions) (new_passes_of d sessions) before
          ∙ place_of d sessions before among
          ∙ ap (λ (n : ℕ). Some (new_pass n (before + 1))) (sym last)
      | inr earlier ↦
          front (new_passes d sessions) (new_passes_of d sessions) (database * sessions + before) (new_pass database (before + 1))
          (passes_have_places d sessions database before earlier among)
    ]

-- EACH ONCE

same : (n : ℕ) → (n == n) ≡ true
same n = grind arith

other : (n m : ℕ) → (n ≡ m → ⊥) → (n == m) ≡ false
other n m apart = grind arith

-- how often a pass is that of a session of a database
abbrev times : ℕ → ℕ → Pass → ℕ
times d k pass = cond (is_at d k pass) 1 0

-- one more pass adds its own count
one_more : (d k : ℕ) (passes : List Pass) (pass : Pass) → passes_at d k (passes ++ pass ∷ []) ≡ passes_at d k passes + times d k pass
one_more d k passes pass =
    let both : passes_at d k (passes ++ pass ∷ []) ≡ passes_at d k passes + (0 + times d k pass) = sum_by-append (times d k) passes (pass ∷ []) in
    omega arith

elsewhere : (d k e s : ℕ) → (e ≡ d → ⊥) → times d k (new_pass e s) ≡ 0
elsewhere d k e s apart = ap (λ (b : Bool). cond (b && (s == k)) 1 0) (other e d apart)

another : (d k s : ℕ) → (s ≡ k → ⊥) → times d k (new_pass d s) ≡ 0
another d k s apart = ap (λ (b : Bool). cond (b && (s == k)) 1 0) (same d) ∙ ap (λ (b : Bool). cond b 1 0) (other s k apart)

itself : (d s : ℕ) → times d s (new_pass d s) ≡ 1
itself d s = ap (λ (b : Bool). cond (b && (s == s)) 1 0) (same d) ∙ ap (λ (b : Bool). cond b 1 0) (same s)

-- the passes of another database do not contain it
none_of_others : (d k e sessions : ℕ) → (e ≡ d → ⊥) → passes_at d k (new_passes_of e sessions) ≡ 0
none_of_others d k e zero apart = refl
none_of_others d k e (suc s) apart =
    let rest = none_of_others d k e s apart in
    let last = elsewhere d k e (s + 1) apart in
    let both = one_more d k (new_passes_of e s) (new_pass e (s + 1)) in
    omega arith

-- it does not occur before its session
none_yet : (d k sessions : ℕ) → sessions < k → passes_at d k (new_passes_of d sessions) ≡ 0
none_yet d k zero below = refl
none_yet d k (suc s) below =
    let rest = none_yet d k s (omega arith) in
    let last = another d k (s + 1) (λ is. absurd (omega arith)) in
    let both = one_more d k (new_passes_of d s) (new_pass d (s + 1)) in
    omega arith

once_of : (d k sessions : ℕ) → 1 ≤ k → k ≤ sessions → passes_at d k (new_passes_of d sessions) ≡ 1
once_of d k zero low high = absurd (omega arith)
once_of d k (suc s) low high =
    let both = one_more d k (new_passes_of d s) (new_pass d (s + 1)) in
    elim (eq-or-lt_of_le high) as (λ _. passes_at d k (new_passes_of d (suc s)) ≡ 1) [
      | inl last ↦
          let rest = none_yet d k s (omega arith) in
          let here : times d k (new_pass d (s + 1)) ≡ 1 = subst (λ (n : ℕ). times d k (new_pass d n) ≡ 1) (let e : k ≡ s + 1 = omega arith in e) (itself d k) in
          omega arith
      | inr earlier ↦
          let rest = once_of d k s low (omega arith) in
          let here = another d k (s + 1) (λ is. absurd (omega arith)) in
          omega arith
    ]

none_before : (d k databases sessions : ℕ) → databases ≤ d → passes_at d k (new_passes databases sessions) ≡ 0
none_before d k zero sessions below = refl
none_before d k (suc e) sessions below =
    let rest = none_before d k e sessions (omega arith) in
    let last = none_of_others d k e sessions (λ is. absurd (omega arith)) in
    let both : passes_at d k (new_passes (suc e) sessions) ≡ passes_at d k (new_passes e sessions) + passes_at d k (new_passes_of e sessions) =
    sum_by-append (times d k) (new_passes e sessions) (new_passes_of e sessions) in
    omega arith

once : (databases sessions d k : ℕ) → d < databases → 1 ≤ k → k ≤ sessions → passes_at d k (new_passes databases sessions) ≡ 1
once zero sessions d k below low high = absurd (omega arith)
once (suc e) sessions d k below low high =
    let both : passes_at d k (new_passes (suc e) sessions) ≡ passes_at d k (new_passes e sessions) + passes_at d k (new_passes_of e sessions) =
    sum_by-append (times d k) (new_passes e sessions) (new_passes_of e sessions) in
    elim (below_next d e below) as (λ _. passes_at d k (new_passes (suc e) sessions) ≡ 1) [
      | inl last ↦
          let rest = none_before d k e sessions (omega arith) in
          let here : passes_at d k (new_passes_of e sessions) ≡ 1 = subst (λ (n : ℕ). passes_at d k (new_passes_of n sessions) ≡ 1) last (once_of d k sessions low high) in
          omega arith
      | inr earlier ↦
          let rest = once e sessions d k earlier low high in
          let here = none_of_others d k e sessions (λ is. absurd (omega arith)) in
          omega arith
    ]

-- NO OTHERS

seats_of : (databases sessions d count : ℕ) → d < databases → count ≤ sessions → AllByRecursion (IsPassOf databases sessions) (new_passes_of d count)
seats_of databases sessions d zero below few = tt
seats_of databases sessions d (suc k) below few =
    append_all (IsPassOf databases sessions) (new_passes_of d k) (new_pass d (k + 1) ∷ []) (seats_of databases sessions d k below (omega arith))
    (record { database = below; session = (omega arith, omega arith) }, tt)

seats_all : (databases sessions count : ℕ) → count ≤ databases → AllByRecursion (IsPassOf databases sessions) (new_passes count sessions)
seats_all databases sessions zero few = tt
seats_all databases sessions (suc d) few =
    append_all (IsPassOf databases sessions) (new_passes d sessions) (new_passes_of d sessions) (seats_all databases sessions d (omega arith))
    (seats_of databases sessions d sessions (omega arith) (omega arith))

pub new_passes_are_all : (databases sessions : ℕ) → AreAllPasses databases sessions (new_passes databases sessions)
new_passes_are_all databases sessions = record {
  each = λ d k below low high. once databases sessions d k below low high;
  none_else = seats_all databases sessions databases (omega arith);
}

-- each new pass belongs to one of the shared databases and sessions
have_seats : {S : Type 0} (sharing : Shared S) (databases sessions : ℕ) → length sharing.openings ≡ databases → sharing.sessions ≡ sessions
    → (passes : List Pass) → AllByRecursion (IsPassOf databases sessions) passes → AllByRecursion (HasPass sharing) passes
have_seats sharing databases sessions long as_many [] all = tt
have_seats sharing databases sessions long as_many (s ∷ ss) all = (
  record { database = rw long all.0.database; session = rw as_many all.0.session.1 },
  have_seats sharing databases sessions long as_many ss all.1,
)

pub all_have_seats : {S : Type 0} (sharing : Shared S) (databases sessions : ℕ) (passes : List Pass) → length sharing.openings ≡ databases → sharing.sessions ≡ sessions
    → passes ≡ new_passes databases sessions → All (HasPass sharing) passes
all_have_seats sharing databases sessions passes long as_many made =
    let first : Pass = new_pass 0 0 in
    let all : AllByRecursion (HasPass sharing) passes =
    subst (AllByRecursion (HasPass sharing)) (sym made) (have_seats sharing databases sessions long as_many (new_passes databases sessions) (seats_all databases sessions databases (omega arith))) in
    All-from_get_or (HasPass sharing) passes first (λ i below. all-get_or (HasPass sharing) passes i first all below)
