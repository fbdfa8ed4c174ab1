-- What a crash cannot undo: what was answered, and the ends of a plan that were done.
use Rattle.std.specs.Prelude.{◌≡◌, ℕ, zero, suc, ◌+◌, ◌-◌, ◌<◌, ◌≤◌, true, false, IfOk, IsTrue, OnOk, Option, Some, None, MatchOption, Result, Ok, Err, nat_lt, List, [], ◌∷◌, ◌++◌, length, take, drop}
use Rattle.std.specs.List.{AllByRecursion}
use Rattle.std.proofs.Common.{inl, inr, refl, sym, ap, subst, arith, get_or, le_refl, min, ◌∙◌}
use Rattle.std.proofs.lemmas.Bool.{cases_Bool, cases_lt, false≢true}
use Rattle.std.proofs.lemmas.Bool.Decides.{nat_tests}
use Rattle.std.proofs.lemmas.List.{drop_more, nil_from_length, length-take-le, take_all, take_min}
use Rattle.sqlite.specs.Held.{state}
use Rattle.sqlite.specs.State.{State as Store, HasCleanDisk, Survives}
use Rattle.sqlite_trees.specs.Tree.{Trees}
use Rattle.sqlite_trees.specs.declared.store.Store.{Ghosts}
use Rattle.escrow_num.specs.declared.failure.Failure.{Failure}
use Rattle.escrow_num.specs.declared.refusal.Refusal.{Refusal}
use Rattle.escrow_num.specs.declared.reservation.Reservation.{Reservation}
use Rattle.escrow_num.specs.declared.session.End.{End}
use Rattle.escrow_num.specs.declared.session.End.TheVariants as end
use Rattle.escrow_statement.specs.declared.statement.Statement.{Statement}
use Rattle.escrow_statement.specs.declared.statement.Statement.TheVariants as statement
use Rattle.escrow_journal.specs.Reservations.{own, others}
use Rattle.escrow_schema.specs.Rows.{applied}
use Rattle.escrow_machine.specs.declared.reply.Reply.{Reply}
use Rattle.escrow_machine.specs.declared.reply.Reply.TheVariants as reply
use Rattle.escrow_machine.specs.Reply.{failure_of, restart_reply, tells_write}
use Rattle.escrow_machine.specs.Settle.{committed_by, settled, after_end, after_ends}
use Rattle.escrow_machine.specs.State.{State}
use Rattle.escrow_machine.specs.Step.{step, may_fail, IsStep, StepOrRefusal}
use Rattle.escrow_machine.specs.Transition.{transition_of}
use Rattle.escrow_machine.proofs.Applying.{applied_none}
use Rattle.escrow_machine.proofs.Choices.{append_all}
use Rattle.escrow_machine.proofs.Settling.{settled_is_the_run}
use Rattle.escrow_core.specs.Database.{Database}
use Rattle.escrow_core.specs.Left.{Lasts}
use Rattle.escrow_core.specs.Ends.{left_after}
use Rattle.escrow_core.specs.Serves.{AreAfter, AreAfterAtLeast, AreHeldOf, Serves}
use Rattle.escrow_core.specs.Serving.{AreAfterEnd}
use Rattle.escrow_core.proofs.Parts.{IsPart, all_at_least, commits_number, commits_of, ends_append, part_take}
use Rattle.escrow_core.proofs.Quiet.{AreKept, held_after, kept_then}

-- LISTS

pub all_drop : {A : Type 0} (P : A → Type 0) (n : ℕ) (xs : List A) → AllByRecursion P xs → AllByRecursion P (drop n xs)
all_drop P zero xs all = all
all_drop P (suc n) [] all = tt
all_drop P (suc n) (x ∷ xs) all = all_drop P n xs all.1

pub drop_both : {A : Type 0} (P : A → Type 0) (n : ℕ) (xs ys : List A) → AllByRecursion P (drop n xs) → AllByRecursion P ys → AllByRecursion P (drop n (xs ++ ys))
drop_both P zero xs ys all more = append_all P xs ys all more
drop_both P (suc n) [] ys all more = all_drop P (suc n) ys more
drop_both P (suc n) (x ∷ xs) ys all more = drop_both P n xs ys all more

-- TWO CALLS

pub lasts_then : (a b c : Store) (One Two Both : Type 0) (P Q R : Trees → Type 0) → (HasCleanDisk c → HasCleanDisk b) → (One → Two → Both)
    → (HasCleanDisk c → (trees : Trees) → Two → P trees → R trees) → (HasCleanDisk c → (trees : Trees) → Q trees → R trees) → Lasts a b One P → Lasts b c Two Q → Lasts a c Both R
lasts_then a b c One Two Both P Q R was both early late one two clean trees may = elim (two clean trees may) [
  | inr made ↦ inr (late clean trees made)
  | inl kept ↦ elim (one (was clean) trees kept.1) [
    | inr made ↦ inr (early clean trees kept.0 made)
    | inl before ↦ inl (both before.0 kept.0, before.1)
  ]
]

-- a call that wrote nothing leaves nothing else
pub lasts_survives : (a b : Store) (Nothing : Type 0) (P Q : Trees → Type 0) → Nothing → (HasCleanDisk b → (trees : Trees) → P trees → Q trees) → Survives a b P → Lasts a b Nothing Q
lasts_survives a b Nothing P Q none made survives clean trees may = elim (survives.crash clean trees may) [
  | inl before ↦ inl (none, before)
  | inr after ↦ inr (made clean trees after)
]

-- ONE EVENT

written_counts : (answer : Reply) → tells_write answer ≡ true → failure_of answer ≡ None
written_counts (reply.Refused r) is = absurd (false≢true is)
written_counts _ is = refl

-- a statement whose reply says that the store was written is a step
written_step : (s : State) (session : ℕ) (asked : Statement) (answer : Reply) (new : State) (o : Option Failure) → o ≡ None
    → MatchOption o (IsStep s session asked answer new) (λ f. IsTrue (may_fail s session asked f) × (new ≡ s)) → new ≡ (step s session asked).1
written_step s session asked answer new None is event = ap (λ (p : Reply × State). p.1) event.is_step
written_step s session asked answer new (Some f) is event = absurd (cc)

-- the reply to a restart does not
pub restart_quiet : (outcome : Result (Unit {0}) Refusal) → tells_write (restart_reply outcome) ≡ false
restart_quiet (Ok done) = refl
restart_quiet (Err r) = refl

pub step_lasts : {S : Type 0} (g : Ghosts S) (session : ℕ) (asked : Statement) (old new : Database S) (answer : Reply)
    → (HasCleanDisk (state g new.store) → StepOrRefusal old.state session asked answer new.state)
    → Survives (state g old.store) (state g new.store) (λ trees. IsTrue (state g old.store).is_open × AreAfter old.state session asked trees)
    → (IsTrue (tells_write answer) → HasCleanDisk (state g new.store) → (trees : Trees) → (state g new.store).may_leave trees → AreHeldOf new.state trees)
    → Lasts (state g old.store) (state g new.store) (tells_write answer ≡ false) (AreAfter old.state session asked)
step_lasts g session asked old new answer event survives durable clean trees may = elim (cases_Bool (tells_write answer)) [
  | inl written ↦
      let is : new.state ≡ (step old.state session asked).1 = written_step old.state session asked answer new.state (failure_of answer) (written_counts answer written) (event clean) in
      inr (subst (λ (s : State). AreHeldOf s trees) is (durable written clean trees may))
  | inr quiet ↦ lasts_survives (state g old.store) (state g new.store) (tells_write answer ≡ false) _ (AreAfter old.state session asked) quiet (λ _ _ k. k.1) survives clean trees may
]

-- ONE END

-- the reservations that remain, and the rows if none was committed
pub end_left : (s : State) (a : ℕ) (x : End) → (after_end s a x).reservations ≡ others a s.reservations
unfolding transition_of
end_left s a end.Commit = refl
end_left s a end.Rollback = refl

end_quiet : (s : State) (a : ℕ) (x : End) → commits_of ((a, x) ∷ []) s.reservations ≡ 0 → AreKept s (after_end s a x)
unfolding transition_of
end_quiet s a end.Commit none =
    let mine : own a s.reservations ≡ [] = nil_from_length (own a s.reservations) (omega (arith, none)) in
    (refl, subst (λ (rs : List Reservation). applied s.rows rs ≡ s.rows) (sym mine) (applied_none s.rows))
end_quiet s a end.Rollback none = (refl, refl)

-- PLANS

pub ends_left : (s : State) (plan : List (ℕ × End)) → (after_ends s plan).reservations ≡ left_after plan s.reservations
ends_left s [] = refl
ends_left s (entry ∷ plan) = ends_left (after_end s entry.0 entry.1) plan ∙ ap (left_after plan) (end_left s entry.0 entry.1)

-- the first entry, and the others
commits_first : (entry : ℕ × End) (plan : List (ℕ × End)) (reservations : List Reservation)
    → commits_of (entry ∷ plan) reservations ≡ commits_of (entry ∷ []) reservations + commits_of plan (others entry.0 reservations)
commits_first entry plan reservations = omega arith

commits_append : (first second : List (ℕ × End)) (reservations : List Reservation)
    → commits_of (first ++ second) reservations ≡ commits_of first reservations + commits_of second (left_after first reservations)
commits_append [] second reservations = omega arith
commits_append (entry ∷ first) second reservations = omega (arith, commits_append first second (others entry.0 reservations))

-- entries that commit nothing change no row
quiet_first : (part : List (ℕ × End)) (s : State) (p : ℕ) → commits_of (take p part) s.reservations ≡ 0 → AreKept s (after_ends s (take p part))
quiet_first part s zero none = (refl, refl)
quiet_first [] s (suc p) none = (refl, refl)
quiet_first (entry ∷ part) s (suc p) none =
    let parts = commits_first entry (take p part) s.reservations in
    let next = after_end s entry.0 entry.1 in
    let rest : commits_of (take p part) next.reservations ≡ 0 = ap (commits_of (take p part)) (end_left s entry.0 entry.1) ∙ omega (arith, parts, none) in
    kept_then s next (after_ends next (take p part)) (end_quiet s entry.0 entry.1 (omega (arith, parts, none))) (quiet_first part next p rest)

quiet_between : (part : List (ℕ × End)) (s : State) (m p : ℕ) → m ≤ p → commits_of (take p part) s.reservations ≡ 0 → AreKept (after_ends s (take m part)) (after_ends s (take p part))
quiet_between part s zero p few none = quiet_first part s p none
quiet_between [] s (suc m) p few none = subst (λ (xs : List (ℕ × End)). AreKept s (after_ends s xs)) (sym (take_all p [] (omega arith))) (refl, refl)
quiet_between (entry ∷ part) s (suc m) zero few none = absurd (omega (arith, few))
quiet_between (entry ∷ part) s (suc m) (suc p) few none =
    let next = after_end s entry.0 entry.1 in
    let rest : commits_of (take p part) next.reservations ≡ 0 =
    ap (commits_of (take p part)) (end_left s entry.0 entry.1) ∙ omega (arith, commits_first entry (take p part) s.reservations, none) in
    quiet_between part next m p (omega (arith, few)) rest

-- after some first entries of a plan
held_at : (plan : List (ℕ × End)) (s : State) (n : ℕ) (trees : Trees) → AreHeldOf (after_ends s (take n plan)) trees → AreHeldOf (settled (take n plan) s) trees
held_at plan s n trees = subst (λ (t : State). AreHeldOf t trees) (sym (settled_is_the_run s (take n plan)))

held_run : (plan : List (ℕ × End)) (s : State) (n : ℕ) (trees : Trees) → AreHeldOf (settled (take n plan) s) trees → AreHeldOf (after_ends s (take n plan)) trees
held_run plan s n trees = subst (λ (t : State). AreHeldOf t trees) (settled_is_the_run s (take n plan))

-- after the first i entries of a plan, a crash leaves the tables and rows after at least these, or none of these
-- committed a reservation
abbrev pub LastsTo : Store → Store → List (ℕ × End) → ℕ → State → Type 0
LastsTo old new plan i s = Lasts old new (commits_of (take i plan) s.reservations ≡ 0) (AreAfterAtLeast i plan s)

module _ (plan : List (ℕ × End)) (i : ℕ) (part : List (ℕ × End)) (p : ℕ) (s mid : State) (is_part : IsPart plan i part) (within : p ≤ length part) (before : mid ≡ after_ends s (take i plan)) where
  -- the state after the first entries of a part
  so_many : (m : ℕ) → m ≤ length part → after_ends mid (take m part) ≡ after_ends s (take (i + m) plan)
  so_many m few =
      ap (λ (t : State). after_ends t (take m part)) before ∙ sym (ends_append s (take i plan) (take m part)) ∙ ap (after_ends s) (sym (part_take plan i part m is_part few))

  commits_both : commits_of (take (i + p) plan) s.reservations ≡ commits_of (take i plan) s.reservations + commits_of (take p part) mid.reservations
  commits_both =
      let same : left_after (take i plan) s.reservations ≡ mid.reservations = sym (ap (λ (t : State). t.reservations) before ∙ ends_left s (take i plan)) in
      ap (λ (xs : List (ℕ × End)). commits_of xs s.reservations) (part_take plan i part p is_part within) ∙ commits_append (take i plan) (take p part) s.reservations
      ∙ ap (λ (rs : List Reservation). commits_of (take i plan) s.reservations + commits_of (take p part) rs) same

  -- what was left before the part is left after the first of its entries, if these commit nothing
  later : (trees : Trees) → commits_of (take p part) mid.reservations ≡ 0 → AreAfterAtLeast i plan s trees → AreAfterAtLeast (i + p) plan s trees
  later trees none left = elim (cases_lt left.0 (i + p)) [
    | inr past ↦ (left.0, past, left.2)
    | inl below ↦
        let m = left.0 - i in
        let same : i + m ≡ left.0 = omega (arith, left.1) in
        let few : m ≤ p = omega (arith, below, left.1) in
        let there : AreHeldOf (after_ends mid (take m part)) trees =
        subst (λ (t : State). AreHeldOf t trees) (ap (λ (n : ℕ). after_ends s (take n plan)) (sym same) ∙ sym (so_many m (omega (arith, few, within)))) (held_run plan s left.0 trees left.2) in
        let kept = quiet_between part mid m p few none in
        let here : AreHeldOf (after_ends mid (take p part)) trees = held_after (after_ends mid (take m part)) (after_ends mid (take p part)) trees kept there in
        (i + p, le_refl (i + p), held_at plan s (i + p) trees (subst (λ (t : State). AreHeldOf t trees) (so_many p within) here))
  ]

  within_part : (trees : Trees) → AreAfterAtLeast p part mid trees → AreAfterAtLeast (i + p) plan s trees
  within_part trees left =
      let k = min left.0 (length part) in
      let there : AreHeldOf (after_ends mid (take k part)) trees = subst (λ (xs : List (ℕ × End)). AreHeldOf (after_ends mid xs) trees) (sym (take_min left.0 part)) (held_run part mid left.0 trees left.2) in
      (i + k, omega (arith, left.1, within), held_at plan s (i + k) trees (subst (λ (t : State). AreHeldOf t trees) (so_many k (omega arith)) there))

-- a part is done, or some first entries of it
pub part_lasts : (a b c : Store) (plan : List (ℕ × End)) (i : ℕ) (part : List (ℕ × End)) (p q : ℕ) (s mid : State) → IsPart plan i part → p ≤ length part → q ≡ i + p
    → (HasCleanDisk b → mid ≡ after_ends s (take i plan)) → (HasCleanDisk c → HasCleanDisk b) → LastsTo a b plan i s → LastsTo b c part p mid → LastsTo a c plan q s
part_lasts a b c plan i part p q s mid is_part within is before was one two =
    subst (λ (n : ℕ). LastsTo a c plan n s) (sym is)
    (λ clean trees may.
    let at = before (was clean) in
    lasts_then a b c (commits_of (take i plan) s.reservations ≡ 0) (commits_of (take p part) mid.reservations ≡ 0) (commits_of (take (i + p) plan) s.reservations ≡ 0) _ _ (AreAfterAtLeast (i + p) plan s) was
    (λ none more. omega (arith, none, more, commits_both plan i part p s mid is_part within at))
    (λ _ left none made. later plan i part p s mid is_part within at left none made)
    (λ _ left made. within_part plan i part p s mid is_part within at left made) one two clean trees may)

-- nothing was done yet
pub lasts_begun : (now : Store) (plan : List (ℕ × End)) (s : State) → LastsTo now now plan 0 s
lasts_begun now plan s = λ _ _ may. inl (refl, may)

-- a plan and its first entries, as contracts name them
pub none_by : (plan : List (ℕ × End)) (reservations : List Reservation) → committed_by plan reservations ≡ [] → commits_of plan reservations ≡ 0
none_by plan reservations none = sym (commits_number plan reservations) ∙ ap length none

none_of : (plan : List (ℕ × End)) (reservations : List Reservation) → commits_of plan reservations ≡ 0 → committed_by plan reservations ≡ []
none_of plan reservations none = nil_from_length (committed_by plan reservations) (commits_number plan reservations ∙ none)

pub none_first : (reservations : List Reservation) → committed_by [] reservations ≡ []
none_first reservations = none_of [] reservations refl

-- a plan stops at a place
pub lasts_stop : (a b : Store) (plan : List (ℕ × End)) (i : ℕ) (s : State) → i ≤ length plan → LastsTo a b plan i s
    → Lasts a b (committed_by (take i plan) s.reservations ≡ []) (AreAfterAtLeast (length (take i plan)) plan s)
lasts_stop a b plan i s within lasts clean trees may = elim (lasts clean trees may) [
  | inl kept ↦ inl (none_of (take i plan) s.reservations kept.0, kept.1)
  | inr made ↦ inr (made.0, omega (arith, made.1, length-take-le i plan within), made.2)
]

pub stop_lasts : (a b : Store) (plan : List (ℕ × End)) (i : ℕ) (s : State) → i ≤ length plan
    → Lasts a b (committed_by (take i plan) s.reservations ≡ []) (AreAfterAtLeast (length (take i plan)) plan s) → LastsTo a b plan i s
stop_lasts a b plan i s within lasts clean trees may = elim (lasts clean trees may) [
  | inl kept ↦ inl (none_by (take i plan) s.reservations kept.0, kept.1)
  | inr made ↦ inr (made.0, omega (arith, made.1, length-take-le i plan within), made.2)
]

-- or it is done
pub lasts_end : (a b : Store) (plan : List (ℕ × End)) (i : ℕ) (s : State) → length plan ≤ i → LastsTo a b plan i s
    → Lasts a b (committed_by plan s.reservations ≡ []) (AreAfterAtLeast (length plan) plan s)
lasts_end a b plan i s past lasts clean trees may = elim (lasts clean trees may) [
  | inl kept ↦ inl (none_of plan s.reservations (subst (λ (xs : List (ℕ × End)). commits_of xs s.reservations ≡ 0) (take_all i plan past) kept.0), kept.1)
  | inr made ↦ inr (made.0, omega (arith, made.1, past), made.2)
]

pub end_lasts : (a b : Store) (plan : List (ℕ × End)) (s : State)
    → Lasts a b (committed_by plan s.reservations ≡ []) (AreAfterAtLeast (length plan) plan s) → LastsTo a b plan (length plan) s
end_lasts a b plan s lasts clean trees may = elim (lasts clean trees may) [
  | inl kept ↦ inl (none_by (take (length plan) plan) s.reservations (subst (λ (xs : List (ℕ × End)). committed_by xs s.reservations ≡ []) (sym (take_all (length plan) plan (le_refl (length plan)))) kept.0), kept.1)
  | inr made ↦ inr made
]

-- one entry is done, or fails
pub entry_lasts : (b c : Store) (entry : ℕ × End) (mid new : State) → (HasCleanDisk c → new ≡ after_end mid entry.0 entry.1)
    → Lasts b c (committed_by (entry ∷ []) mid.reservations ≡ []) (AreHeldOf new) → LastsTo b c (entry ∷ []) 1 mid
entry_lasts b c entry mid new done lasts clean trees may = elim (lasts clean trees may) [
  | inl kept ↦ inl (none_by (entry ∷ []) mid.reservations kept.0, kept.1)
  | inr held ↦ inr (all_at_least (entry ∷ []) mid 1 trees (omega arith) (subst (λ (t : State). AreHeldOf t trees) (done clean) held))
]

pub entry_fails : (b c : Store) (entry : ℕ × End) (mid : State) → Survives b c (λ trees. IsTrue b.is_open × AreAfterEnd mid entry.0 entry.1 trees) → LastsTo b c (entry ∷ []) 0 mid
entry_fails b c entry mid survives =
    lasts_survives b c (commits_of [] mid.reservations ≡ 0) _ (AreAfterAtLeast 0 (entry ∷ []) mid) refl (λ _ trees k. all_at_least (entry ∷ []) mid 0 trees (omega arith) k.1) survives

-- the entry at an index is a part
pub one_part : (plan : List (ℕ × End)) (i : ℕ) (entry : ℕ × End) → i < length plan → entry ≡ get_or plan i entry → IsPart plan i (entry ∷ [])
one_part plan i entry below at =
    let rest : drop i plan ≡ entry ∷ drop (i + 1) plan = drop_more plan i entry below ∙ ap (λ (e : ℕ × End). e ∷ drop (i + 1) plan) (sym at) in
    record { n = 1; is = sym (ap (take 1) rest); few = subst (λ (xs : List (ℕ × End)). 1 ≤ length xs) (sym rest) (omega arith) }

-- ONE SESSION

module _ {S : Type 0} (g : Ghosts S) (session : ℕ) (old new : Database S) where
  -- its COMMIT is done
  commit_done : (count : ℕ) → count ≡ length (own session old.state.reservations) → Serves g session statement.Commit old (reply.Committed count) new
      → Lasts (state g old.store) (state g new.store) (committed_by ((session, end.Commit) ∷ []) old.state.reservations ≡ []) (AreHeldOf new.state)
  commit_done count is serves clean trees may =
      let after : new.state ≡ (step old.state session statement.Commit).1 = ap (λ (p : Reply × State). p.1) (serves.event clean).is_step in
      elim (step_lasts g session statement.Commit old new (reply.Committed count) serves.event serves.survives serves.durable clean trees may) [
        | inl kept ↦
            let quiet : nat_lt 0 count ≡ false = kept.0 in
            let none : count ≡ 0 = grind (arith, nat_tests) in
            inl (none_of ((session, end.Commit) ∷ []) old.state.reservations (omega (arith, none, is)), kept.1)
        | inr made ↦ inr (subst (λ (s : State). AreHeldOf s trees) (sym after) made)
      ]

  pub commit_lasts : (r : Result ℕ Failure) → IfOk r (λ count. Serves g session statement.Commit old (reply.Committed count) new) → IfOk r (λ count. count ≡ length (own session old.state.reservations))
      → OnOk r (Lasts (state g old.store) (state g new.store) (committed_by ((session, end.Commit) ∷ []) old.state.reservations ≡ []) (AreHeldOf new.state))
  commit_lasts (Ok count) serves is = commit_done count is serves
  commit_lasts (Err f) serves is = tt

pub rollback_lasts : (store : Store) (session : ℕ) (s new : State) → Lasts store store (committed_by ((session, end.Rollback) ∷ []) s.reservations ≡ []) (AreHeldOf new)
rollback_lasts store session s new = λ _ _ may. inl (none_of ((session, end.Rollback) ∷ []) s.reservations refl, may)
