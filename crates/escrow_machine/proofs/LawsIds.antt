-- What ids and savepoints say about the order of events.
use Rattle.std.specs.Prelude.{◌≡◌, ℕ, zero, suc, ◌+◌, ◌<◌, ◌≤◌, ◌==◌, Bool, true, false, MatchOption, Option, Some, None, List, [], ◌∷◌, slice_get, bytes_eq, IsTrue}
use Rattle.std.specs.List.{AllByRecursion}
use Rattle.std.proofs.Common.{inl, inr, sym, ap, ◌∙◌, subst, arith, le_refl, true≢false}
use Rattle.std.proofs.lemmas.Bool.{eqb-true, ltb-true}
use Rattle.std.proofs.lemmas.Option.{none-some, same_Some, get_or_from_slice_get, slice_get_within}
use Rattle.escrow_num.specs.declared.failure.Failure.{Failure}
use Rattle.escrow_num.specs.declared.reservation.Savepoint.{Savepoint}
use Rattle.escrow_num.specs.Ascending.{IsAscending}
use Rattle.escrow_num.proofs.Ascending.{ascending_filter}
use Rattle.escrow_num.proofs.Items.{all_at, has_all, has_filter}
use Rattle.escrow_num.proofs.Orders.{same_name}
use Rattle.escrow_statement.specs.declared.statement.Statement.{Statement}
use Rattle.escrow_journal.specs.Reservations.{own_savepoints, reservation_before, savepoint_before}
use Rattle.escrow_machine.specs.declared.event.Event.{Event}
use Rattle.escrow_machine.specs.declared.event.Event.TheVariants as event
use Rattle.escrow_machine.specs.declared.reply.Reply.{Reply}
use Rattle.escrow_machine.specs.declared.reply.Reply.TheVariants as reply
use Rattle.escrow_machine.specs.Laws.{IdsAreUsedOnce, IdsTellTheOrder, IsNoRestart}
use Rattle.escrow_machine.specs.Reply.{failure_of}
use Rattle.escrow_machine.specs.State.{State}
use Rattle.escrow_machine.specs.Step.{step, may_fail, IsStep, IsRun, StepOrRefusal}
use Rattle.escrow_machine.specs.Valid.{IsReservationIn, IsSavepointIn}
use Rattle.escrow_machine.proofs.LawsSteps.{ids_never_fall, reserved_takes_the_next_id}
use Rattle.escrow_machine.proofs.Savepoints.{before_parts}

-- ---- lists, item by item

-- what holds for every item holds for the item at an index
at_place : {A : Type 0} (P : A → Type 0) (xs : List A) (k : ℕ) (x : A) → AllByRecursion P xs → slice_get xs k ≡ Some x → P x
at_place P xs k x all at = all_at P xs k x (slice_get_within xs k x at) (sym (get_or_from_slice_get xs k x x at)) all

-- in an ascending list, the earlier of two items is before the later one
ascending_places : {A : Type 0} (before : A → A → Bool) (xs : List A) (i k : ℕ) (x y : A) → IsAscending before xs → i < k
    → slice_get xs i ≡ Some x → slice_get xs k ≡ Some y → IsTrue (before x y)
ascending_places before [] i k x y order below at there = absurd (none-some x at)
ascending_places before (z ∷ zs) zero zero x y order below at there = absurd (omega arith)
ascending_places {A} before (z ∷ zs) zero (suc k) x y order below at there =
    subst (λ (w : A). IsTrue (before w y)) (same_Some z x at) (at_place (λ (w : A). IsTrue (before z w)) zs k y order.0 there)
ascending_places before (z ∷ zs) (suc i) zero x y order below at there = absurd (omega arith)
ascending_places before (z ∷ zs) (suc i) (suc k) x y order below at there = ascending_places before zs i k x y order.1 (omega arith) at there

-- ---- ids

pub ids_tell_the_order : IdsTellTheOrder
ids_tell_the_order s valid = record {
  rise = λ i k a b below at there.
      ltb-true a.id b.id (ascending_places reservation_before s.reservations i k a b valid.orderly.reservation_order below at there);
  taken = λ i r at.
      let known = at_place (IsReservationIn s.catalog s.next_id) s.reservations i r valid.orderly.reservations_in at in
      (known.first, known.below);
  never_fall = λ session i k p q below at there.
      let order = ascending_filter savepoint_before (λ (x : Savepoint). x.session == session) s.savepoints valid.orderly.savepoint_order in
      let one : p.session ≡ session = eqb-true p.session session (of_session session i p at) in
      let other : q.session ≡ session = eqb-true q.session session (of_session session k q there) in
      elim (before_parts p q (ascending_places savepoint_before (own_savepoints session s.savepoints) i k p q order below at there)) [
        | inl lower ↦ absurd (omega arith)
        | inr earlier ↦ (
          earlier.made,
          λ same. true≢false (sym (subst (λ (n : List ℕ). bytes_eq p.name n ≡ true) same (same_name p.name)) ∙ earlier.named),
        )
      ];
  made = λ i p at.
      let known = at_place (IsSavepointIn s.next_id) s.savepoints i p valid.orderly.savepoints_in at in
      (known.first, known.within);
}
  where
    of_session : (session k : ℕ) (p : Savepoint) → slice_get (own_savepoints session s.savepoints) k ≡ Some p → (p.session == session) ≡ true
    of_session session k p at =
        at_place (λ (x : Savepoint). (x.session == session) ≡ true) (own_savepoints session s.savepoints) k p
        (has_all (λ (x : Savepoint). (x.session == session) ≡ true) (own_savepoints session s.savepoints)
        (λ x h. (has_filter (λ (y : Savepoint). y.session == session) s.savepoints x h).1)) at

-- a failure in place of a step does not lower the next id either
event_ids : (s : State) (session : ℕ) (asked : Statement) (answer : Reply) (new : State) (o : Option Failure)
    → MatchOption o (IsStep s session asked answer new) (λ f. IsTrue (may_fail s session asked f) × (new ≡ s)) → s.next_id ≤ new.next_id
event_ids s session asked answer new None h =
    subst (λ (t : State). s.next_id ≤ t.next_id) (sym (ap (λ (p : Reply × State). p.1) h.is_step)) (ids_never_fall s session asked)
event_ids s session asked answer new (Some f) h = subst (λ (t : State). s.next_id ≤ t.next_id) (sym h.1) (le_refl s.next_id)

-- a reservation takes the next id
event_reserves : (s : State) (session : ℕ) (asked : Statement) (id : ℕ) (new : State) → StepOrRefusal s session asked (reply.Reserved id) new
    → (id ≡ s.next_id) × (new.next_id ≡ s.next_id + 1)
event_reserves s session asked id new event =
    let is : (reply.Reserved id, new) ≡ step s session asked = event.is_step in
    let takes = reserved_takes_the_next_id s session asked id (sym (ap (λ (p : Reply × State). p.0) is)) in
    (takes.0, ap (λ (p : Reply × State). p.1.next_id) is ∙ takes.1)

-- each id granted in a run is at least the next id at its beginning
ids_from : (s : State) (events : List Event) (answers : List Reply) (new : State) (k b : ℕ) → AllByRecursion IsNoRestart events → IsRun s events answers new
    → slice_get answers k ≡ Some (reply.Reserved b) → s.next_id ≤ b
ids_from s [] [] new k b none run at = absurd (none-some (reply.Reserved b) at)
ids_from s [] (answer ∷ answers) new k b none run at = absurd run
ids_from s (happened ∷ events) [] new k b none run at = absurd run
ids_from s (event.Restart ∷ events) (answer ∷ answers) new k b none run at = absurd none.0
ids_from s (event.Statement session asked ∷ events) (answer ∷ answers) new zero b none run at =
    let served : StepOrRefusal s session asked (reply.Reserved b) run.0 =
    subst (λ (a : Reply). StepOrRefusal s session asked a run.0) (same_Some answer (reply.Reserved b) at) run.1 in
    let takes = event_reserves s session asked b run.0 served in
    let is : b ≡ s.next_id = takes.0 in
    omega arith
ids_from s (event.Statement session asked ∷ events) (answer ∷ answers) new (suc k) b none run at =
    let first : s.next_id ≤ run.0.next_id = event_ids s session asked answer run.0 (failure_of answer) run.1 in
    let later : run.0.next_id ≤ b = ids_from run.0 events answers new k b none.1 run.2 at in
    omega arith

pub ids_are_used_once : IdsAreUsedOnce
ids_are_used_once s [] [] new i k a b none run below at there = absurd (none-some (reply.Reserved a) at)
ids_are_used_once s [] (answer ∷ answers) new i k a b none run below at there = absurd run
ids_are_used_once s (happened ∷ events) [] new i k a b none run below at there = absurd run
ids_are_used_once s (event.Restart ∷ events) (answer ∷ answers) new i k a b none run below at there = absurd none.0
ids_are_used_once s (event.Statement session asked ∷ events) (answer ∷ answers) new zero zero a b none run below at there = absurd (omega arith)
ids_are_used_once s (event.Statement session asked ∷ events) (answer ∷ answers) new zero (suc k) a b none run below at there =
    let served : StepOrRefusal s session asked (reply.Reserved a) run.0 =
    subst (λ (x : Reply). StepOrRefusal s session asked x run.0) (same_Some answer (reply.Reserved a) at) run.1 in
    let takes = event_reserves s session asked a run.0 served in
    let is : a ≡ s.next_id = takes.0 in
    let next : run.0.next_id ≡ s.next_id + 1 = takes.1 in
    let later : run.0.next_id ≤ b = ids_from run.0 events answers new k b none.1 run.2 there in
    omega arith
ids_are_used_once s (event.Statement session asked ∷ events) (answer ∷ answers) new (suc i) zero a b none run below at there = absurd (omega arith)
ids_are_used_once s (event.Statement session asked ∷ events) (answer ∷ answers) new (suc i) (suc k) a b none run below at there =
    ids_are_used_once run.0 events answers new i k a b none.1 run.2 (omega arith) at there

-- ---- one more savepoint
