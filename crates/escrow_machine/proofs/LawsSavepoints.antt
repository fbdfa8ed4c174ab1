-- What a run of events does to a savepoint and to the reservations before it.
use Rattle.std.specs.Prelude.{◌≡◌, ◌⊎◌, ℕ, ◌≤◌, ◌==◌, Bool, true, false, not, nat_le, option_map, unwrap_or, MatchOption, IsSome, IsTrue, Option, Some, None, List, [], ◌∷◌, ◌++◌, filter}
use Rattle.std.specs.List.{AllByRecursion}
use Rattle.std.proofs.Common.{inl, inr, refl, sym, ap, ◌∙◌, subst, arith}
use Rattle.std.proofs.lemmas.Bool.{cases_Bool, and_cases, and_left, and_right, not_from_false, not-true, false_from_ne_true, leb-true, le-leb, eqb-true, eqb-false, eq-eqb}
use Rattle.std.proofs.lemmas.List.{append-nil}
use Rattle.std.proofs.lemmas.List.Elements.{filter-append}
use Rattle.escrow_num.specs.declared.reservation.Reservation.{Reservation}
use Rattle.escrow_num.specs.declared.reservation.Savepoint.{Savepoint}
use Rattle.escrow_num.proofs.Items.{Has, all_has, has_filter, find_has}
use Rattle.escrow_statement.specs.declared.statement.Statement.{Statement}
use Rattle.escrow_statement.specs.declared.statement.Statement.TheVariants as statement
use Rattle.escrow_statement.specs.declared.statement.UpdateText.{UpdateText}
use Rattle.escrow_schema.specs.declared.plan.Plan.{Plan}
use Rattle.escrow_schema.specs.declared.plan.Plan.TheVariants as plan
use Rattle.escrow_journal.specs.Open as journal
use Rattle.escrow_journal.specs.Reservations.{own, others, other_savepoints}
use Rattle.escrow_journal.specs.Savepoints.{is_named, savepoint_of, without_savepoint, through, is_after, not_after}
use Rattle.escrow_machine.specs.declared.event.Event.{Event}
use Rattle.escrow_machine.specs.declared.event.Event.TheVariants as event
use Rattle.escrow_num.specs.declared.failure.Failure.{Failure}
use Rattle.escrow_machine.specs.declared.reply.Reply.{Reply}
use Rattle.escrow_machine.specs.declared.reply.Reply.TheVariants as reply
use Rattle.escrow_machine.specs.Asked.{plan_of}
use Rattle.escrow_machine.specs.Event.{HasSession}
use Rattle.escrow_machine.specs.Laws.{BackLeavesWhatWas, MakesNone}
use Rattle.escrow_machine.specs.Reply.{failure_of}
use Rattle.escrow_machine.specs.State.{State, open_in, with_open}
use Rattle.escrow_machine.specs.Step.{step, may_fail, IsServed, IsStep, IsRun}
use Rattle.escrow_machine.specs.Transition.{transition_of, after_update, after_commit, after_rollback, after_savepoint}
use Rattle.escrow_machine.specs.Valid.{IsValid, IsSavepointIn}
use Rattle.escrow_machine.proofs.Filters.{filters_commute, filter_within, filter_within_items, filter_none}
use Rattle.escrow_machine.proofs.Kept.{find_filter}
use Rattle.escrow_machine.proofs.LawsBack.{back_step, made_in, made_found, all_stay}
use Rattle.escrow_machine.proofs.LawsSteps.{step_has, event_keeps_valid, restart_keeps_valid}
use Rattle.escrow_machine.proofs.SavepointNames.{IsBehind, named_is, found_beside, found_of_other, found_of_own, found_through_other, found_through_own}
use Rattle.escrow_machine.proofs.Accepted.{savepoint_room}
use Rattle.escrow_machine.proofs.ValidEnds.{returned_to}
use Rattle.escrow_machine.proofs.ValidSavepoint.{savepoint_valid}

-- THE RESERVATIONS BEFORE A SAVEPOINT

-- the session's reservations that were not made after the savepoint
abbrev front : Savepoint → List Reservation → List Reservation
front p reservations = own p.session (not_after p reservations)

-- they stay if a test keeps each of them
front_kept : (p : Savepoint) (keep : Reservation → Bool) (reservations : List Reservation)
    → ((r : Reservation) → r.session ≡ p.session → is_after p r ≡ false → keep r ≡ true) → front p (filter keep reservations) ≡ front p reservations
front_kept p keep reservations kept =
    let mine : Reservation → Bool = λ r. r.session == p.session in
    let early : Reservation → Bool = λ r. not (is_after p r) in
    ap (filter mine) (filters_commute early keep reservations)
    ∙ filter_within_items mine keep (filter early reservations)
    (λ r h t. kept r (eqb-true r.session p.session t) (not-true (is_after p r) (has_filter early reservations r h).1))

-- they stay if a later one is granted
front_push : (p : Savepoint) (reservations : List Reservation) (r : Reservation) → p.id ≤ r.id → front p (reservations ++ r ∷ []) ≡ front p reservations
front_push p reservations r later =
    let mine : Reservation → Bool = λ x. x.session == p.session in
    let early : Reservation → Bool = λ x. not (is_after p x) in
    let last : List Reservation = filter early (r ∷ []) in
    let none : filter mine last ≡ [] = filter_none mine last (λ x h. of_other x (has_filter early (r ∷ []) x h)) in
    ap (filter mine) (filter-append early reservations (r ∷ []))
    ∙ filter-append mine (filter early reservations) last
    ∙ ap (λ (xs : List Reservation). filter mine (filter early reservations) ++ xs) none
    ∙ append-nil (filter mine (filter early reservations))
  where
    of_other : (x : Reservation) → Has (r ∷ []) x × (not (is_after p x) ≡ true) → (x.session == p.session) ≡ false
    of_other x h = elim h.0 [
      | inl same ↦ elim (and_cases (x.session == p.session) (nat_le p.id x.id) (not-true (is_after p x) h.1)) [
        | inl other ↦ other
        | inr early ↦
            let is : nat_le p.id x.id ≡ true = subst (λ (y : Reservation). nat_le p.id y.id ≡ true) same (le-leb p.id r.id later) in
            absurd (cc)
      ]
      | inr none ↦ absurd none
    ]

-- WHAT A STEP LEAVES

-- the savepoint goes; or its name still finds it, and the reservations before it stay
abbrev Keeps : Savepoint → State → State → Type 0
Keeps p s new =
    (savepoint_of p.session p.name new.savepoints ≡ None)
    ⊎ ((savepoint_of p.session p.name new.savepoints ≡ savepoint_of p.session p.name s.savepoints)
    × (savepoint_of p.session p.name s.savepoints ≡ Some p → front p new.reservations ≡ front p s.reservations))

-- an UPDATE may grant a reservation, and no savepoint has a greater id
kept_by_update : (p : Savepoint) (s : State) (session : ℕ) (text : UpdateText) (o : Option Plan) → IsValid s
    → Keeps p s (unwrap_or (option_map (after_update s session text.table) o) s)
kept_by_update p s session text None valid = inr (refl, λ _. refl)
kept_by_update p s session text (Some (plan.Reserve key changes)) valid = inr (
  refl,
  λ found.
      front_push p s.reservations _ (all_has (IsSavepointIn s.next_id) s.savepoints valid.orderly.savepoints_in p (find_has (is_named p.session p.name) s.savepoints p found).0).within,
)
kept_by_update p s session text (Some (plan.Plain key values)) valid = inr (refl, λ _. refl)

-- a SAVEPOINT of another session or of another name
kept_by_savepoint : (p : Savepoint) (s : State) (session : ℕ) (name : List ℕ) → (session ≡ p.session → ¬ (name ≡ p.name)) → Keeps p s (after_savepoint s session name)
kept_by_savepoint p s session name other =
    let q = made_in s session name in
    let differs : is_named p.session p.name q ≡ false =
    false_from_ne_true (is_named p.session p.name q) (λ t. let same = named_is p.session p.name q t in other same.0 same.1) in
    let kept : (x : Savepoint) → is_named p.session p.name x ≡ true → not (is_named session name x) ≡ true = λ x t.
    not_from_false (is_named session name x) (false_from_ne_true (is_named session name x) (λ u.
    let mine = named_is p.session p.name x t in
    let named = named_is session name x u in
    other (sym named.0 ∙ mine.0) (sym named.1 ∙ mine.1))) in
    inr (
      found_beside p.session p.name q (without_savepoint session name s.savepoints) differs
          ∙ find_filter (is_named p.session p.name) (λ (x : Savepoint). not (is_named session name x)) s.savepoints kept,
      λ _. refl,
    )

-- the end of a transaction
kept_by_end : (p : Savepoint) (s new : State) (session : ℕ) → new.reservations ≡ others session s.reservations → new.savepoints ≡ other_savepoints session s.savepoints
    → Keeps p s new
kept_by_end p s new session reservations savepoints =
    elim (cases_Bool (session == p.session)) [
      | inl t ↦ inl (ap (savepoint_of p.session p.name) savepoints ∙ of_its_own (eqb-true session p.session t))
      | inr f ↦ inr (
        ap (savepoint_of p.session p.name) savepoints ∙ found_of_other p.session p.name session s.savepoints (eqb-false session p.session f),
        λ _. ap (front p) reservations ∙ front_kept p (λ r. not (r.session == session)) s.reservations
            (λ r mine _. not_from_false (r.session == session)
            (false_from_ne_true (r.session == session) (λ t. eqb-false session p.session f (sym (eqb-true r.session session t) ∙ mine)))),
      )
    ]
  where
    of_its_own : session ≡ p.session → savepoint_of p.session p.name (other_savepoints session s.savepoints) ≡ None
    of_its_own same = subst (λ (k : ℕ). savepoint_of p.session p.name (other_savepoints k s.savepoints) ≡ None) (sym same) (found_of_own p.session p.name s.savepoints)

-- a ROLLBACK TO
kept_by_back_to : (p q : Savepoint) (s : State) → IsValid s → savepoint_of q.session q.name s.savepoints ≡ Some q → Keeps p s (returned_to s q)
kept_by_back_to p q s valid found =
    let keep : Reservation → Bool = λ r. not (is_after q r) in
    elim (cases_Bool (q.session == p.session)) [
      | inl t ↦ elim (own_back (eqb-true q.session p.session t)) [
        | inl none ↦ inl none
        | inr behind ↦ inr (
          behind.0,
          λ stood. front_kept p keep s.reservations (λ r mine early. not_from_false (is_after q r) (before_both r (behind.1 p stood) mine early)),
        )
      ]
      | inr f ↦ inr (
        found_through_other p.session p.name q.session q.name s.savepoints (eqb-false q.session p.session f),
        λ _. front_kept p keep s.reservations (λ r mine _. not_from_false (is_after q r)
            (and_left (r.session == q.session) (nat_le q.id r.id)
            (false_from_ne_true (r.session == q.session) (λ t. eqb-false q.session p.session f (sym (eqb-true r.session q.session t) ∙ mine))))),
      )
    ]
  where
    own_back : q.session ≡ p.session → IsBehind p.session p.name q s.savepoints (through q.session q.name s.savepoints)
    own_back same = subst (λ (k : ℕ). IsBehind k p.name q s.savepoints (through q.session q.name s.savepoints)) same
        (found_through_own q.session p.name q.name q s.savepoints valid.orderly.savepoint_order found)

    before_both : (r : Reservation) → p.id ≤ q.id → r.session ≡ p.session → is_after p r ≡ false → is_after q r ≡ false
    before_both r behind mine early =
        elim (and_cases (r.session == p.session) (nat_le p.id r.id) early) [
          | inl other ↦ let is : (r.session == p.session) ≡ true = eq-eqb r.session p.session mine in absurd (cc)
          | inr lower ↦ and_right (r.session == q.session) (nat_le q.id r.id) (false_from_ne_true (nat_le q.id r.id) (λ t.
              let at_least : q.id ≤ r.id = leb-true q.id r.id t in
              let is : nat_le p.id r.id ≡ true = le-leb p.id r.id (omega arith) in
              absurd (cc)))
        ]

kept_by_back : (p : Savepoint) (s : State) (session : ℕ) (name : List ℕ) (o : Option Savepoint) → IsValid s → savepoint_of session name s.savepoints ≡ o
    → Keeps p s (with_open s (unwrap_or (option_map (journal.returned_to (open_in s)) o) (open_in s)))
kept_by_back p s session name None valid found = inr (refl, λ _. refl)
kept_by_back p s session name (Some q) valid found =
    let named = named_is session name q (find_has (is_named session name) s.savepoints q found).1 in
    kept_by_back_to p q s valid
    (ap (λ (k : ℕ). savepoint_of k q.name s.savepoints) named.0 ∙ ap (λ (n : List ℕ). savepoint_of session n s.savepoints) named.1 ∙ found)

-- every statement but a SAVEPOINT of the same session and name
kept_by_transition : (p : Savepoint) (s : State) (session : ℕ) (asked : Statement) → IsValid s → (session ≡ p.session → ¬ (asked ≡ statement.Savepoint p.name))
    → Keeps p s (transition_of s session asked).next
unfolding transition_of
kept_by_transition p s session (statement.Create text) valid other = inr (refl, λ _. refl)
kept_by_transition p s session (statement.Drop name) valid other = inr (refl, λ _. refl)
kept_by_transition p s session (statement.Alter text) valid other = inr (refl, λ _. refl)
kept_by_transition p s session (statement.Insert text) valid other = inr (refl, λ _. refl)
kept_by_transition p s session (statement.Update text) valid other = kept_by_update p s session text (plan_of s text) valid
kept_by_transition p s session (statement.Delete text) valid other = inr (refl, λ _. refl)
kept_by_transition p s session (statement.Select text) valid other = inr (refl, λ _. refl)
kept_by_transition p s session (statement.ShowTable name) valid other = inr (refl, λ _. refl)
kept_by_transition p s session (statement.ShowJournal table) valid other = inr (refl, λ _. refl)
kept_by_transition p s session (statement.ShowBounds text) valid other = inr (refl, λ _. refl)
kept_by_transition p s session (statement.Savepoint name) valid other = kept_by_savepoint p s session name (λ mine named. other mine (ap statement.Savepoint named))
kept_by_transition p s session statement.Commit valid other = kept_by_end p s (after_commit s session) session refl refl
kept_by_transition p s session statement.Rollback valid other = kept_by_end p s (after_rollback s session) session refl refl
kept_by_transition p s session (statement.RollbackTo name) valid other = kept_by_back p s session name (savepoint_of session name s.savepoints) valid refl

kept_by_step : (p : Savepoint) (s : State) (session : ℕ) (asked : Statement) → IsValid s → (session ≡ p.session → ¬ (asked ≡ statement.Savepoint p.name))
    → Keeps p s (step s session asked).1
kept_by_step p s session asked valid other =
    step_has (λ (x : Reply × State). Keeps p s x.1) s session asked (λ _ _. inr (refl, λ _. refl)) (λ _. kept_by_transition p s session asked valid other)

-- a failure in place of a step
kept_by_event : (p : Savepoint) (s : State) (session : ℕ) (asked : Statement) (answer : Reply) (new : State) (o : Option Failure) → IsValid s
    → (session ≡ p.session → ¬ (asked ≡ statement.Savepoint p.name))
    → MatchOption o (IsStep s session asked answer new) (λ f. IsTrue (may_fail s session asked f) × (new ≡ s)) → Keeps p s new
kept_by_event p s session asked answer new None valid other h =
    subst (Keeps p s) (sym (ap (λ (x : Reply × State). x.1) h.is_step)) (kept_by_step p s session asked valid other)
kept_by_event p s session asked answer new (Some f) valid other h = subst (Keeps p s) (sym h.1) (inr (refl, λ _. refl))

-- WHAT A RUN LEAVES

-- the savepoint is gone; or it is still there, and so are the reservations before it
abbrev Stands : Savepoint → List Reservation → State → Type 0
Stands p before s =
    (savepoint_of p.session p.name s.savepoints ≡ None)
    ⊎ ((savepoint_of p.session p.name s.savepoints ≡ Some p) × (front p s.reservations ≡ before))

still_stands : (p : Savepoint) (before : List Reservation) (s new : State) → Stands p before s → Keeps p s new → Stands p before new
still_stands p before s new stands (inl none) = inl none
still_stands p before s new (inl none) (inr kept) = inl (kept.0 ∙ none)
still_stands p before s new (inr found) (inr kept) = inr (kept.0 ∙ found.0, kept.1 found.0 ∙ found.1)

-- after a restart it is gone
stands_restarted : (p : Savepoint) (before : List Reservation) (s : State) (answer : Reply) (new : State) → Stands p before s
    → IsServed s event.Restart answer new → Stands p before new
stands_restarted p before s answer new stands (inl done) = inl (ap (λ (t : State). savepoint_of p.session p.name t.savepoints) done.1)
stands_restarted p before s answer new stands (inr refused) = subst (Stands p before) (sym refused.1) stands

stands_through : (p : Savepoint) (before : List Reservation) (s : State) (events : List Event) (answers : List Reply) (new : State) → IsValid s
    → AllByRecursion HasSession events → AllByRecursion (MakesNone p.session p.name) events → Stands p before s → IsRun s events answers new
    → Stands p before new
stands_through p before s [] [] new valid of_sessions makes_none stands run = subst (Stands p before) (sym run) stands
stands_through p before s [] (answer ∷ answers) new valid of_sessions makes_none stands run = absurd run
stands_through p before s (happened ∷ events) [] new valid of_sessions makes_none stands run = absurd run
stands_through p before s (event.Statement session asked ∷ events) (answer ∷ answers) new valid of_sessions makes_none stands run =
    let kept = kept_by_event p s session asked answer run.0 (failure_of answer) valid makes_none.0 run.1 in
    stands_through p before run.0 events answers new
    (event_keeps_valid s session asked answer run.0 (failure_of answer) valid of_sessions.0 run.1)
    of_sessions.1 makes_none.1 (still_stands p before s run.0 stands kept) run.2
stands_through p before s (event.Restart ∷ events) (answer ∷ answers) new valid of_sessions makes_none stands run =
    stands_through p before run.0 events answers new
    (restart_keeps_valid s answer run.0 valid run.1)
    of_sessions.1 makes_none.1 (stands_restarted p before s answer run.0 stands run.1) run.2

-- a ROLLBACK TO it leaves those reservations
abbrev LeavesWhatWas : State → ℕ → State → State → Type 0
LeavesWhatWas s session later back =
    (own session back.reservations ≡ own session s.reservations)
    × (others session back.reservations ≡ others session later.reservations)
    × (back ≡ record later { reservations = back.reservations; savepoints = back.savepoints })

left_by_back : (s : State) (session : ℕ) (name : List ℕ) (later : State) → Stands (made_in s session name) (own session s.reservations) later
    → IsSome (savepoint_of session name later.savepoints) → LeavesWhatWas s session later (step later session (statement.RollbackTo name)).1
left_by_back s session name later (inl none) still = absurd (none_is_some (subst (λ (o : Option Savepoint). IsSome o) none still))
  where
    none_is_some : ¬ (IsSome {T = Savepoint} None)
    none_is_some h = absurd (cc)
left_by_back s session name later (inr stands) still =
    let p = made_in s session name in
    let left : LeavesWhatWas s session later (returned_to later p) = (
      stands.1,
      filter_within (λ (r : Reservation). not (r.session == session)) (λ (r : Reservation). not (is_after p r)) later.reservations
          (λ r t. not_from_false (is_after p r) (and_left (r.session == session) (nat_le s.next_id r.id) (not-true (r.session == session) t))),
      refl,
    ) in
    subst (LeavesWhatWas s session later) (sym (ap (λ (x : Reply × State). x.1) (back_step later session name p stands.0))) left

-- the state after an accepted SAVEPOINT
made_next : (s : State) (session : ℕ) (name : List ℕ) → (transition_of s session (statement.Savepoint name)).next ≡ after_savepoint s session name
unfolding transition_of
made_next s session name = refl

pub back_leaves_what_was : BackLeavesWhatWas
back_leaves_what_was s session name events answers later valid of_session of_sessions makes_none =
    let p = made_in s session name in
    step_has (λ (x : Reply × State). x.0 ≡ reply.Savepoint name → IsRun x.1 events answers later → IsSome (savepoint_of session name later.savepoints)
    → LeavesWhatWas s session later (step later session (statement.RollbackTo name)).1)
    s session (statement.Savepoint name) (λ _ _ e. absurd (cc))
    (λ accepted _ run still.
    let made : State = after_savepoint s session name in
    let start : Stands p (own session s.reservations) made = inr (made_found s session name, ap (own session) (all_stay s session name valid)) in
    let made_valid : IsValid made = savepoint_valid s session name valid of_session (savepoint_room s session name accepted) in
    left_by_back s session name later
    (stands_through p (own session s.reservations) made events answers later made_valid of_sessions makes_none start (subst (λ (t : State). IsRun t events answers later) (made_next s session name) run))
    still)
