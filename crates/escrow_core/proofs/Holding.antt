-- Sessions whose COMMITs are held back keep their reservations.
use Rattle.std.specs.Prelude.{◌≡◌, ℕ, ◌<◌, ◌==◌, Bool, true, false, not, if◌then◌else◌, MatchBool, Option, Some, None, option_map, unwrap_or, nat_le, List, [], ◌∷◌, ◌++◌, length}
use Rattle.std.specs.List.{AllByRecursion}
use Rattle.std.proofs.Common.{refl, sym, ap, subst, ◌∙◌}
use Rattle.std.proofs.lemmas.Bool.{and_parts, cond-false, eqb-true, false_from_ne_true, ltb-true, not_from_false}
use Rattle.std.proofs.lemmas.List.{append-nil}
use Rattle.std.proofs.lemmas.List.Elements.{filter-append}
use Rattle.escrow_num.proofs.Items.{find_has}
use Rattle.escrow_num.specs.declared.reservation.Reservation.{Reservation}
use Rattle.escrow_num.specs.declared.reservation.Savepoint.{Savepoint}
use Rattle.escrow_num.specs.declared.session.End.{End}
use Rattle.escrow_num.specs.declared.session.End.TheVariants as end
use Rattle.escrow_statement.specs.declared.statement.Statement.{Statement}
use Rattle.escrow_statement.specs.declared.statement.Statement.TheVariants as statement
use Rattle.escrow_journal.specs.Open.{returned_to}
use Rattle.escrow_journal.specs.Reservations.{own}
use Rattle.escrow_journal.specs.Savepoints.{is_after, is_named, savepoint_of}
use Rattle.escrow_schema.specs.declared.plan.Plan.{Plan}
use Rattle.escrow_schema.specs.declared.plan.Plan.TheVariants as plan
use Rattle.escrow_machine.specs.declared.reply.Reply.{Reply}
use Rattle.escrow_machine.specs.Asked.{plan_of as update_plan_of, reservation_from, row_name}
use Rattle.escrow_machine.specs.Held.{IsHeldBack, IsHeldRun, IsServedBeside, Waiting, holding}
use Rattle.escrow_machine.specs.State.{State, open_in, with_open}
use Rattle.escrow_machine.specs.Step.{step}
use Rattle.escrow_machine.specs.Transition.{transition_of, after_update}
use Rattle.escrow_machine.proofs.Choices.{append_all}
use Rattle.escrow_machine.proofs.Filters.{filter_within}
use Rattle.escrow_machine.proofs.LawsEnds.{own_stay}
use Rattle.escrow_machine.proofs.LawsSteps.{step_has}
use Rattle.escrow_machine.proofs.SavepointNames.{named_is}
use Rattle.escrow_core.specs.Beside.{plan_of}

-- A STATEMENT OF ANOTHER SESSION

-- the reservations of one session are the same in two states
abbrev IsKeptOf : ℕ → State → State → Type 0
IsKeptOf session old new = own session new.reservations ≡ own session old.reservations

kept_by_grant : (s : State) (session other : ℕ) (table : List ℕ) (o : Option Plan) → ¬ (session ≡ other) → IsKeptOf other s (unwrap_or (option_map (after_update s session table) o) s)
kept_by_grant s session other table None differ = refl
kept_by_grant s session other table (Some (plan.Plain key values)) differ = refl
kept_by_grant s session other table (Some (plan.Reserve key changes)) differ =
    let r : Reservation = reservation_from s session (row_name table key) changes in
    let away : (session == other) ≡ false = false_from_ne_true (session == other) (λ t. differ (eqb-true session other t)) in
    filter-append (λ (x : Reservation). x.session == other) s.reservations (r ∷ [])
    ∙ ap (λ (rs : List Reservation). own other s.reservations ++ rs) (cond-false (session == other) (r ∷ []) [] away) ∙ append-nil (own other s.reservations)

kept_by_back : (s : State) (session other : ℕ) (o : Option Savepoint) → ¬ (session ≡ other) → ((p : Savepoint) → o ≡ Some p → p.session ≡ session)
    → IsKeptOf other s (with_open s (unwrap_or (option_map (returned_to (open_in s)) o) (open_in s)))
kept_by_back s session other None differ mine = refl
kept_by_back s session other (Some p) differ mine =
    filter_within (λ (r : Reservation). r.session == other) (λ (r : Reservation). not (is_after p r)) s.reservations
    (λ r t. not_from_false (is_after p r) (false_from_ne_true (is_after p r) (λ u.
    differ (sym (eqb-true r.session p.session (and_parts (r.session == p.session) (nat_le p.id r.id) u).0 ∙ mine p refl) ∙ eqb-true r.session other t))))

kept_by_next : (s : State) (session other : ℕ) (asked : Statement) → ¬ (session ≡ other) → IsKeptOf other s (transition_of s session asked).next
unfolding transition_of
kept_by_next s session other (statement.Update text) differ = kept_by_grant s session other text.table (update_plan_of s text) differ
kept_by_next s session other statement.Commit differ = own_stay session other s.reservations differ
kept_by_next s session other statement.Rollback differ = own_stay session other s.reservations differ
kept_by_next s session other (statement.RollbackTo name) differ =
    kept_by_back s session other (savepoint_of session name s.savepoints) differ (λ p found. (named_is session name p (find_has (is_named session name) s.savepoints p found).1).0)
kept_by_next s session other _ differ = refl

kept_by_step : (s : State) (session other : ℕ) (asked : Statement) → ¬ (session ≡ other) → IsKeptOf other s (step s session asked).1
kept_by_step s session other asked differ =
    step_has (λ (p : Reply × State). IsKeptOf other s p.1) s session asked (λ _ _. refl) (λ _. kept_by_next s session other asked differ)

-- THE PLAN OF THE COMMITS THAT ARE HELD BACK

-- each entry is a COMMIT of a session that holds a reservation
abbrev Holds : State → List (ℕ × End) → Type 0
Holds s plan = AllByRecursion (λ entry. (entry.1 ≡ end.Commit) × (0 < length (own entry.0 s.reservations))) plan

still_hold : (s : State) (session : ℕ) (asked : Statement) (plan : List (ℕ × End)) → AllByRecursion (λ entry. ¬ (entry.0 ≡ session)) plan → Holds s plan → Holds (step s session asked).1 plan
still_hold s session asked [] others all = tt
still_hold s session asked (entry ∷ plan) others all =
    let same = kept_by_step s session entry.0 asked (λ is. others.0 (sym is)) in
    ((all.0.0, subst (λ (rs : List Reservation). 0 < length rs) (sym same) all.0.1), still_hold s session asked plan others.1 all.1)

-- what holds for the sessions whose COMMITs are held back holds for those of the plan
plan_if : (P : ℕ → Type 0) (b : Bool) (session : ℕ) (plan : List (ℕ × End)) (sessions : List ℕ) → (AllByRecursion P sessions → AllByRecursion (λ entry. P entry.0) plan)
    → AllByRecursion P (if b then session ∷ sessions else sessions) → AllByRecursion (λ entry. P entry.0) (if b then plan ++ (session, end.Commit) ∷ [] else plan)
plan_if P true session plan sessions rest all = append_all (λ (entry : ℕ × End). P entry.0) plan ((session, end.Commit) ∷ []) (rest all.1) (all.0, tt)
plan_if P false session plan sessions rest all = rest all

plan_all : (P : ℕ → Type 0) (ws : List Waiting) → AllByRecursion P (holding ws) → AllByRecursion (λ entry. P entry.0) (plan_of ws)
plan_all P [] all = tt
plan_all P (w ∷ earlier) all = plan_if P w.is_held w.session (plan_of earlier) (holding earlier) (plan_all P earlier) all

holds_if : (b : Bool) (session : ℕ) (asked : Statement) (answer : Reply) (mid now : State) (plan : List (ℕ × End)) → AllByRecursion (λ entry. ¬ (entry.0 ≡ session)) plan
    → MatchBool b (IsHeldBack session asked answer mid now) (IsServedBeside session asked answer mid now) → Holds mid plan → Holds now (if b then plan ++ (session, end.Commit) ∷ [] else plan)
holds_if true session asked answer mid now plan others held all =
    let more = plan ++ (session, end.Commit) ∷ [] in
    subst (λ (t : State). Holds t more) (sym held.same)
    (append_all (λ (entry : ℕ × End). (entry.1 ≡ end.Commit) × (0 < length (own entry.0 mid.reservations))) plan ((session, end.Commit) ∷ []) all
    ((refl, ltb-true 0 (length (own session mid.reservations)) held.holds_some), tt))
holds_if false session asked answer mid now plan others beside all =
    subst (λ (t : State). Holds t plan) (sym (ap (λ (p : Reply × State). p.1) beside.is_step)) (still_hold mid session asked plan others all)

pub plan_holds : (mid : State) (ws : List Waiting) (now : State) → IsHeldRun mid ws now → Holds now (plan_of ws)
plan_holds mid [] now held = tt
plan_holds mid (w ∷ earlier) now held =
    holds_if w.is_held w.session w.asked w.answer held.0 now (plan_of earlier) (plan_all (λ session. ¬ (session ≡ w.session)) earlier held.2) held.3 (plan_holds mid earlier held.0 held.1)
