-- A reply that reports no write leaves the tables and rows unchanged.
use Rattle.std.specs.Prelude.{◌≡◌, ℕ, Bool, true, false, not, ◌||◌, nat_lt, ◌⊎◌, Option, Some, None, option_map, unwrap_or, MatchOption, MatchBool, IsTrue, List, [], ◌∷◌, length}
use Rattle.std.proofs.Common.{inl, inr, refl, sym, ap, subst, subst₂, arith, ◌∙◌}
use Rattle.std.proofs.lemmas.Bool.Decides.{nat_tests}
use Rattle.std.proofs.lemmas.List.{nil_from_length}
use Rattle.sqlite.specs.State.{State as Store, Survives}
use Rattle.sqlite.proofs.StateLemmas.{survives_weaker}
use Rattle.sqlite_trees.specs.Tree.{Trees}
use Rattle.escrow_num.specs.declared.failure.Failure.{Failure}
use Rattle.escrow_num.specs.declared.reservation.Reservation.{Reservation}
use Rattle.escrow_num.specs.declared.row.Row.{Row}
use Rattle.escrow_statement.specs.declared.statement.Statement.{Statement}
use Rattle.escrow_statement.specs.declared.statement.Statement.TheVariants as statement
use Rattle.escrow_tables.specs.Tables.{AreHeld}
use Rattle.escrow_journal.specs.Reservations.{own}
use Rattle.escrow_schema.specs.Rows.{applied}
use Rattle.escrow_schema.specs.declared.plan.Plan.{Plan}
use Rattle.escrow_schema.specs.declared.plan.Plan.TheVariants as plan
use Rattle.escrow_machine.specs.declared.reply.Reply.{Reply}
use Rattle.escrow_machine.specs.declared.reply.Reply.TheVariants as reply
use Rattle.escrow_machine.specs.Held.{IsHeldBack, IsServedBeside, IsHeldRun, Waiting, holds, is_own, is_grant, passes}
use Rattle.escrow_machine.specs.Reply.{failure_of, is_refused, tells_write}
use Rattle.escrow_machine.specs.State.{State}
use Rattle.escrow_machine.specs.Step.{step, may_fail, IsStep, StepOrRefusal}
use Rattle.escrow_machine.specs.Transition.{transition_of, update_reply, after_update}
use Rattle.escrow_machine.proofs.Applying.{applied_none}
use Rattle.escrow_machine.proofs.LawsSteps.{step_has}
use Rattle.escrow_core.specs.Beside.{is_passing}
use Rattle.escrow_core.specs.Serves.{AreAfter, AreHeldOf}
use Rattle.escrow_core.proofs.Passing.{may_pass}

-- two states have the same tables and rows
abbrev pub AreKept : State → State → Type 0
AreKept old new = (new.catalog ≡ old.catalog) × (new.rows ≡ old.rows)

pub kept_then : (a b c : State) → AreKept a b → AreKept b c → AreKept a c
kept_then a b c one two = (two.0 ∙ one.0, two.1 ∙ one.1)

-- trees that hold the tables and rows of one hold those of the other
pub held_before : (old new : State) (trees : Trees) → AreKept old new → AreHeldOf new trees → AreHeldOf old trees
held_before old new trees kept held = subst₂ (λ catalog rows. AreHeld catalog rows trees) kept.0 kept.1 held

pub held_after : (old new : State) (trees : Trees) → AreKept old new → AreHeldOf old trees → AreHeldOf new trees
held_after old new trees kept held = subst₂ (λ catalog rows. AreHeld catalog rows trees) (sym kept.0) (sym kept.1) held

-- ONE STEP

quiet_update : (s : State) (session : ℕ) (table : List ℕ) (o : Option Plan) → tells_write (unwrap_or (option_map (update_reply s) o) reply.Updated) ≡ false
    → AreKept s (unwrap_or (option_map (after_update s session table) o) s)
quiet_update s session table None quiet = (refl, refl)
quiet_update s session table (Some (plan.Reserve key changes)) quiet = (refl, refl)
quiet_update s session table (Some (plan.Plain key values)) quiet = absurd (cc)

quiet_commit : (rows : List Row) (reservations : List Reservation) → nat_lt 0 (length reservations) ≡ false → applied rows reservations ≡ rows
quiet_commit rows reservations quiet = rw (nil_from_length reservations (grind (arith, nat_tests))) (applied_none rows)

quiet_next : (s : State) (session : ℕ) (asked : Statement) → tells_write (transition_of s session asked).reply ≡ false → AreKept s (transition_of s session asked).next
unfolding transition_of
quiet_next s session (statement.Create text) quiet = absurd (cc)
quiet_next s session (statement.Drop name) quiet = absurd (cc)
quiet_next s session (statement.Alter text) quiet = absurd (cc)
quiet_next s session (statement.Insert text) quiet = absurd (cc)
quiet_next s session (statement.Update text) quiet = quiet_update s session text.table _ quiet
quiet_next s session (statement.Delete text) quiet = absurd (cc)
quiet_next s session (statement.Select text) quiet = (refl, refl)
quiet_next s session (statement.ShowTable name) quiet = (refl, refl)
quiet_next s session (statement.ShowBounds text) quiet = (refl, refl)
quiet_next s session (statement.ShowJournal table) quiet = (refl, refl)
quiet_next s session (statement.Savepoint name) quiet = (refl, refl)
quiet_next s session statement.Commit quiet = (refl, quiet_commit s.rows (own session s.reservations) quiet)
quiet_next s session statement.Rollback quiet = (refl, refl)
quiet_next s session (statement.RollbackTo name) quiet = (refl, refl)

pub quiet_step : (s : State) (session : ℕ) (asked : Statement) → tells_write (step s session asked).0 ≡ false → AreKept s (step s session asked).1
quiet_step s session asked =
    step_has (λ (p : Reply × State). tells_write p.0 ≡ false → AreKept s p.1) s session asked (λ _ _ _. (refl, refl)) (λ _. quiet_next s session asked)

quiet_by : (s : State) (session : ℕ) (asked : Statement) (answer : Reply) (new : State) (o : Option Failure) → tells_write answer ≡ false
    → MatchOption o (IsStep s session asked answer new) (λ f. IsTrue (may_fail s session asked f) × (new ≡ s)) → AreKept s new
quiet_by s session asked answer new None quiet event =
    let is : (answer, new) ≡ step s session asked = event.is_step in
    subst (AreKept s) (sym (ap (λ (p : Reply × State). p.1) is)) (quiet_step s session asked (subst (λ (a : Reply). tells_write a ≡ false) (ap (λ (p : Reply × State). p.0) is) quiet))
quiet_by s session asked answer new (Some f) quiet event = (ap (λ (t : State). t.catalog) event.1, ap (λ (t : State). t.rows) event.1)

pub quiet_served : (s : State) (session : ℕ) (asked : Statement) (answer : Reply) (new : State) → tells_write answer ≡ false → StepOrRefusal s session asked answer new → AreKept s new
quiet_served s session asked answer new quiet event = quiet_by s session asked answer new (failure_of answer) quiet event

-- STATEMENTS THAT COMMUTE WITH HELD COMMITS

either : (a b : Bool) → (a || b) ≡ true → (a ≡ true) ⊎ (b ≡ true)
either true b is = inl refl
either false b is = inr is

no : (b : Bool) → not b ≡ true → b ≡ false
no true is = absurd (cc)
no false is = refl

quiet_grant : (answer : Reply) → is_grant answer ≡ true → tells_write answer ≡ false
quiet_grant (reply.Reserved id) is = refl
quiet_grant _ is = absurd (cc)

quiet_own : (s : State) (session : ℕ) (asked : Statement) → is_own s session asked ≡ true → tells_write (step s session asked).0 ≡ false
unfolding transition_of
quiet_own s session statement.Rollback is = refl
quiet_own s session (statement.RollbackTo name) is = step_has (λ (p : Reply × State). tells_write p.0 ≡ false) s session (statement.RollbackTo name) (λ _ _. refl) (λ _. refl)
quiet_own s session (statement.Savepoint name) is = step_has (λ (p : Reply × State). tells_write p.0 ≡ false) s session (statement.Savepoint name) (λ _ _. refl) (λ _. refl)
quiet_own s session statement.Commit is = no (holds s session) is
quiet_own s session _ is = absurd (cc)

pub quiet_pass : (s : State) (session : ℕ) (asked : Statement) → passes s session asked ≡ true → tells_write (step s session asked).0 ≡ false
quiet_pass s session asked may = elim (either (is_own s session asked) (is_grant (step s session asked).0) may) [
  | inl own ↦ quiet_own s session asked own
  | inr grant ↦ quiet_grant (step s session asked).0 grant
]

quiet_refusal : (answer : Reply) → is_refused answer ≡ true → tells_write answer ≡ false
quiet_refusal (reply.Refused r) is = refl
quiet_refusal _ is = absurd (cc)

quiet_passing : (b : Bool) (s : State) (session : ℕ) (asked : Statement) → is_refused (step s session asked).0 ≡ b → is_passing asked ≡ true → (asked ≡ statement.Commit → holds s session ≡ false)
    → tells_write (step s session asked).0 ≡ false
quiet_passing true s session asked is passing none = quiet_refusal (step s session asked).0 is
quiet_passing false s session asked is passing none = quiet_pass s session asked (may_pass s session asked passing none is)

-- a crash leaves what it could leave before, or the same tables and rows
pub pass_survives : (a b : Store) (s : State) (session : ℕ) (asked : Statement) → is_passing asked ≡ true → (asked ≡ statement.Commit → holds s session ≡ false)
    → Survives a b (λ trees. IsTrue a.is_open × AreAfter s session asked trees) → Survives a b (λ trees. IsTrue a.is_open × AreHeldOf s trees)
pass_survives a b s session asked passing none =
    let kept = quiet_step s session asked (quiet_passing (is_refused (step s session asked).0) s session asked refl passing none) in
    survives_weaker a b _ _ (λ _ trees k. (k.0, held_before s (step s session asked).1 trees kept k.1))

kept_beside : (b : Bool) (session : ℕ) (asked : Statement) (answer : Reply) (mid now : State)
    → MatchBool b (IsHeldBack session asked answer mid now) (IsServedBeside session asked answer mid now) → AreKept mid now
kept_beside true session asked answer mid now held = (ap (λ (t : State). t.catalog) held.same, ap (λ (t : State). t.rows) held.same)
kept_beside false session asked answer mid now beside =
    subst (AreKept mid) (sym (ap (λ (p : Reply × State). p.1) beside.is_step)) (quiet_step mid session asked (quiet_pass mid session asked beside.may_pass))

pub held_kept : (mid : State) (ws : List Waiting) (now : State) → IsHeldRun mid ws now → AreKept mid now
held_kept mid [] now held = (ap (λ (t : State). t.catalog) held, ap (λ (t : State). t.rows) held)
held_kept mid (w ∷ earlier) now held = kept_then mid held.0 now (held_kept mid earlier held.0 held.1) (kept_beside w.is_held w.session w.asked w.answer held.0 now held.3)

-- the replies to these statements report no write
pub quiet_beside : (session : ℕ) (asked : Statement) (answer : Reply) (mid now : State) → IsServedBeside session asked answer mid now → tells_write answer ≡ false
quiet_beside session asked answer mid now beside =
    subst (λ (a : Reply). tells_write a ≡ false) (sym (ap (λ (p : Reply × State). p.0) beside.is_step)) (quiet_pass mid session asked beside.may_pass)
