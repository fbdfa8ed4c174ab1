-- What SHOW BOUNDS shows decides which requests are granted.
use Rattle.std.specs.Prelude.{◌≡◌, ℕ, ℤ, option_and_then, Option, Some, None, List, [], ◌∷◌, map}
use Rattle.std.specs.List.{AllByRecursion}
use Rattle.std.proofs.Common.{refl, sym, ap, subst, ◌∙◌}
use Rattle.escrow_num.specs.declared.refusal.Violation.{Violation}
use Rattle.escrow_num.specs.declared.refusal.Refusal.TheVariants as refusal
use Rattle.escrow_num.specs.declared.reservation.Reservation.{Reservation}
use Rattle.escrow_num.specs.declared.row.Row.{Row}
use Rattle.escrow_num.specs.Reservation.{deltas}
use Rattle.escrow_num.specs.Span.{first_of_two}
use Rattle.escrow_statement.specs.declared.statement.Statement.TheVariants as statement
use Rattle.escrow_statement.specs.declared.statement.UpdateText.{UpdateText}
use Rattle.escrow_checks.specs.declared.check.Check.{Check}
use Rattle.escrow_checks.specs.Form.{IsCovered}
use Rattle.escrow_checks.specs.Grant.{broken_by, broken}
use Rattle.escrow_checks.proofs.LawsLemmas.{bounds_decide}
use Rattle.escrow_schema.specs.declared.table.TableDef.{TableDef}
use Rattle.escrow_schema.specs.Catalog.{table_named}
use Rattle.escrow_machine.specs.declared.reply.Reply.TheVariants as reply
use Rattle.escrow_machine.specs.Asked.{violation_of, plan_of}
use Rattle.escrow_machine.specs.Laws.{BoundsDecideGrants, IsAsked, StaysWithin}
use Rattle.escrow_machine.specs.State.{State}
use Rattle.escrow_schema.specs.Rows.{row_named, changes_to}
use Rattle.escrow_machine.specs.Step.{step}
use Rattle.escrow_machine.proofs.LawsGrants.{asked_table, granted_one, refused_violation, refused_first}
use Rattle.escrow_machine.proofs.Shapes.{covered_found}

-- if two verdicts have no first violation, neither is one
none_of_two : (o : Option Violation) (other : Option Violation) → first_of_two o other ≡ None → (o ≡ None) × (other ≡ None)
none_of_two None other e = (refl, e)
none_of_two (Some violation) other e = absurd (cc)

-- nothing is broken exactly if the bounds of every check stay within its limits
within_all : (checks : List Check) (row : Row) (reservations : List Reservation) (changes : List ℤ) → AllByRecursion (λ check. IsCovered check.coeffs row.amounts) checks
    → broken checks row.amounts changes (map (changes_to row) reservations) ≡ None → AllByRecursion (StaysWithin row reservations changes) checks
within_all [] row reservations changes covered e = tt
within_all (check ∷ checks) row reservations changes covered e =
    let open_ones = map (changes_to row) reservations in
    let parts = none_of_two (broken_by check row.amounts changes open_ones) (broken checks row.amounts changes open_ones) e in
    ((bounds_decide check row.amounts changes open_ones covered.0).2.0 parts.0, within_all checks row reservations changes covered.1 parts.1)

unbroken_all : (checks : List Check) (row : Row) (reservations : List Reservation) (changes : List ℤ) → AllByRecursion (λ check. IsCovered check.coeffs row.amounts) checks
    → AllByRecursion (StaysWithin row reservations changes) checks → broken checks row.amounts changes (map (changes_to row) reservations) ≡ None
unbroken_all [] row reservations changes covered within = refl
unbroken_all (check ∷ checks) row reservations changes covered within =
    let open_ones = map (changes_to row) reservations in
    let here : broken_by check row.amounts changes open_ones ≡ None = (bounds_decide check row.amounts changes open_ones covered.0).2.1 within.0 in
    let rest : broken checks row.amounts changes open_ones ≡ None = unbroken_all checks row reservations changes covered.1 within.1 in
    ap (λ (o : Option Violation). first_of_two o (broken checks row.amounts changes open_ones)) here ∙ rest

-- the violation of the requested reservation
violation_is : (s : State) (session : ℕ) (text : UpdateText) (table : TableDef) (row : Row) (new : Reservation) → IsAsked s session text table row new
    → violation_of s new ≡ broken table.checks row.amounts (deltas new.changes) (map (changes_to row) s.reservations)
violation_is s session text table row new asked =
    let named : table_named s.catalog new.row.table ≡ Some table =
    ap (table_named s.catalog) (asked_table s session text (plan_of s text) new asked.1) ∙ asked.0 in
    let judged : Row → TableDef → Option Violation = λ r t. broken t.checks r.amounts (deltas new.changes) (map (changes_to r) s.reservations) in
    ap (λ (o : Option TableDef). option_and_then (λ (t : TableDef). option_and_then (λ (r : Row). judged r t) (row_named s.rows new.row)) o) named
    ∙ ap (option_and_then (λ (r : Row). judged r table)) asked.2

same_some : {A : Type 0} {x y : A} → Some x ≡ Some y → x ≡ y
same_some e = cc

-- a granted reservation breaks no check
granted_none : (s : State) (session : ℕ) (text : UpdateText) (table : TableDef) (row : Row) (new : Reservation) (id : ℕ) → IsAsked s session text table row new
    → (step s session (statement.Update text)).0 ≡ reply.Reserved id → violation_of s new ≡ None
granted_none s session text table row new id asked granted =
    let one = granted_one s session text id granted in
    let same : one.new ≡ new = same_some (sym one.asked.1 ∙ asked.1) in
    subst (λ (r : Reservation). violation_of s r ≡ None) same (violation_is s session text one.table one.row one.new one.asked ∙ one.safe)

-- a reservation that a check refuses breaks that check
refused_some : (s : State) (session : ℕ) (text : UpdateText) (table : TableDef) (row : Row) (new : Reservation) (violation : Violation) → IsAsked s session text table row new
    → (step s session (statement.Update text)).0 ≡ reply.Refused (refusal.Check violation) → violation_of s new ≡ Some violation
refused_some s session text table row new violation asked refused =
    sym (ap (option_and_then (violation_of s)) asked.1) ∙ refused_violation s session text violation (refused_first s session text violation refused)

no_violation : (o : Option Violation) (violation : Violation) → o ≡ Some violation → o ≡ None → ⊥
no_violation o violation some none = absurd (cc)

pub bounds_decide_grants : BoundsDecideGrants
bounds_decide_grants s session text table row new valid asked =
    let of_text : table_named s.catalog new.row.table ≡ Some table =
    ap (table_named s.catalog) (asked_table s session text (plan_of s text) new asked.1) ∙ asked.0 in
    let covered = covered_found s valid new.row table row of_text asked.2 in
    let is = violation_is s session text table row new asked in (
      λ id granted. within_all table.checks row s.reservations (deltas new.changes) covered (sym is ∙ granted_none s session text table row new id asked granted),
      λ violation refused within.
          no_violation (violation_of s new) violation (refused_some s session text table row new violation asked refused)
          (is ∙ unbroken_all table.checks row s.reservations (deltas new.changes) covered within),
    )
