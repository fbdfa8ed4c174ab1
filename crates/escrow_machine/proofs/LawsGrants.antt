-- What a granted UPDATE, or one that a check refuses, says about the choices of the open reservations.
use Rattle.std.specs.Prelude.{◌≡◌, ℕ, ℤ, ◌==◌, true, not, is_none, option_map, option_and_then, unwrap_or, List, [], ◌∷◌, ◌++◌, map, Contains, Option, Some, None}
use Rattle.std.specs.List.{AllByRecursion}
use Rattle.std.proofs.Common.{inl, inr, refl, sym, ap, ◌∙◌, subst}
use Rattle.std.proofs.lemmas.List.{map_push}
use Rattle.std.proofs.lemmas.List.Elements.{Contains-append_left, Contains-append_right, Contains-push, All-from_recursion}
use Rattle.std.proofs.lemmas.Option.{option_and_then_some}
use Rattle.escrow_num.specs.declared.refusal.Violation.{Violation}
use Rattle.escrow_num.specs.declared.refusal.Refusal.{Refusal}
use Rattle.escrow_num.specs.declared.refusal.Refusal.TheVariants as refusal
use Rattle.escrow_num.specs.declared.reservation.Reservation.{Reservation}
use Rattle.escrow_num.specs.declared.row.Row.{Row}
use Rattle.escrow_num.specs.declared.value.Value.{Value}
use Rattle.escrow_num.specs.Order.{same_row}
use Rattle.escrow_num.specs.Reservation.{deltas}
use Rattle.escrow_num.specs.Refusal.{refuse_if, first_refusal}
use Rattle.escrow_num.specs.Span.{first_of_two}
use Rattle.escrow_statement.specs.declared.statement.Statement.TheVariants as statement
use Rattle.escrow_statement.specs.declared.statement.UpdateText.{UpdateText}
use Rattle.escrow_checks.specs.declared.check.Check.{Check}
use Rattle.escrow_checks.specs.Form.{form, changed, all_changed}
use Rattle.escrow_checks.specs.Grant.{Meets, broken_by, broken}
use Rattle.escrow_checks.specs.Laws.{IsReached}
use Rattle.escrow_checks.specs.Sublists.{sublists}
use Rattle.escrow_checks.proofs.LawsLemmas.{refused_names_a_choice}
use Rattle.escrow_schema.specs.declared.plan.Plan.{Plan}
use Rattle.escrow_schema.specs.declared.plan.Plan.TheVariants as plan
use Rattle.escrow_schema.specs.declared.table.TableDef.{TableDef}
use Rattle.escrow_schema.specs.Catalog.{table_named}
use Rattle.escrow_machine.specs.declared.reply.Reply.{Reply}
use Rattle.escrow_machine.specs.declared.reply.Reply.TheVariants as reply
use Rattle.escrow_machine.specs.Laws.{IsAsked, MeetsWith, IsReachedViolation}
use Rattle.escrow_journal.specs.Open.{grant_refusal}
use Rattle.escrow_journal.specs.Reservations.{others}
use Rattle.escrow_machine.specs.Accepted.{IsAccepted}
use Rattle.escrow_machine.specs.Asked.{plan_of, plan_refusal_of, reservation_from, row_name, reserved_by, reservation_of, violation_of}
use Rattle.escrow_machine.specs.State.{State, open_in, is_open, is_row_full}
use Rattle.escrow_schema.specs.Rows.{row_named, changes_to, row_after}
use Rattle.escrow_machine.specs.Step.{refusals, step}
use Rattle.escrow_machine.specs.Transition.{transition_of, update_refusals, update_reply}
use Rattle.escrow_machine.proofs.Accepted.{reserve_stands}
use Rattle.escrow_machine.proofs.Applying.{changes_own}
use Rattle.escrow_machine.proofs.Changes.{all_changed_push}
use Rattle.escrow_machine.proofs.Choices.{IsChoice, all_choices, choices_all, choice_map, choice_filter}
use Rattle.escrow_machine.proofs.Granted.{granted_meets}
use Rattle.escrow_num.proofs.Items.{Has, has_all, find_has}
use Rattle.escrow_machine.proofs.LawsSteps.{step_has}
use Rattle.escrow_journal.proofs.Free.{grant_among}
use Rattle.escrow_machine.proofs.Refusals.{if_among, passed_over}
use Rattle.escrow_machine.proofs.Plans.{plan_among}
use Rattle.escrow_machine.proofs.Transitions.{is_transition}

-- an item of a list is contained in it
pub has_contains : {A : Type 0} (xs : List A) (x : A) → Has xs x → Contains xs x
has_contains [] x h = absurd h
has_contains (y ∷ ys) x (inl e) = subst (Contains (y ∷ ys)) e (Contains-append_left (y ∷ []) ys y (Contains-push [] y))
has_contains (y ∷ ys) x (inr h) = Contains-append_right (y ∷ []) ys x (has_contains ys x h)

-- each choice is one of the sublists, so all sublists have what all choices have
pub choice_contained : {A : Type 0} (xs chosen : List A) → IsChoice xs chosen → Contains (sublists xs) chosen
choice_contained {A} xs chosen h =
    all_choices (λ (c : List A). Contains (sublists xs) c) xs (has_all (λ (c : List A). Contains (sublists xs) c) (sublists xs) (has_contains (sublists xs))) chosen h

pub contained_has : {A : Type 0} (P : List A → Type 0) (xs : List A) → ((chosen : List A) → IsChoice xs chosen → P chosen)
    → (chosen : List A) → Contains (sublists xs) chosen → P chosen
contained_has P xs each chosen h = subst P h.2 (All-from_recursion P (sublists xs) (choices_all P xs each) h.0 chosen h.1)

-- a choice of the image is the image of a choice
pub choice_of_image : {A B : Type 0} (f : A → B) (xs : List A) (image : List B) → IsChoice (map f xs) image
    → (chosen : List A) × IsChoice xs chosen × (map f chosen ≡ image)
choice_of_image f [] image h = ([], refl, h)
choice_of_image f (x ∷ xs) image (inl h) = let found = choice_of_image f xs image h in (found.0, inl found.1, found.2)
choice_of_image f (x ∷ xs) image (inr h) =
    let found = choice_of_image f xs h.0 h.1 in
    (x ∷ found.0, inr (found.0, found.1, refl), ap (λ rest. f x ∷ rest) found.2 ∙ h.2)

-- a row's amounts after a choice of reservations and one more
amounts_with : (row : Row) (r : Reservation) (chosen : List Reservation) → same_row row.name r.row ≡ true
    → (row_after (chosen ++ r ∷ []) row).amounts ≡ all_changed (changed row.amounts (deltas r.changes)) (map (changes_to row) chosen)
amounts_with row r chosen same =
    ap (all_changed row.amounts) (map_push (changes_to row) chosen r)
    ∙ all_changed_push row.amounts (changes_to row r) (map (changes_to row) chosen)
    ∙ ap (λ (zs : List ℤ). all_changed (changed row.amounts zs) (map (changes_to row) chosen)) (changes_own row.name r same)

-- the row that an UPDATE names is the row of its reservation
row_is_named : (s : State) (r : Reservation) (row : Row) → row_named s.rows r.row ≡ Some row → same_row row.name r.row ≡ true
row_is_named s r row found = (find_has (λ (x : Row). same_row x.name r.row) s.rows row found).1

-- a granted UPDATE has no refusal, and its plan is a reservation
pub granted_none : (s : State) (session : ℕ) (text : UpdateText) (id : ℕ) → (step s session (statement.Update text)).0 ≡ reply.Reserved id
    → IsAccepted s session (statement.Update text) × ((transition_of s session (statement.Update text)).reply ≡ reply.Reserved id)
granted_none s session text id =
    step_has (λ (p : Reply × State). p.0 ≡ reply.Reserved id → IsAccepted s session (statement.Update text) × ((transition_of s session (statement.Update text)).reply ≡ reply.Reserved id))
    s session (statement.Update text) (λ _ _ e. absurd (cc)) (λ accepted e. (accepted, e))

abbrev pub IsReserve : Option Plan → Type 0
IsReserve o = (key : Value) × (changes : List (Option ℤ)) × (o ≡ Some (plan.Reserve key changes))

reserve_of_reply : (s : State) (id : ℕ) (o : Option Plan) → unwrap_or (option_map (update_reply s) o) reply.Updated ≡ reply.Reserved id → IsReserve o
reserve_of_reply s id None e = absurd (cc)
reserve_of_reply s id (Some (plan.Reserve key changes)) e = (key, changes, refl)
reserve_of_reply s id (Some (plan.Plain key values)) e = absurd (cc)

pub granted_plan : (s : State) (session : ℕ) (text : UpdateText) (id : ℕ) → (transition_of s session (statement.Update text)).reply ≡ reply.Reserved id → IsReserve (plan_of s text)
unfolding transition_of
granted_plan s session text id e = reserve_of_reply s id (plan_of s text) e

-- what holds of the granted reservation
pub record Granted (s : State) (session : ℕ) (text : UpdateText) : Type 0 where
  pub table : TableDef
  pub row : Row
  pub new : Reservation
  pub asked : IsAsked s session text table row new
  pub found : row_named s.rows new.row ≡ Some row
  pub safe : broken table.checks row.amounts (deltas new.changes) (map (changes_to row) s.reservations) ≡ None

pub granted_one : (s : State) (session : ℕ) (text : UpdateText) (id : ℕ) → (step s session (statement.Update text)).0 ≡ reply.Reserved id → Granted s session text
granted_one s session text id granted =
    let accepted = granted_none s session text id granted in
    let is = granted_plan s session text id accepted.1 in
    let stands = reserve_stands s session text is.0 is.1 is.2 accepted.0 in
    let r : Reservation = reservation_from s session (row_name text.table is.0) is.1 in
    let of_plan : reservation_of s session text ≡ Some r = ap (option_and_then (reserved_by s session text.table)) is.2 in
    record { table = stands.table; row = stands.row; new = r; asked = (stands.named, of_plan, stands.found); found = stands.found; safe = stands.safe }

-- its row meets the checks with each choice of the open reservations
meets_with : (s : State) (table : TableDef) (row : Row) (r : Reservation) → row_named s.rows r.row ≡ Some row
    → broken table.checks row.amounts (deltas r.changes) (map (changes_to row) s.reservations) ≡ None
    → (chosen : List Reservation) → IsChoice s.reservations chosen → MeetsWith table row r chosen
meets_with s table row r found safe chosen choice =
    let met : AllByRecursion (λ check. Meets check (all_changed (changed row.amounts (deltas r.changes)) (map (changes_to row) chosen))) table.checks =
    granted_meets table.checks row.amounts (deltas r.changes) (map (changes_to row) s.reservations) (map (changes_to row) chosen) safe
    (choice_map (changes_to row) s.reservations chosen choice) in
    subst (λ (zs : List ℤ). AllByRecursion (λ check. Meets check zs) table.checks) (sym (amounts_with row r chosen (row_is_named s r row found))) met

pub granted_in_every_choice : (s : State) (session : ℕ) (text : UpdateText) (id : ℕ) → (step s session (statement.Update text)).0 ≡ reply.Reserved id
    → (table : TableDef) × (row : Row) × (new : Reservation) × IsAsked s session text table row new × AllByRecursion (MeetsWith table row new) (sublists s.reservations)
granted_in_every_choice s session text id granted =
    let one = granted_one s session text id granted in
    (one.table, one.row, one.new, one.asked, choices_all (MeetsWith one.table one.row one.new) s.reservations (meets_with s one.table one.row one.new one.found one.safe))

-- it also meets them with each choice of the other sessions' reservations
pub own_increment_not_spent : (s : State) (session : ℕ) (text : UpdateText) (id : ℕ) → (step s session (statement.Update text)).0 ≡ reply.Reserved id
    → (table : TableDef) × (row : Row) × (new : Reservation) × IsAsked s session text table row new
    × AllByRecursion (MeetsWith table row new) (sublists (others session s.reservations))
own_increment_not_spent s session text id granted =
    let one = granted_one s session text id granted in (
      one.table,
      one.row,
      one.new,
      one.asked,
      choices_all (MeetsWith one.table one.row one.new) (others session s.reservations) (λ chosen choice.
          meets_with s one.table one.row one.new one.found one.safe chosen
          (choice_filter (λ (r : Reservation). not (r.session == session)) s.reservations chosen choice)),
    )

-- the check's refusal is the first that applies
pub refused_first : (s : State) (session : ℕ) (text : UpdateText) (violation : Violation) → (step s session (statement.Update text)).0 ≡ reply.Refused (refusal.Check violation)
    → first_refusal (refusals (transition_of s session (statement.Update text))) ≡ Some (refusal.Check violation)
refused_first s session text violation =
    step_has (λ (p : Reply × State). p.0 ≡ reply.Refused (refusal.Check violation) → first_refusal (refusals (transition_of s session (statement.Update text))) ≡ Some (refusal.Check violation))
    s session (statement.Update text) (λ r first e. let same : r ≡ refusal.Check violation = cc in first ∙ ap Some same)
    (λ _ e. absurd ((is_transition s session (statement.Update text)).answers (refusal.Check violation) e))

last_violation : (o : Option Violation) (violation : Violation) → first_refusal (option_map refusal.Check o ∷ []) ≡ Some (refusal.Check violation) → o ≡ Some violation
last_violation None violation e = absurd (cc)
last_violation (Some other) violation e = cc

-- the violation is that of the reservation, since a plan of plain values has none
late_violation : (s : State) (session : ℕ) (text : UpdateText) (o : Option Plan) (violation : Violation)
    → first_refusal (unwrap_or (option_map (update_refusals s session text.table) o) []) ≡ Some (refusal.Check violation)
    → option_and_then (violation_of s) (option_and_then (reserved_by s session text.table) o) ≡ Some violation
late_violation s session text None violation first = absurd (cc)
late_violation s session text (Some (plan.Reserve key changes)) violation first =
    let P : Refusal → Type 0 = λ other. ¬ (other ≡ refusal.Check violation) in
    let name = row_name text.table key in
    let no_row = refuse_if (is_none (row_named s.rows name)) refusal.NoSuchRow in
    let full = refuse_if (is_row_full s name) refusal.TooManyReservations in
    let not_free = grant_refusal session (open_in s) in
    let o = violation_of s (reservation_from s session name changes) in
    let last = option_map refusal.Check o in
    let here = refusal.Check violation in
    let past_row = passed_over no_row (full ∷ not_free ∷ last ∷ []) here (if_among P _ _ (λ q. absurd (cc))) first in
    let past_full = passed_over full (not_free ∷ last ∷ []) here (if_among P _ _ (λ q. absurd (cc))) past_row in
    let past_free = passed_over not_free (last ∷ []) here (grant_among P session (open_in s) (λ q. absurd (cc)) (λ q. absurd (cc))) past_full in
    last_violation o violation past_free
late_violation s session text (Some (plan.Plain key values)) violation first =
    let P : Refusal → Type 0 = λ other. ¬ (other ≡ refusal.Check violation) in
    let is_open = refuse_if (is_open session s) refusal.TransactionOpen in
    let no_row = refuse_if (is_none (row_named s.rows (row_name text.table key))) refusal.NoSuchRow in
    let here = refusal.Check violation in
    let past_open = passed_over is_open (no_row ∷ []) here (if_among P _ _ (λ q. absurd (cc))) first in
    let past_row = passed_over no_row [] here (if_among P _ _ (λ q. absurd (cc))) past_open in
    absurd (cc)

pub refused_violation : (s : State) (session : ℕ) (text : UpdateText) (violation : Violation)
    → first_refusal (refusals (transition_of s session (statement.Update text))) ≡ Some (refusal.Check violation)
    → option_and_then (violation_of s) (reservation_of s session text) ≡ Some violation
unfolding transition_of
refused_violation s session text violation first =
    let P : Refusal → Type 0 = λ other. ¬ (other ≡ refusal.Check violation) in
    let unknown = refuse_if (is_none (table_named s.catalog text.table)) refusal.NoSuchTable in
    let unplanned = plan_refusal_of s text in
    let late = unwrap_or (option_map (update_refusals s session text.table) (plan_of s text)) [] in
    let here = refusal.Check violation in
    let past_table = passed_over unknown (unplanned ∷ late) here (if_among P _ _ (λ q. absurd (cc))) first in
    let past_plan = passed_over unplanned late here (plan_among P s text (λ q. absurd (cc)) (λ q. absurd (cc)) (λ q. absurd (cc))) past_table in
    late_violation s session text (plan_of s text) violation past_plan

-- a violation of a list of checks is a violation of one of them
either_broken : (checks : List Check) (amounts changes : List ℤ) (reservations : List (List ℤ)) (violation : Violation) (check : Check) (o : Option Violation)
    → broken_by check amounts changes reservations ≡ o → first_of_two o (broken checks amounts changes reservations) ≡ Some violation
    → (broken checks amounts changes reservations ≡ Some violation → (c : Check) × Has checks c × (broken_by c amounts changes reservations ≡ Some violation))
    → (c : Check) × Has (check ∷ checks) c × (broken_by c amounts changes reservations ≡ Some violation)
either_broken checks amounts changes reservations violation check None is e rest = let found = rest e in (found.0, inr found.1, found.2)
either_broken checks amounts changes reservations violation check (Some b) is e rest = (check, inl refl, is ∙ e)

broken_check : (checks : List Check) (amounts changes : List ℤ) (reservations : List (List ℤ)) (violation : Violation) → broken checks amounts changes reservations ≡ Some violation
    → (check : Check) × Has checks check × (broken_by check amounts changes reservations ≡ Some violation)
broken_check [] amounts changes reservations violation e = absurd (cc)
broken_check (check ∷ checks) amounts changes reservations violation e =
    either_broken checks amounts changes reservations violation check (broken_by check amounts changes reservations) refl e (broken_check checks amounts changes reservations violation)

-- some choice of the open reservations reaches the worst value
reached_with : (row : Row) (r : Reservation) (reservations : List Reservation) (coeffs : List ℤ) (worst : ℤ) → same_row row.name r.row ≡ true
    → IsReached coeffs (changed row.amounts (deltas r.changes)) (map (changes_to row) reservations) worst
    → (chosen : List Reservation) × Contains (sublists reservations) chosen × (form coeffs (row_after (chosen ++ r ∷ []) row).amounts ≡ worst)
reached_with row r reservations coeffs worst same reached =
    let Image : List (List ℤ) → Type 0 = λ image. (chosen : List Reservation) × IsChoice reservations chosen × (map (changes_to row) chosen ≡ image) in
    let from : Image reached.0 = contained_has Image (map (changes_to row) reservations) (choice_of_image (changes_to row) reservations) reached.0 reached.1 in (
      from.0,
      choice_contained reservations from.0 from.1,
      ap (form coeffs) (amounts_with row r from.0 same)
          ∙ ap (λ (image : List (List ℤ)). form coeffs (all_changed (changed row.amounts (deltas r.changes)) image)) from.2
          ∙ reached.2,
    )

violation_reached : (s : State) (table : TableDef) (row : Row) (r : Reservation) (violation : Violation) → row_named s.rows r.row ≡ Some row
    → broken table.checks row.amounts (deltas r.changes) (map (changes_to row) s.reservations) ≡ Some violation
    → IsReachedViolation table row s.reservations r violation
violation_reached s table row r violation found e =
    let check = broken_check table.checks row.amounts (deltas r.changes) (map (changes_to row) s.reservations) violation e in
    let known = refused_names_a_choice check.0 row.amounts (deltas r.changes) (map (changes_to row) s.reservations) violation check.2 in (
      check.0,
      has_contains table.checks check.0 check.1,
      known.0,
      known.3,
      known.1,
      reached_with row r s.reservations check.0.coeffs violation.worst (row_is_named s r row found) known.2,
    )

-- a requested reservation belongs to the table that the UPDATE names
pub asked_table : (s : State) (session : ℕ) (text : UpdateText) (o : Option Plan) (r : Reservation) → option_and_then (reserved_by s session text.table) o ≡ Some r
    → r.row.table ≡ text.table
asked_table s session text None r e = absurd (cc)
asked_table s session text (Some (plan.Reserve key changes)) r e =
    let same : reservation_from s session (row_name text.table key) changes ≡ r = cc in ap (λ (x : Reservation). x.row.table) (sym same)
asked_table s session text (Some (plan.Plain key values)) r e = absurd (cc)

pub refused_by_a_choice : (s : State) (session : ℕ) (text : UpdateText) (violation : Violation)
    → (step s session (statement.Update text)).0 ≡ reply.Refused (refusal.Check violation)
    → (table : TableDef) × (row : Row) × (new : Reservation) × IsAsked s session text table row new × IsReachedViolation table row s.reservations new violation
refused_by_a_choice s session text violation refused =
    option_and_then_some (violation_of s) (reservation_of s session text) violation (refused_violation s session text violation (refused_first s session text violation refused))
    (λ r is_asked of_reservation.
    option_and_then_some (λ (table : TableDef). option_and_then (broken_in r table) (row_named s.rows r.row)) (table_named s.catalog r.row.table) violation of_reservation
    (λ table named of_table. option_and_then_some (broken_in r table) (row_named s.rows r.row) violation of_table
    (λ row found e.
    let of_text : table_named s.catalog text.table ≡ Some table = ap (table_named s.catalog) (sym (asked_table s session text (plan_of s text) r is_asked)) ∙ named in
    (table, row, r, (of_text, is_asked, found), violation_reached s table row r violation found e))))
  where
    broken_in : Reservation → TableDef → Row → Option Violation
    broken_in r table row = broken table.checks row.amounts (deltas r.changes) (map (changes_to row) s.reservations)
