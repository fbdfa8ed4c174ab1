-- A statement that commutes with the COMMITs of other sessions, if it is not refused.
use Rattle.std.specs.Prelude.{◌≡◌, ◌==◌, ℤ, ℕ, Bool, true, false, not, ◌&&◌, ◌||◌, option_map, unwrap_or, MatchOption, IsTrue, Option, Some, None, Result, Ok, Err, List, [], ◌∷◌, map}
use Rattle.std.specs.List.{AllByRecursion, list_any, list_all}
use Rattle.std.proofs.Common.{refl, sym, ap, subst, eq-eqb, ◌∙◌}
use Rattle.escrow_num.specs.declared.refusal.Refusal.{Refusal}
use Rattle.escrow_num.specs.declared.session.End.{End}
use Rattle.escrow_num.specs.declared.value.Value.{Value}
use Rattle.escrow_statement.specs.declared.statement.Assign.{Assign}
use Rattle.escrow_statement.specs.declared.statement.Statement.{Statement}
use Rattle.escrow_statement.specs.declared.statement.Statement.TheVariants as statement
use Rattle.escrow_statement.specs.declared.statement.UpdateText.{UpdateText}
use Rattle.escrow_schema.specs.Definition.{are_distinct}
use Rattle.escrow_schema.specs.Plan.{are_changes, are_replacements, is_literal, is_replacement, has_column, key_named, changes_of, new_values, planned}
use Rattle.escrow_schema.specs.Fit.{plains}
use Rattle.escrow_schema.specs.declared.plan.Plan.{Plan}
use Rattle.escrow_schema.specs.declared.plan.Plan.TheVariants as plan
use Rattle.escrow_schema.specs.declared.table.TableDef.{TableDef}
use Rattle.escrow_schema.proofs.PlanLemmas.{plan_by}
use Rattle.escrow_machine.specs.declared.reply.Reply.{Reply}
use Rattle.escrow_machine.specs.declared.reply.Reply.TheVariants as reply
use Rattle.escrow_num.specs.declared.failure.Failure.{Failure}
use Rattle.escrow_machine.specs.Accepted.{IsAccepted}
use Rattle.escrow_machine.specs.Held.{IsServedBeside, holds, is_grant, passes}
use Rattle.escrow_machine.specs.Reply.{failure_of, is_refused}
use Rattle.escrow_machine.specs.State.{State}
use Rattle.escrow_machine.specs.Step.{step, may_fail, IsStep, StepOrRefusal}
use Rattle.escrow_machine.specs.Transition.{transition_of, update_reply}
use Rattle.escrow_machine.proofs.Accepted.{UpdatePlan, update_plan}
use Rattle.escrow_machine.proofs.LawsSteps.{step_has}
use Rattle.escrow_core.specs.Beside.{is_passing}

-- the first assignment, or a later one
one_of : (named literal later replaced : Bool) → (not literal || later) ≡ true → (later ≡ true → replaced ≡ false) → ((named && literal) && replaced) ≡ false
one_of true true later replaced some rest = rest some
one_of true false later replaced some rest = refl
one_of false literal later replaced some rest = refl

-- if one assignment is a change, the assignments replace no plain values
replaces_none : (table : TableDef) (assigns : List Assign) → list_any (λ assign. not (is_literal assign.value)) assigns ≡ true → list_all (is_replacement table) assigns ≡ false
replaces_none table [] some = absurd (cc)
replaces_none table (assign ∷ assigns) some =
    one_of (has_column (plains table.columns 0 table.key) assign.column) (is_literal assign.value) _ (list_all (is_replacement table) assigns) some (replaces_none table assigns)

-- if these assignments have a plan, it is a reservation
abbrev IsPassing : UpdateText → Type 0
IsPassing text = is_passing (statement.Update text) ≡ true

both_false : (a b : Bool) → b ≡ false → (a && b) ≡ false
both_false true b is = is
both_false false b is = refl

no_values : (a b : Bool) (k : Result Value Refusal) (made : Option (List (Option ℤ))) (values : Option (List (Option Value))) (key : Value) (vs : List (Option Value)) → b ≡ false
    → plan_by a b k made values ≡ Ok (plan.Plain key vs) → ⊥
no_values true b (Ok v) None values key vs is e = absurd (cc)
no_values true b (Ok v) (Some changes) values key vs is e = absurd (cc)
no_values true b (Err r) made values key vs is e = absurd (cc)
no_values false true k made values key vs is e = absurd (cc)
no_values false false k made values key vs is e = absurd (cc)

never_plain : (table : TableDef) (text : UpdateText) (key : Value) (vs : List (Option Value)) → IsPassing text → planned table text ≡ Ok (plan.Plain key vs) → ⊥
never_plain table text key vs some =
    no_values (are_changes table.columns text.assigns) (are_replacements table text.assigns) (key_named table text.row) (changes_of table.columns text.assigns) (new_values table text.assigns) key vs
    (both_false (are_distinct (map (λ assign. assign.column) text.assigns)) (list_all (is_replacement table) text.assigns) (replaces_none table text.assigns some))

-- if the statement is not refused, it is granted
grant_of_plan : (s : State) (text : UpdateText) (p : UpdatePlan s text) (asked : Plan) → IsPassing text → p.plan ≡ asked → is_grant (update_reply s asked) ≡ true
grant_of_plan s text p (plan.Reserve key changes) some is = refl
grant_of_plan s text p (plan.Plain key vs) some is = absurd (never_plain p.table text key vs some (p.planned ∙ ap Ok is))

granted : (s : State) (session : ℕ) (text : UpdateText) → IsPassing text → IsAccepted s session (statement.Update text) → is_grant (transition_of s session (statement.Update text)).reply ≡ true
unfolding transition_of
granted s session text some accepted =
    let p = update_plan s session text accepted in
    subst (λ (o : Option Plan). is_grant (unwrap_or (option_map (update_reply s) o) reply.Updated) ≡ true) (sym p.is) (grant_of_plan s text p p.plan some refl)

update_grants : (s : State) (session : ℕ) (text : UpdateText) → IsPassing text → is_refused (step s session (statement.Update text)).0 ≡ false
    → is_grant (step s session (statement.Update text)).0 ≡ true
update_grants s session text some =
    step_has (λ (p : Reply × State). is_refused p.0 ≡ false → is_grant p.0 ≡ true) s session (statement.Update text) (λ _ _ e. absurd (cc)) (λ accepted _. granted s session text some accepted)

-- a reply that is no refusal is no failure
no_failure : (answer : Reply) → is_refused answer ≡ false → failure_of answer ≡ None
no_failure (reply.Refused r) not_refused = absurd (cc)
no_failure _ not_refused = refl

step_by : (s : State) (session : ℕ) (asked : Statement) (answer : Reply) (new : State) (o : Option Failure) → o ≡ None
    → MatchOption o (IsStep s session asked answer new) (λ f. IsTrue (may_fail s session asked f) × (new ≡ s)) → IsStep s session asked answer new
step_by s session asked answer new None none event = event
step_by s session asked answer new (Some f) none event = absurd (cc)

-- the statement may pass
pub may_pass : (s : State) (session : ℕ) (asked : Statement) → is_passing asked ≡ true → (asked ≡ statement.Commit → holds s session ≡ false)
    → is_refused (step s session asked).0 ≡ false → passes s session asked ≡ true
may_pass s session statement.Commit passing none not_refused = let holds_none : holds s session ≡ false = none refl in rw holds_none refl
may_pass s session statement.Rollback passing none not_refused = refl
may_pass s session (statement.RollbackTo name) passing none not_refused = refl
may_pass s session (statement.Savepoint name) passing none not_refused = refl
may_pass s session (statement.Update text) passing none not_refused = update_grants s session text passing not_refused
may_pass s session _ passing none not_refused = absurd (cc)

-- it is served beside the held COMMITs
pub served_beside : (s : State) (session : ℕ) (asked : Statement) (answer : Reply) (new : State) → is_passing asked ≡ true → (asked ≡ statement.Commit → holds s session ≡ false)
    → is_refused answer ≡ false → StepOrRefusal s session asked answer new → IsServedBeside session asked answer s new
served_beside s session asked answer new passing none not_refused event =
    let stepped = step_by s session asked answer new (failure_of answer) (no_failure answer not_refused) event in
    let is : (answer, new) ≡ step s session asked = stepped.is_step in
    let told : answer ≡ (step s session asked).0 = ap (λ (p : Reply × State). p.0) is in
    record { may_pass = may_pass s session asked passing none (subst (λ (a : Reply). is_refused a ≡ false) told not_refused); is_step = is }

-- the plan does not name this session
named_by_none : (b rest : Bool) → (b || rest) ≡ false → (b ≡ false) × (rest ≡ false)
named_by_none true rest none = absurd (cc)
named_by_none false rest none = (refl, none)

pub apart_from : (session : ℕ) (plan : List (ℕ × End)) → list_any (λ entry. entry.0 == session) plan ≡ false → AllByRecursion (λ entry. ¬ (entry.0 ≡ session)) plan
apart_from session [] none = tt
apart_from session (entry ∷ plan) none =
    let both = named_by_none (entry.0 == session) _ none in
    ((λ same. let named : (entry.0 == session) ≡ true = eq-eqb entry.0 session same in let other = both.0 in absurd (cc)), apart_from session plan both.1)

-- a reply that is no refusal
pub not_refused : (answer : Reply) → ((r : Refusal) → answer ≡ reply.Refused r → ⊥) → is_refused answer ≡ false
not_refused (reply.Refused r) none = absurd (none r refl)
not_refused _ none = refl
