-- Why transitions refuse: by a rule, never for memory, the store or a transcript without room; and late only what may need
-- memory or the store.
use Rattle.std.specs.Prelude.{◌≡◌, ℕ, ◌&&◌, Bool, true, false, not, is_none, unwrap_or, option_map, option_and_then, IfSome, Option, Some, None, List, [], ◌∷◌}
use Rattle.std.specs.List.{AllByRecursion}
use Rattle.std.proofs.Common.{refl}
use Rattle.std.proofs.lemmas.Bool.{and_parts, false≢true, not-true}
use Rattle.escrow_num.specs.declared.refusal.Refusal.{Refusal}
use Rattle.escrow_num.specs.declared.refusal.Refusal.TheVariants as refusal
use Rattle.escrow_num.specs.Refusal.{refuse_if, first_refusal}
use Rattle.escrow_statement.specs.declared.statement.Statement.{Statement}
use Rattle.escrow_statement.specs.declared.statement.Statement.TheVariants as statement
use Rattle.escrow_statement.specs.declared.statement.AlterText.{AlterText}
use Rattle.escrow_statement.specs.declared.statement.TableChange.{TableChange}
use Rattle.escrow_statement.specs.declared.statement.TableChange.TheVariants as change
use Rattle.escrow_statement.specs.declared.statement.UpdateText.{UpdateText}
use Rattle.escrow_schema.specs.declared.plan.Plan.{Plan}
use Rattle.escrow_schema.specs.declared.plan.Plan.TheVariants as plan
use Rattle.escrow_schema.specs.Catalog.{table_named}
use Rattle.escrow_journal.proofs.Free.{grant_among}
use Rattle.escrow_machine.specs.declared.reply.Reply.TheVariants as reply
use Rattle.escrow_machine.specs.Altered.{added_violation, drop_refusal_of}
use Rattle.escrow_machine.specs.Asked.{violation_of, insert_violation, plan_of, reservation_from, row_name}
use Rattle.escrow_machine.specs.Promised.{is_plain_refusal}
use Rattle.escrow_machine.specs.Reply.{failure_of_refusal}
use Rattle.escrow_machine.specs.State.{State, open_in}
use Rattle.escrow_machine.specs.Step.{refusals}
use Rattle.escrow_machine.specs.Transition.{Transition, transition_of, alter_refusals, update_refusals}
use Rattle.escrow_machine.proofs.Choices.{append_all}
use Rattle.escrow_machine.proofs.Plans.{key_among, plan_among, select_among}
use Rattle.escrow_machine.proofs.Refusals.{check_among, first_among, if_among}

-- whether a rule refuses for it
abbrev pub is_rule : Refusal → Bool
is_rule refusal.Memory = false
is_rule refusal.TranscriptFull = false
is_rule refusal.Store = false
is_rule _ = true

-- whether a rule may refuse a statement for it late
abbrev is_late : Statement → Refusal → Bool
is_late asked r = is_rule r && not (is_plain_refusal asked (reply.Refused r))

abbrev IsRule : Refusal → Type 0
IsRule r = is_rule r ≡ true

abbrev IsLate : Statement → Refusal → Type 0
IsLate asked r = is_late asked r ≡ true

-- THE TRANSITIONS

-- each early refusal of a statement is of a rule, and each late one of a rule that may refuse late
abbrev AreByRules : Statement → Transition → Type 0
AreByRules asked transition = AllByRecursion (λ o. IfSome o IsRule) transition.early × AllByRecursion (λ o. IfSome o (IsLate asked)) transition.late

early : (b : Bool) (r : Refusal) → is_rule r ≡ true → IfSome (refuse_if b r) IsRule
early b r h = if_among IsRule b r h

late : (asked : Statement) (b : Bool) (r : Refusal) → is_late asked r ≡ true → IfSome (refuse_if b r) (IsLate asked)
late asked b r h = if_among (IsLate asked) b r h

-- the refusals of an ALTER TABLE, by its change
drop_early : (s : State) (name : List ℕ) (asked : TableChange) → IfSome (drop_refusal_of s name asked) IsRule
drop_early s name (change.Add text) = tt
drop_early s name (change.Drop check) = early _ _ refl

alter_late : (s : State) (text : AlterText) (name : List ℕ) (asked : TableChange)
    → AllByRecursion (λ (o : Option Refusal). IfSome o (IsLate (statement.Alter text))) (alter_refusals s name asked)
alter_late s text name (change.Add added) = (late (statement.Alter text) _ _ refl, (check_among (IsLate (statement.Alter text)) (added_violation s name added) (λ _. refl), tt))
alter_late s text name (change.Drop check) = tt

-- the late refusals of an UPDATE, by its plan
update_late : (s : State) (session : ℕ) (text : UpdateText) (o : Option Plan)
    → AllByRecursion (λ (o : Option Refusal). IfSome o (IsLate (statement.Update text))) (unwrap_or (option_map (update_refusals s session text.table) o) [])
update_late s session text None = tt
update_late s session text (Some (plan.Reserve key changes)) =
    let IsUpdate : Refusal → Type 0 = IsLate (statement.Update text) in (
      late (statement.Update text) _ _ refl,
      (
        late (statement.Update text) _ _ refl,
        (
          grant_among IsUpdate session (open_in s) refl refl,
          (check_among IsUpdate (violation_of s (reservation_from s session (row_name text.table key) changes)) (λ _. refl), tt),
        ),
      ),
    )
update_late s session text (Some (plan.Plain key values)) = (late (statement.Update text) _ _ refl, (late (statement.Update text) _ _ refl, tt))

-- the table that a SHOW JOURNAL names, if it names one
journal_early : (s : State) (table : Option (List ℕ)) → IfSome (option_and_then (λ name. refuse_if (is_none (table_named s.catalog name)) refusal.NoSuchTable) table) IsRule
journal_early s None = tt
journal_early s (Some name) = early _ _ refl

are_by_rules : (s : State) (session : ℕ) (asked : Statement) → AreByRules asked (transition_of s session asked)
unfolding transition_of
are_by_rules s session (statement.Create text) = ((early _ _ refl, (early _ _ refl, tt)), (late (statement.Create text) _ _ refl, (late (statement.Create text) _ _ refl, tt)))
are_by_rules s session (statement.Drop name) = ((early _ _ refl, (early _ _ refl, (early _ _ refl, tt))), tt)
are_by_rules s session (statement.Alter text) =
    ((early _ _ refl, (early _ _ refl, (drop_early s text.table text.change, tt))), alter_late s text text.table text.change)
are_by_rules s session (statement.Insert text) = (
  (early _ _ refl, (early _ _ refl, (early _ _ refl, tt))),
  (late (statement.Insert text) _ _ refl, (late (statement.Insert text) _ _ refl, (check_among (IsLate (statement.Insert text)) (insert_violation s text) (λ _. refl), tt))),
)
are_by_rules s session (statement.Update text) = ((early _ _ refl, (plan_among IsRule s text refl refl refl, tt)), update_late s session text (plan_of s text))
are_by_rules s session (statement.Delete text) =
    ((early _ _ refl, (early _ _ refl, (key_among IsRule s text.table text.row refl refl, tt))), (late (statement.Delete text) _ _ refl, (late (statement.Delete text) _ _ refl, tt)))
are_by_rules s session (statement.Select text) = ((early _ _ refl, (select_among IsRule s text refl refl, tt)), tt)
are_by_rules s session (statement.ShowTable name) = ((early _ _ refl, tt), tt)
are_by_rules s session (statement.ShowBounds text) =
    ((early _ _ refl, (key_among IsRule s text.table text.row refl refl, tt)), (late (statement.ShowBounds text) _ _ refl, tt))
are_by_rules s session (statement.ShowJournal table) = ((journal_early s table, tt), tt)
are_by_rules s session (statement.Savepoint name) = ((early _ _ refl, tt), tt)
are_by_rules s session statement.Commit = (tt, tt)
are_by_rules s session statement.Rollback = (tt, tt)
are_by_rules s session (statement.RollbackTo name) = ((early _ _ refl, tt), tt)

-- THE FIRST THAT APPLIES

late_by_rule : (asked : Statement) (refusals : List (Option Refusal)) → AllByRecursion (λ o. IfSome o (IsLate asked)) refusals
    → AllByRecursion (λ o. IfSome o IsRule) refusals
late_by_rule asked [] all = tt
late_by_rule asked (None ∷ rest) all = (tt, late_by_rule asked rest all.1)
late_by_rule asked (Some r ∷ rest) all = ((and_parts (is_rule r) (not (is_plain_refusal asked (reply.Refused r))) all.0).0, late_by_rule asked rest all.1)

-- what holds of the refusals of all rules holds of the refusals of a statement
pub refusal_meets : (P : Refusal → Type 0) (s : State) (session : ℕ) (asked : Statement) → ((r : Refusal) → is_rule r ≡ true → P r)
    → (r : Refusal) → first_refusal (refusals (transition_of s session asked)) ≡ Some r → P r
refusal_meets P s session asked each r first =
    let transition = transition_of s session asked in
    let all = are_by_rules s session asked in
    each r (first_among IsRule (refusals transition)
    (append_all (λ (o : Option Refusal). IfSome o IsRule) transition.early transition.late all.0 (late_by_rule asked transition.late all.1)) r first)

-- so it is no failure
no_failure : (r : Refusal) → is_rule r ≡ true → failure_of_refusal r ≡ None
no_failure refusal.Memory rule = absurd (false≢true rule)
no_failure refusal.Store rule = absurd (false≢true rule)
no_failure _ rule = refl

pub refusal_is_no_failure : (s : State) (session : ℕ) (asked : Statement) (r : Refusal) → first_refusal (refusals (transition_of s session asked)) ≡ Some r
    → failure_of_refusal r ≡ None
refusal_is_no_failure s session asked r first = refusal_meets (λ q. failure_of_refusal q ≡ None) s session asked no_failure r first

-- a statement that needs neither memory nor the store is not refused late
pub late_needs_more : (s : State) (session : ℕ) (asked : Statement) (r : Refusal) → first_refusal (transition_of s session asked).late ≡ Some r
    → is_plain_refusal asked (reply.Refused r) ≡ false
late_needs_more s session asked r first =
    let is : is_late asked r ≡ true = first_among (IsLate asked) (transition_of s session asked).late (are_by_rules s session asked).1 r first in
    not-true (is_plain_refusal asked (reply.Refused r)) (and_parts (is_rule r) (not (is_plain_refusal asked (reply.Refused r))) is).1
