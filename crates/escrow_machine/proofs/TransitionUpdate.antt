-- The transition of an UPDATE, by its plan.
use Rattle.std.specs.Prelude.{◌≡◌, ℕ, ℤ, ◌+◌, ◌≤◌, is_none, unwrap_or, option_map, Option, Some, None, List, [], ◌∷◌}
use Rattle.std.proofs.Common.{refl, sym, arith, le_refl, ◌∙◌}
use Rattle.escrow_num.specs.declared.refusal.Refusal.{Refusal}
use Rattle.escrow_num.specs.declared.refusal.Refusal.TheVariants as refusal
use Rattle.escrow_num.specs.declared.value.Value.{Value}
use Rattle.escrow_num.specs.Refusal.{first_refusal, refuse_if}
use Rattle.escrow_num.specs.Session.{IsSession}
use Rattle.escrow_statement.specs.declared.statement.Statement.TheVariants as statement
use Rattle.escrow_statement.specs.declared.statement.UpdateText.{UpdateText}
use Rattle.escrow_schema.specs.declared.plan.Plan.{Plan}
use Rattle.escrow_schema.specs.declared.plan.Plan.TheVariants as plan
use Rattle.escrow_schema.specs.Catalog.{table_named}
use Rattle.escrow_machine.specs.declared.reply.Reply.TheVariants as reply
use Rattle.escrow_machine.specs.Asked.{plan_of, plan_refusal_of, row_name, reservation_from}
use Rattle.escrow_machine.specs.Accepted.{IsAccepted}
use Rattle.escrow_machine.specs.State.{State}
use Rattle.escrow_schema.specs.Rows.{with_plain}
use Rattle.escrow_machine.specs.Step.{refusals}
use Rattle.escrow_machine.specs.Transition.{Transition, transition_of, update_refusals, update_reply, after_update}
use Rattle.escrow_machine.specs.Valid.{IsValid}
use Rattle.escrow_machine.proofs.Accepted.{plan_there, reserve_stands, plain_stands}
use Rattle.escrow_machine.proofs.Queries.{shows_just}
use Rattle.escrow_schema.proofs.PlanLemmas.{plans_of_whole_row, plain_plans_fit}
use Rattle.escrow_machine.proofs.ValidPlain.{plain_valid}
use Rattle.escrow_machine.proofs.ValidUpdate.{update_valid}
use Rattle.escrow_machine.proofs.TransitionWords.{IsTransition}

-- the transition of an UPDATE, by its plan
abbrev update_by : State → ℕ → UpdateText → Option Plan → Transition
update_by s session text o = record {
  early = refuse_if (is_none (table_named s.catalog text.table)) refusal.NoSuchTable ∷ plan_refusal_of s text ∷ [];
  late = unwrap_or (option_map (update_refusals s session text.table) o) [];
  reply = unwrap_or (option_map (update_reply s) o) reply.Updated;
  next = unwrap_or (option_map (after_update s session text.table) o) s;
}

-- a granted reservation leaves the state valid
pub reserved_valid : (s : State) (session : ℕ) (text : UpdateText) (key : Value) (changes : List (Option ℤ)) → IsValid s → IsSession session
    → plan_of s text ≡ Some (plan.Reserve key changes) → IsAccepted s session (statement.Update text)
    → IsValid (after_update s session text.table (plan.Reserve key changes))
reserved_valid s session text key changes valid of_session is accepted =
    let stands = reserve_stands s session text key changes is accepted in
    update_valid s stands.table stands.row (reservation_from s session (row_name text.table key) changes) valid stands.named stands.found of_session refl stands.free.more_ids
    (plans_of_whole_row stands.table text key changes stands.planned) stands.free.room stands.row_room stands.safe

-- replaced plain values leave the state valid
pub replaced_valid : (s : State) (session : ℕ) (text : UpdateText) (key : Value) (values : List (Option Value)) → IsValid s
    → plan_of s text ≡ Some (plan.Plain key values) → IsAccepted s session (statement.Update text)
    → IsValid (record s { rows = with_plain (row_name text.table key) values s.rows })
replaced_valid s session text key values valid is accepted =
    let stands = plain_stands s session text key values is accepted in
    plain_valid s stands.table (row_name text.table key) values valid stands.named (plain_plans_fit stands.table text key values stands.planned)

more : (n : ℕ) → n ≤ n + 1
more n = omega arith

-- an UPDATE without a plan is refused
no_plan : (s : State) (text : UpdateText) (late : List (Option Refusal)) → plan_of s text ≡ None
    → ¬ (first_refusal (refuse_if (is_none (table_named s.catalog text.table)) refusal.NoSuchTable ∷ plan_refusal_of s text ∷ late) ≡ None)
no_plan s text late none = λ accepted. let p = plan_there s text late accepted in let is : Some p.plan ≡ None = sym p.is ∙ none in absurd (cc)

update_transition_by : (s : State) (session : ℕ) (text : UpdateText) (o : Option Plan) → plan_of s text ≡ o
    → (first_refusal (refusals (update_by s session text o)) ≡ None → IsAccepted s session (statement.Update text))
    → IsTransition s session (statement.Update text) (update_by s session text o)
update_transition_by s session text None is accepts = record {
  answers = λ r e. absurd (cc);
  succeeds = refl;
  seen = λ accepted. absurd (no_plan s text [] is accepted);
  ids = λ _. le_refl _;
  next = λ _ id e. absurd (cc);
  valid = λ _ valid _. valid;
}
update_transition_by s session text (Some (plan.Reserve key changes)) is accepts = record {
  answers = λ r e. absurd (cc);
  succeeds = refl;
  seen = λ _. (plan.Reserve key changes, is, shows_just (after_update s session text.table (plan.Reserve key changes)) s.catalog s.rows refl refl);
  ids = λ _. more s.next_id;
  next = λ _ id answered. let same : id ≡ s.next_id = cc in (same, refl);
  valid = λ accepted valid of_session. reserved_valid s session text key changes valid of_session is (accepts accepted);
}
update_transition_by s session text (Some (plan.Plain key values)) is accepts = record {
  answers = λ r e. absurd (cc);
  succeeds = refl;
  seen = λ _.
      let next : State = record s { rows = with_plain (row_name text.table key) values s.rows } in
      (plan.Plain key values, is, shows_just next s.catalog (with_plain (row_name text.table key) values s.rows) refl refl);
  ids = λ _. le_refl _;
  next = λ _ id e. absurd (cc);
  valid = λ accepted valid _. replaced_valid s session text key values valid is (accepts accepted);
}

pub update_transition : (s : State) (session : ℕ) (text : UpdateText) → IsTransition s session (statement.Update text) (transition_of s session (statement.Update text))
unfolding transition_of
update_transition s session text = update_transition_by s session text (plan_of s text) refl (λ accepted. accepted)
