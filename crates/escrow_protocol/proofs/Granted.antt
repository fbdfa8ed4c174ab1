-- What the machine's grant makes of its state.
use Rattle.std.specs.Prelude.{◌≡◌, ℕ, Option, Some, None, option_map, option_and_then, unwrap_or, List, [], ◌∷◌, ◌++◌}
use Rattle.std.proofs.Common.{refl, sym, ap}
use Rattle.escrow_num.specs.declared.reservation.Reservation.{Reservation}
use Rattle.escrow_statement.specs.declared.statement.Statement.TheVariants as statement
use Rattle.escrow_statement.specs.declared.statement.UpdateText.{UpdateText}
use Rattle.escrow_schema.specs.declared.plan.Plan.{Plan}
use Rattle.escrow_schema.specs.declared.plan.Plan.TheVariants as plan
use Rattle.escrow_machine.specs.declared.reply.Reply.{Reply}
use Rattle.escrow_machine.specs.declared.reply.Reply.TheVariants as reply
use Rattle.escrow_machine.specs.Asked.{plan_of, reserved_by, reservation_of}
use Rattle.escrow_machine.specs.State.{State}
use Rattle.escrow_machine.specs.Step.{step}
use Rattle.escrow_machine.specs.Transition.{transition_of, update_reply, after_update}
use Rattle.escrow_machine.proofs.LawsSteps.{step_has}

-- one reservation more, of the session
pub record HasOneMore (s : State) (session : ℕ) (r : Reservation) (new : State) : Type 0 where
  pub catalog : new.catalog ≡ s.catalog
  pub rows : new.rows ≡ s.rows
  pub reservations : new.reservations ≡ s.reservations ++ r ∷ []
  pub of_session : r.session ≡ session

by_plan : (s : State) (session : ℕ) (table : List ℕ) (id : ℕ) (r : Reservation) (o : Option Plan)
    → option_and_then (reserved_by s session table) o ≡ Some r
    → unwrap_or (option_map (update_reply s) o) reply.Updated ≡ reply.Reserved id
    → HasOneMore s session r (unwrap_or (option_map (after_update s session table) o) s)
by_plan s session table id r None is e = absurd (cc)
by_plan s session table id r (Some (plan.Plain key values)) is e = absurd (cc)
by_plan s session table id r (Some (plan.Reserve key changes)) is e =
    let same : record { id = s.next_id; session = session; row = record { table = table; key = key }; changes = changes } ≡ r = cc in
    record {
      catalog = refl;
      rows = refl;
      reservations = ap (λ (x : Reservation). s.reservations ++ x ∷ []) same;
      of_session = sym (ap (λ (x : Reservation). x.session) same);
    }

accepted_one : (s : State) (session : ℕ) (text : UpdateText) (id : ℕ) (r : Reservation) → reservation_of s session text ≡ Some r
    → (transition_of s session (statement.Update text)).reply ≡ reply.Reserved id
    → HasOneMore s session r (transition_of s session (statement.Update text)).next
unfolding transition_of
accepted_one s session text id r is e = by_plan s session text.table id r (plan_of s text) is e

pub has_one_more : (s : State) (session : ℕ) (text : UpdateText) (id : ℕ) (r : Reservation) → reservation_of s session text ≡ Some r
    → (step s session (statement.Update text)).0 ≡ reply.Reserved id → HasOneMore s session r (step s session (statement.Update text)).1
has_one_more s session text id r is =
    step_has (λ (p : Reply × State). p.0 ≡ reply.Reserved id → HasOneMore s session r p.1) s session (statement.Update text)
    (λ _ _ e. absurd (cc)) (λ accepted e. accepted_one s session text id r is e)
