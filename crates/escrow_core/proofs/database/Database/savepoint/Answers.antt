use Rattle.std.proofs.Common.{◌≡◌, None, refl}
use Rattle.escrow_num.specs.Session.{IsSession}
use Rattle.escrow_statement.specs.declared.statement.Statement.TheVariants as statement
use Rattle.escrow_machine.specs.State.{open_in}
use Rattle.escrow_journal.specs.Open.{savepoint_refusal}
use Rattle.escrow_machine.specs.declared.reply.Reply.TheVariants as reply
use Rattle.escrow_core.specs.Inside.{database_of}
use Rattle.escrow_machine.specs.Transition.{after_savepoint}
use Rattle.escrow_machine.proofs.Accepted.{savepoint_room}
use Rattle.escrow_machine.proofs.Refusals.{no_reason}
use Rattle.escrow_core.proofs.Served.{same_reason, savepoint_accepted, savepoint_serves, savepoint_refuses}
use Rattle.escrow_core.proofs.Serving.{apart_keeps, left_by, served_apart}
use Rattle.escrow_machine.proofs.ValidSavepoint.{savepoint_orderly, savepoint_valid}
use Rattle.escrow_core.proofs.database.Database.savepoint.Goals as goal

pub returns-in_err-mark : goal.returns-in_err-mark
returns-in_err-mark g c =
    let d = database_of c.self.inside.tables c.self.inside.reserved.txns in
    let s = d.state in
    let session = c.args.session in
    let name = c.args.name in
    let r = c.in_err-mark.field-0.0 in
    rw (← c.self.view_is, c.in_err-mark.ensures.unchanged, left_by _ _ c.from_residual.ensures.1)
    (served_apart g.S.Store session (statement.Savepoint name) d d (reply.Refused r) refl refl
    (savepoint_refuses s session name r (same_reason _ c.mark.result _ c.mark.ensures.refused c.in_err-mark.was) c.in_err-mark.ensures.only))

pub invariant_of-self-2 : goal.invariant_of-self-2
invariant_of-self-2 g c = record {
  keeps = (let d = database_of c.self.inside.tables c.self.inside.reserved.txns in
      let s = d.state in
      let session = c.args.session in
      let name = c.args.name in
      let of_session : IsSession session = c.mark.ensures.within in
      let none : savepoint_refusal session name (open_in s) ≡ None = no_reason _ c.mark.result _ c.in_ok-mark.was c.mark.ensures.refused in
      let room = savepoint_room s session name (savepoint_accepted s session name none) in
      rw c.in_ok-mark.ensures.saved (record {
        kept = apart_keeps g.S.Store d (after_savepoint s session name) c.self.invariant.keeps.kept
            (savepoint_orderly s session name c.self.invariant.keeps.kept.orderly of_session room) (λ valid. savepoint_valid s session name valid of_session room);
        placed = c.self.invariant.keeps.placed;
        of_tables = c.self.invariant.keeps.of_tables;
        amounts = c.self.invariant.keeps.amounts;
      }));
  known = c.self.invariant.known;
  read = c.self.invariant.read;
}

pub returns : goal.returns
returns g c =
    let d = database_of c.self.inside.tables c.self.inside.reserved.txns in
    let s = d.state in
    let session = c.args.session in
    let name = c.args.name in
    let none : savepoint_refusal session name (open_in s) ≡ None = no_reason _ c.mark.result _ c.in_ok-mark.was c.mark.ensures.refused in
    rw (← c.self.view_is, c.in_ok-mark.ensures.saved)
    (served_apart g.S.Store session (statement.Savepoint name) d (record { store = d.store; state = after_savepoint s session name }) (reply.Savepoint name) refl refl (savepoint_serves s session name none))
