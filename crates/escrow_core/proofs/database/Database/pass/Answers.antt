use Rattle.std.proofs.Common.{sym}
use Rattle.escrow_core.proofs.Passing.{served_beside, not_refused}
use Rattle.escrow_core.proofs.Quiet.{pass_survives}
use Rattle.escrow_core.proofs.database.Database.pass.Goals as goal

pub returns-in_default : goal.returns-in_default
returns-in_default g c = record {
  beside = λ clean.
      served_beside c.args.self.now.state c.args.session c.args.statement.now c.step.result c.step.new.self.state (sym c.if-not-may_pass.ensures) c.requires
      (not_refused c.step.result c.in_default.not-Refused) (c.step.ensures.event clean);
  refused = tt;
  usable = c.step.ensures.usable;
  survives = pass_survives _ _ c.args.self.now.state c.args.session c.args.statement.now (sym c.if-not-may_pass.ensures) c.requires c.step.ensures.crash;
}

pub returns-in-Refused-clause-survives : goal.returns-in-Refused-clause-survives
returns-in-Refused-clause-survives g c = pass_survives _ _ c.args.self.now.state c.args.session c.args.statement.now (sym c.if-not-may_pass.ensures) c.requires c.step.ensures.crash
