use Rattle.escrow_machine.specs.declared.reply.Reply.TheVariants as reply
use Rattle.escrow_core.proofs.Promised.{promised}
use Rattle.escrow_core.proofs.database.Database.step.Goals as goal

pub returns-in-Ok-clause-succeeds : goal.returns-in-Ok-clause-succeeds
returns-in-Ok-clause-succeeds g c =
    promised g.S.Store c.args.session c.args.statement.now c.args.self.now c.in-Ok.reply c.serve_statement.new.self c.in-Ok.ensures.answers

pub returns-in-Err-clause-succeeds : goal.returns-in-Err-clause-succeeds
returns-in-Err-clause-succeeds g c =
    promised g.S.Store c.args.session c.args.statement.now c.args.self.now (reply.Refused c.in-Err.refusal) c.serve_statement.new.self c.in-Err.ensures.answers
