use Rattle.std.proofs.Common.{ap, ◌∙◌}
use Rattle.crossbeam_channel.specs.Claims.{view}
use Rattle.escrow_sessions.proofs.Keeping.{keeps_together, keeps_whole}
use Rattle.escrow_sessions.proofs.channel.Sender.meet.Goals as goal

pub absorb-requires-clause-rule : goal.absorb-requires-clause-rule
absorb-requires-clause-rule c items views kept here apart there =
    let sender_end = c.args.self in let receiver_end = c.args.receiver_end in
    keeps_together items views sender_end.pass.id (view sender_end.pass) kept here receiver_end.pass.id (view receiver_end.pass) sender_end.sends receiver_end.takes apart there

pub learn_as-requires-clause-rule : goal.learn_as-requires-clause-rule
learn_as-requires-clause-rule c items views kept here =
    let pass = c.absorb.new.pass in
    keeps_whole items views pass.id (view pass) kept here (ap (λ v. v.sends) c.absorb.ensures.rule ∙ c.args.self.sends) (ap (λ v. v.takes) c.absorb.ensures.rule ∙ c.args.receiver_end.takes)
