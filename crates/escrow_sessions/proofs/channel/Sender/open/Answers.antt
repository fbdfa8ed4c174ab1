use Rattle.std.proofs.Common.{ap}
use Rattle.crossbeam_channel.specs.Claims.{view}
use Rattle.escrow_sessions.proofs.Keeping.{keeps_new, keeps_apart}
use Rattle.escrow_sessions.proofs.channel.Sender.open.Goals as goal

pub bounded_with-requires-clause-rule : goal.bounded_with-requires-clause-rule
bounded_with-requires-clause-rule c = keeps_new

pub another-taking-requires-clause-rule : goal.another-taking-requires-clause-rule
another-taking-requires-clause-rule c items views kept here =
    keeps_apart items views c.in_ok-sender.pass.id (view c.in_ok-sender.pass) kept here (ap (λ v. v.takes) c.in_ok-sender.ensures.3)
