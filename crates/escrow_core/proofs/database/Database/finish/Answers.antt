use Rattle.std.proofs.Common.{◌∙◌}
use Rattle.escrow_machine.proofs.Settling.{rolled_back}
use Rattle.sqlite.specs.Held.{state}
use Rattle.escrow_core.proofs.Lasting.{commit_lasts, rollback_lasts}
use Rattle.escrow_core.proofs.Serving.{survives_itself}
use Rattle.escrow_core.proofs.database.Database.finish.Goals as goal

pub returns-in-Rollback-clause-done : goal.returns-in-Rollback-clause-done
returns-in-Rollback-clause-done g c = λ _. rw c.in-Rollback.is (c.rollback.ensures.state ∙ rolled_back c.args.self.now.state c.args.session)

pub returns-in-Rollback-clause-crash : goal.returns-in-Rollback-clause-crash
returns-in-Rollback-clause-crash g c = rw c.rollback.ensures.store (survives_itself (state g.S.Store c.args.self.now.store) _)

pub returns-in-Commit-clause-durable : goal.returns-in-Commit-clause-durable
returns-in-Commit-clause-durable g c = rw c.in-Commit.is (commit_lasts g.S.Store c.args.session c.args.self.now c.end_by_commit.new.self c.end_by_commit.result c.end_by_commit.ensures.done c.end_by_commit.ensures.count)

pub returns-in-Rollback-clause-durable : goal.returns-in-Rollback-clause-durable
returns-in-Rollback-clause-durable g c =
    rw (c.in-Rollback.is, c.rollback.ensures.store) (rollback_lasts (state g.S.Store c.args.self.now.store) c.args.session c.args.self.now.state c.rollback.new.self.state)
