use Rattle.std.proofs.Common.{sym, ◌∙◌}
use Rattle.escrow_core.proofs.Parts.{commits_more}
use Rattle.escrow_core.proofs.database.Database.run_len.Goals as goal

pub loop-i-preserved : goal.loop-i-preserved
loop-i-preserved g c =
    commits_more c.args.plan.now c.loop-i.i c.index-plan-i.result c.loop-i-test.true c.index-plan-i.is c.in-Commit.is (sym c.is_named.ensures ∙ c.if-not-is_named.true) c.loop-i.invariant
