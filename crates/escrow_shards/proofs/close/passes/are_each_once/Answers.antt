use Rattle.std.proofs.Common.{◌≡◌, ℕ, true, arith, below_more}
use Rattle.escrow_shards.specs.Counted.{AreOnce}
use Rattle.escrow_shards.proofs.Rest.{is_false, is_true}
use Rattle.escrow_shards.proofs.close.passes.are_each_once.Goals as goal

pub returns-then-not-are_once : goal.returns-then-not-are_once
returns-then-not-are_once c = is_false (λ all.
    let once : c.are_once.result ≡ true = c.are_once.ensures.1 (all c.loop-database.database c.loop-database-test.true) in
    cc)

pub loop-database-preserved : goal.loop-database-preserved
loop-database-preserved c =
    below_more (λ (d : ℕ). AreOnce d c.args.sessions c.args.passes.now) c.loop-database.database c.loop-database.invariant (c.are_once.ensures.0 c.if-not-are_once.false)

pub returns : goal.returns
returns c = is_true (λ d below. c.loop-database.invariant d (omega arith))
