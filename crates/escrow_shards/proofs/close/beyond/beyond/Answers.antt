use Rattle.std.proofs.Common.{refl, eq-eqb, arith}
use Rattle.escrow_shards.proofs.NoPass.{has_receipt}
use Rattle.escrow_shards.proofs.close.beyond.beyond.Goals as goal

pub returns-then-get-sessions-clause-some : goal.returns-then-get-sessions-clause-some
returns-then-get-sessions-clause-some c =
    let e = c.entry-item.result in (
      omega (arith, c.if-get-sessions.true, c.get.ensures.value),
      has_receipt e.session c.args.entries.now c.loop-entry.entry-index e c.loop-entry-test.true c.entry-item.is (eq-eqb e.session e.session refl),
    )
