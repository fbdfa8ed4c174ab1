use Rattle.std.proofs.Common.{◌≡◌, length, true, refl}
use Rattle.escrow_num.proofs.Items.{all_at}
use Rattle.escrow_shards.specs.Found.{IsAmong}
use Rattle.escrow_shards.specs.Whole.{HasItsReceipts}
use Rattle.escrow_shards.proofs.Places.{there}
use Rattle.escrow_shards.proofs.Rest.{all_here, all_end}
use Rattle.escrow_shards.proofs.close.findings.lacks_receipts.Goals as goal

pub has_its_receipts-requires : goal.has_its_receipts-requires
has_its_receipts-requires g c =
    all_at (IsAmong (length c.args.closed.now)) c.args.passes.now c.loop-pass.pass-index c.pass-item.result c.loop-pass-test.true c.pass-item.is c.requires

pub returns-then-not-has_its_receipts-clause-some : goal.returns-then-not-has_its_receipts-clause-some
returns-then-not-has_its_receipts-clause-some g c = (
  c.loop-pass.pass-index,
  (
    c.pass-item.result,
    (
      there c.args.passes.now c.loop-pass.pass-index c.pass-item.result c.loop-pass-test.true c.pass-item.is,
      (refl, (refl, λ has. let all : c.has_its_receipts.result ≡ true = c.has_its_receipts.ensures.1 has in cc)),
    ),
  ),
)

pub loop-pass-preserved : goal.loop-pass-preserved
loop-pass-preserved g c =
    all_here (HasItsReceipts c.args.parts.now c.args.closed.now) c.args.passes.now c.loop-pass.pass-index c.pass-item.result c.loop-pass-test.true c.pass-item.is
    (c.has_its_receipts.ensures.0 c.if-not-has_its_receipts.false) c.loop-pass.invariant

pub returns-clause-none : goal.returns-clause-none
returns-clause-none g c =
    all_end (HasItsReceipts c.args.parts.now c.args.closed.now) c.args.passes.now c.loop-pass.pass-index c.loop-pass-test.false c.loop-pass.invariant
