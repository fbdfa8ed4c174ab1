use Rattle.std.proofs.Common.{◌↔◌, drop}
use Rattle.std.specs.List.{AllByRecursion}
use Rattle.escrow_shards.specs.Whole.{HasItsReceipts}
use Rattle.escrow_shards.proofs.close.findings.lacks_receipts.Given as goal

abbrev pub invariant-loop-pass : goal.invariant-loop-pass
invariant-loop-pass g l =
    AllByRecursion (HasItsReceipts l.parts l.closed) (drop l.pass-index l.passes) ↔ AllByRecursion (HasItsReceipts l.parts l.closed) l.passes
