use Rattle.std.proofs.Common.{◌≡◌}
use Rattle.escrow_shards.specs.Closed.{Closed, all_entries}
use Rattle.escrow_shards.specs.Receipts.{receipts_of}
use Rattle.escrow_shards.proofs.Places.{there, at_place}
use Rattle.escrow_shards.proofs.close.findings.has_its_receipts.Goals as goal

pub returns : goal.returns
returns g c =
    let pass = c.args.pass.now in
    let is = rw c.database.ensures at c.index-closed-database.is in (
      (λ t.
          at_place (λ (x : Closed _). pass.receipts ≡ receipts_of pass.session (all_entries pass.database c.args.parts.now x))
          c.args.closed.now pass.database c.index-closed-database.result c.requires is (c.matches.ensures.0 t)),
      (λ has. c.matches.ensures.1 (has c.index-closed-database.result (there c.args.closed.now pass.database c.index-closed-database.result c.requires is))),
    )
