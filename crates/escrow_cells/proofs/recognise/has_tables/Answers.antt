use Rattle.escrow_cells.proofs.Recognising.{three_tables}
use Rattle.escrow_cells.proofs.recognise.has_tables.Goals as goal

pub returns : goal.returns
returns c =
    let three = three_tables c.args.schema.now c.first-item.result c.second-item.result c.third-item.result c.as_slice.result.now c.as_slice.ensures c.in-len3-up.len_at_least c.first-item.is c.second-item.is c.third-item.is in
    let all = c.are_first.ensures in
    (λ found. three.0 (all.0 found), λ has. all.1 (three.1 has))
