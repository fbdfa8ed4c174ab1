use Rattle.std.proofs.Common.{rules}
use Rattle.escrow_cells.proofs.Recognising.{only_item}
use Rattle.escrow_cells.proofs.recognise.is_only.Goals as goal

pub returns : goal.returns
returns c =
    let is = only_item c.args.keys.now c.key-item.result c.in-len1.len_at_least c.in-len1.len_below c.key-item.is in
    rw is (search rules)
