use Rattle.std.proofs.Common.{◌∙◌, map, length, drop, arith}
use Rattle.std.proofs.lemmas.List.{take_at}
use Rattle.escrow_txn.proofs.Empty.{emptied, changed_more, changed_all}
use Rattle.escrow_txn.proofs.journals.empty_all.Goals as goal

pub loop-journal-preserved : goal.loop-journal-preserved
loop-journal-preserved c =
    changed_more emptied c.loop-journal.journal-items (map emptied c.args.journals.now.items) c.loop-journal.journal-index c.journal-item.result c.take_all.new.self
    (omega arith) c.take_all.ensures.none c.loop-journal.invariant

pub returns : goal.returns
returns c =
    let items = c.loop-journal.journal-items in
    take_at items (drop (length items) c.args.journals.now.items) c.args.journals.now.len (omega arith)
    ∙ changed_all emptied items (map emptied c.args.journals.now.items) c.loop-journal.journal-index (omega arith) c.loop-journal.invariant
