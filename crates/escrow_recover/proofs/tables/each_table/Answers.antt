use Rattle.escrow_recover.proofs.Tabs.{one_more}
use Rattle.escrow_recover.proofs.tables.each_table.Goals as goal

pub loop-row-preserved : goal.loop-row-preserved
loop-row-preserved c =
    let pushed = c.in_ok-push_table.ensures.added in
    one_more c.args.rows.now c.loop-row.tables.items c.push_table.new.tables.items c.loop-row.row-index c.row-item.result pushed.0
    c.loop-row-test.true c.row-item.is c.loop-row.invariant pushed.1 pushed.2 pushed.3
