use Rattle.escrow_tables.proofs.AllRows.{all_by_table}
use Rattle.escrow_tables.proofs.WholeReads.{reads_nothing}
use Rattle.escrow_tables.proofs.tables.Tables.all_rows.Goals as goal

pub loop-place-init : goal.loop-place-init
loop-place-init g c =
    let t = c.args.self.now in
    record {
      reads = reads_nothing g.S.Store t;
      rows = λ clean. rw c.new-rows.ensures.items (all_by_table t.catalog t.rows c.len-place-end.ensures.catalog.order (c.len-place-end.ensures.rows clean));
    }
