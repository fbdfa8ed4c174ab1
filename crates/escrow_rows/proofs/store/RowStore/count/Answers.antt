use Rattle.std.proofs.Common.{rules, w64}
use Rattle.std.proofs.lemmas.Int.{to_z-of_z}
use Rattle.escrow_rows.proofs.RowCounts.{count_told_of}
use Rattle.escrow_rows.proofs.store.RowStore.count.Goals as goal

pub returns-clause-told : goal.returns-clause-told
returns-clause-told g c =
    λ clean.
    let table = c.args.table.now in
    count_told_of g.S.Store c.self.inside.conn c.args.self.now c.count_keys.new.conn c.self.view_is table _ c.count_keys.result (to_z-of_z w64 table.id (search rules))
    (c.count_keys.ensures.count clean) (c.count_keys.ensures.is_open clean)
