use Rattle.std.proofs.Common.{rules, w64}
use Rattle.std.proofs.lemmas.Int.{to_z-of_z}
use Rattle.escrow_rows.proofs.ImageTables.{drops}
use Rattle.escrow_rows.proofs.Runs.{writes_as}
use Rattle.escrow_rows.proofs.store.RowStore.drop_table.Goals as goal

pub returns : goal.returns
returns g c =
    let table = c.args.table.now in
    let number = to_z-of_z w64 table.id (search rules) in
    writes_as g.S.Store c.self.inside.conn c.args.self.now c.run.new.conn _ _ _ c.self.view_is (drops table _ number) c.run.ensures.writes
