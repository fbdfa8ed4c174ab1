use Rattle.std.proofs.Common.{rules, w64}
use Rattle.std.proofs.lemmas.Int.{to_z-of_z}
use Rattle.escrow_rows.proofs.Finding.{delete_none}
use Rattle.escrow_rows.proofs.ImageDelete.{deletes}
use Rattle.escrow_rows.proofs.Runs.{writes_as}
use Rattle.escrow_rows.proofs.store.RowStore.delete.Goals as goal

pub returns-clause-writes : goal.returns-clause-writes
returns-clause-writes g c =
    let table = c.args.table.now in
    let number = to_z-of_z w64 table.id (search rules) in
    writes_as g.S.Store c.self.inside.conn c.args.self.now c.run_if_found.new.conn _ _ _ c.self.view_is (deletes table c.args.key.now _ c.datum.result number c.datum.ensures) c.run_if_found.ensures.writes

pub returns-clause-none : goal.returns-clause-none
returns-clause-none g c = λ clean is.
    let table = c.args.table.now in
    delete_none g.S.Store c.self.inside.conn c.args.self.now table c.args.key.now _ c.datum.result c.self.view_is (to_z-of_z w64 table.id (search rules)) c.datum.ensures (c.run_if_found.ensures.none clean is)
