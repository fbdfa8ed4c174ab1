use Rattle.std.proofs.Common.{◌∙◌, rules, w64}
use Rattle.std.proofs.lemmas.Int.{to_z-of_z}
use Rattle.escrow_rows.proofs.ImageRedefine.{redefines}
use Rattle.escrow_rows.proofs.Runs.{writes_as}
use Rattle.escrow_rows.proofs.store.RowStore.redefine.Goals as goal

pub returns : goal.returns
returns g c =
    let table = c.args.table.now in
    let number = to_z-of_z w64 table.id (search rules) in
    let written = c.as_str-2.ensures.value ∙ c.in_ok-text.ensures.text in
    writes_as g.S.Store c.self.inside.conn c.args.self.now c.run.new.conn _ _ _ c.self.view_is
    (redefines table c.args.altered.now _ c.as_str.result c.as_str-2.result number c.requires.alike c.as_str.ensures written) c.run.ensures.writes
