use Rattle.std.proofs.Common.{◌∙◌, ap}
use Rattle.sqlite.specs.Effect.{Database}
use Rattle.sqlite.specs.Held.{state}
use Rattle.escrow_rows.specs.View.{rows_in}
use Rattle.escrow_rows.proofs.ListedTables.{listed_are}
use Rattle.escrow_tables.specs.Inside.{stored_of}
use Rattle.escrow_tables.proofs.Writing.{holds}
use Rattle.escrow_tables.proofs.tables.Tables.is_at_rest.Goals as goal

pub returns-clause-left : goal.returns-clause-left
returns-clause-left g c =
    let tables = c.self.inside.catalog in
    let db = (state g.S.Store c.self.inside.last.value).now in
    rw (← c.self.view_is) (λ usable trees left. (
      db,
      holds tables (rows_in (stored_of tables) db) db (listed_are tables c.self.invariant.listed) (c.self.invariant.held usable.0),
      c.is_at_rest.ensures.left usable.1 trees left ∙ ap (λ (d : Database). d.trees) (c.self.invariant.same usable),
    ))
