use Rattle.sqlite.specs.Held.{state}
use Rattle.escrow_rows.specs.View.{rows_in}
use Rattle.escrow_tables.specs.Inside.{stored_of}
use Rattle.escrow_tables.proofs.Named.{rows_of_catalog}
use Rattle.escrow_tables.proofs.tables.Tables.len.Goals as goal

pub returns-clause-rows : goal.returns-clause-rows
returns-clause-rows g c =
    let tables = c.self.inside.catalog in
    let rows = rows_in (stored_of tables) (state g.S.Store c.self.inside.last.value).now in
    rw (← c.self.view_is) (λ clean. rows_of_catalog tables rows (c.self.invariant.held clean).are_rows)

pub returns-clause-catalog : goal.returns-clause-catalog
returns-clause-catalog g c = rw (← c.self.view_is) c.self.invariant.listed.is_catalog
