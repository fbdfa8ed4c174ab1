use Rattle.sqlite.specs.Held.{state}
use Rattle.escrow_recover.proofs.OpenedLemmas.{stores_rows}
use Rattle.escrow_rows.specs.View.{rows_in}
use Rattle.escrow_tables.specs.Inside.{stored_of}
use Rattle.escrow_tables.proofs.Held.{keeps_opened}
use Rattle.escrow_tables.proofs.Named.{rows_of_catalog}
use Rattle.escrow_tables.proofs.tables.Tables.over.Goals as goal

pub invariant_of-result : goal.invariant_of-result
invariant_of-result g c = rw c.of.ensures (keeps_opened (state g.S.Store c.args.opened.store) c.args.opened.catalog c.tables.ensures.listed c.requires)

pub returns-clause-valid : goal.returns-clause-valid
returns-clause-valid g c = c.tables.ensures.listed.is_catalog

pub returns-clause-are_rows : goal.returns-clause-are_rows
returns-clause-are_rows g c =
    let tables = c.args.opened.catalog in
    let s = state g.S.Store c.args.opened.store in
    rw c.of.ensures (λ clean. rows_of_catalog tables (rows_in (stored_of tables) s.now) ((keeps_opened s tables c.tables.ensures.listed c.requires).held clean).are_rows)

pub returns-clause-rows : goal.returns-clause-rows
returns-clause-rows g c = rw c.of.ensures (λ rows is. stores_rows (state g.S.Store c.args.opened.store) c.args.opened.catalog rows is)
