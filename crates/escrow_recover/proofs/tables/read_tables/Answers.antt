use Rattle.std.proofs.Common.{Global, Vec}
use Rattle.sqlite.specs.Held.{state}
use Rattle.escrow_schema.specs.declared.stored.StoredTable.{StoredTable}
use Rattle.escrow_recover.proofs.Tabs.{rows_told, tables_found}
use Rattle.escrow_recover.proofs.tables.read_tables.Goals as goal

pub returns-clause-found : goal.returns-clause-found
returns-clause-found g c = λ clean.
    tables_found (λ (v : Vec StoredTable Global). v.items) c.tables_of.result c.deref.result.now c.in_ok-rows.rows.items (state g.S.Store c.args.store.now).now c.deref.ensures.value
    (c.in_ok-rows.ensures.rows clean) c.tables_of.ensures.tables c.tables_of.ensures.rows

pub returns-clause-foreign : goal.returns-clause-foreign
returns-clause-foreign g c = λ usable told store tables are.
    let found = c.in_ok-rows.ensures.rows usable.0 in
    c.tables_of.ensures.foreign told tables are.are_tables
    (rows_told tables c.deref.result.now c.in_ok-rows.rows.items (state g.S.Store c.args.store.now).now c.deref.ensures.value (found.1 store) are)
