use Rattle.std.proofs.Common.{◌≡◌, List, Option, option_map}
use Rattle.sqlite.specs.Held.{state}
use Rattle.escrow_num.specs.declared.value.Value.{Value}
use Rattle.escrow_schema.specs.declared.table.TableDef.{TableDef}
use Rattle.escrow_schema.specs.Fit.{values_of}
use Rattle.escrow_schema.specs.Rows.{row_named}
use Rattle.escrow_rows.specs.View.{rows_in}
use Rattle.escrow_tables.specs.Inside.{stored_of}
use Rattle.escrow_tables.proofs.AtPlace.{by_table, is_table_at, named_at, row_told}
use Rattle.escrow_tables.proofs.Placed.{item_at}
use Rattle.escrow_tables.proofs.tables.Tables.values.Goals as goal

pub values-requires : goal.values-requires
values-requires g c = is_table_at c.self.inside.catalog c.args.name.now.table c.args.place c.at.result.now c.self.invariant.listed.is_catalog (rw (← c.self.view_is) at c.requires) (item_at c.self.inside.catalog c.args.place c.at.result.now c.at.ensures.at)

pub returns-clause-told : goal.returns-clause-told
returns-clause-told g c =
    let named = named_at c.self.inside.catalog c.args.name.now.table c.args.place c.at.result.now (rw (← c.self.view_is) at c.requires) (item_at c.self.inside.catalog c.args.place c.at.result.now c.at.ensures.at) in
    let tables = c.self.inside.catalog in
    let counted = c.at.result.now in
    let last = state g.S.Store c.self.inside.last.value in
    let rows = rows_in (stored_of tables) last.now in
    rw (← c.self.view_is) (λ clean.
    by_table tables c.args.name.now.table counted named (λ (table : TableDef) (found : Option (List Value)). found ≡ option_map (values_of table) (row_named rows c.args.name.now)) c.values.result
    (row_told tables c.args.name.now.table counted named (option_map (values_of counted.stored.table)) c.args.name.now.key
    (state g.S.Store c.self.inside.store) (state g.S.Store c.values.new.self) last c.values.result c.self.invariant c.values.ensures.only_reads.usable clean (c.values.ensures.told clean)))
