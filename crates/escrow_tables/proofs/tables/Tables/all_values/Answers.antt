use Rattle.std.proofs.Common.{◌≡◌, List, map}
use Rattle.sqlite.specs.Held.{state}
use Rattle.escrow_num.specs.declared.row.Row.{Row}
use Rattle.escrow_num.specs.declared.value.Value.{Value}
use Rattle.escrow_schema.specs.declared.table.TableDef.{TableDef}
use Rattle.escrow_schema.specs.Fit.{values_of}
use Rattle.escrow_schema.specs.Rows.{rows_of}
use Rattle.escrow_rows.specs.View.{rows_in}
use Rattle.escrow_tables.specs.Inside.{stored_of}
use Rattle.escrow_tables.proofs.AtPlace.{by_table, is_table_at, named_at, rows_told}
use Rattle.escrow_tables.proofs.Placed.{item_at}
use Rattle.escrow_tables.proofs.tables.Tables.all_values.Goals as goal

pub all_values-requires : goal.all_values-requires
all_values-requires g c = is_table_at c.self.inside.catalog c.args.name c.args.place c.at.result.now c.self.invariant.listed.is_catalog (rw (← c.self.view_is) at c.requires) (item_at c.self.inside.catalog c.args.place c.at.result.now c.at.ensures.at)

pub returns-clause-told : goal.returns-clause-told
returns-clause-told g c =
    let named = named_at c.self.inside.catalog c.args.name c.args.place c.at.result.now (rw (← c.self.view_is) at c.requires) (item_at c.self.inside.catalog c.args.place c.at.result.now c.at.ensures.at) in
    let tables = c.self.inside.catalog in
    let counted = c.at.result.now in
    let last = state g.S.Store c.self.inside.last.value in
    let rows = rows_in (stored_of tables) last.now in
    rw (← c.self.view_is) (λ clean.
    by_table tables c.args.name counted named (λ (table : TableDef) (found : List (List Value)). found ≡ map (values_of table) (rows_of rows c.args.name)) c.all_values.result
    (rows_told tables c.args.name counted named (λ (rows : List Row). map (values_of counted.stored.table) rows)
    (state g.S.Store c.self.inside.store) (state g.S.Store c.all_values.new.self) last c.all_values.result c.self.invariant c.all_values.ensures.only_reads.usable clean (c.all_values.ensures.told clean)))
