use Rattle.std.proofs.Common.{◌≡◌, ℤ, List, length, option_map}
use Rattle.sqlite.specs.Held.{state}
use Rattle.escrow_num.specs.declared.row.Row.{Row}
use Rattle.escrow_schema.specs.declared.table.TableDef.{TableDef}
use Rattle.escrow_schema.specs.Column.{reservables}
use Rattle.escrow_tables.proofs.AtPlace.{is_table_at, named_at, row_told, some_by_table}
use Rattle.escrow_tables.proofs.Placed.{item_at}
use Rattle.escrow_tables.proofs.tables.Tables.amounts.Goals as goal

pub amounts-requires : goal.amounts-requires
amounts-requires g c = is_table_at c.self.inside.catalog c.args.name.now.table c.args.place c.at.result.now c.self.invariant.listed.is_catalog (rw (← c.self.view_is) at c.requires) (item_at c.self.inside.catalog c.args.place c.at.result.now c.at.ensures.at)

pub returns-clause-told : goal.returns-clause-told
returns-clause-told g c =
    let named = named_at c.self.inside.catalog c.args.name.now.table c.args.place c.at.result.now (rw (← c.self.view_is) at c.requires) (item_at c.self.inside.catalog c.args.place c.at.result.now c.at.ensures.at) in
    rw (← c.self.view_is) (λ clean.
    row_told c.self.inside.catalog c.args.name.now.table c.at.result.now named (option_map (λ (row : Row). row.amounts)) c.args.name.now.key
    (state g.S.Store c.self.inside.store) (state g.S.Store c.amounts.new.self) (state g.S.Store c.self.inside.last.value) c.amounts.result c.self.invariant c.amounts.ensures.only_reads.usable clean (c.amounts.ensures.told clean))

pub returns-clause-many : goal.returns-clause-many
returns-clause-many g c =
    let named = named_at c.self.inside.catalog c.args.name.now.table c.args.place c.at.result.now (rw (← c.self.view_is) at c.requires) (item_at c.self.inside.catalog c.args.place c.at.result.now c.at.ensures.at) in
    rw (← c.self.view_is) (some_by_table c.self.inside.catalog c.args.name.now.table c.at.result.now named
    (λ (table : TableDef) (amounts : List ℤ). length amounts ≡ length (reservables table.columns)) c.amounts.result c.amounts.ensures.many)
