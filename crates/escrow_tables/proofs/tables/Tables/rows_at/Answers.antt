use Rattle.std.proofs.Common.{List}
use Rattle.sqlite.specs.Held.{state}
use Rattle.escrow_num.specs.declared.row.Row.{Row}
use Rattle.escrow_tables.proofs.AtPlace.{is_table_at, named_at, rows_told}
use Rattle.escrow_tables.proofs.Placed.{item_at}
use Rattle.escrow_tables.proofs.tables.Tables.rows_at.Goals as goal

pub rows-requires : goal.rows-requires
rows-requires g c = is_table_at c.self.inside.catalog c.args.name c.args.place c.at.result.now c.self.invariant.listed.is_catalog (rw (← c.self.view_is) at c.requires) (item_at c.self.inside.catalog c.args.place c.at.result.now c.at.ensures.at)

pub returns-clause-told : goal.returns-clause-told
returns-clause-told g c =
    let tables = c.self.inside.catalog in
    let counted = c.at.result.now in
    let named = named_at tables c.args.name c.args.place counted (rw (← c.self.view_is) at c.requires) (item_at c.self.inside.catalog c.args.place c.at.result.now c.at.ensures.at) in
    rw (← c.self.view_is) (λ clean.
    rows_told tables c.args.name counted named (λ (rows : List Row). rows) (state g.S.Store c.self.inside.store) (state g.S.Store c.rows.new.self) (state g.S.Store c.self.inside.last.value)
    c.rows.result c.self.invariant c.rows.ensures.only_reads.usable clean (c.rows.ensures.told clean))
