use Rattle.escrow_tables.proofs.Placed.{is_placed, item_at, length_kept}
use Rattle.escrow_tables.proofs.tables.Tables.table.Goals as goal

pub at-requires : goal.at-requires
at-requires g c = length_kept c.self.inside.catalog c.args.place (rw (← c.self.view_is) at c.requires)

pub returns-clause-named : goal.returns-clause-named
returns-clause-named g c =
    rw (← c.self.view_is)
    (λ name at. (is_placed c.self.inside.catalog name c.args.place c.at.result.now at (item_at c.self.inside.catalog c.args.place c.at.result.now c.at.ensures.at)).named.in_catalog)

pub returns-clause-catalog : goal.returns-clause-catalog
returns-clause-catalog g c = rw (← c.self.view_is) c.self.invariant.listed.is_catalog
