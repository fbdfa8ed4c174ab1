use Rattle.std.specs.Prelude.{is_some}
use Rattle.sqlite.specs.Held.{state}
use Rattle.escrow_tables.proofs.AtPlace.{named_at, row_told}
use Rattle.escrow_tables.proofs.Placed.{item_at}
use Rattle.escrow_tables.proofs.tables.Tables.stands.Goals as goal

pub returns-clause-told : goal.returns-clause-told
returns-clause-told g c =
    let named = named_at c.self.inside.catalog c.args.name.now.table c.args.place c.at.result.now (rw (← c.self.view_is) at c.requires) (item_at c.self.inside.catalog c.args.place c.at.result.now c.at.ensures.at) in
    rw (← c.self.view_is) (λ clean.
    row_told c.self.inside.catalog c.args.name.now.table c.at.result.now named is_some c.args.name.now.key
    (state g.S.Store c.self.inside.store) (state g.S.Store c.stands.new.self) (state g.S.Store c.self.inside.last.value) c.stands.result c.self.invariant c.stands.ensures.only_reads.usable clean (c.stands.ensures.told clean))
