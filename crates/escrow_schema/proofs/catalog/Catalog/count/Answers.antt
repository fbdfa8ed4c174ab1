use Rattle.std.proofs.Common.{subst, sym}
use Rattle.escrow_schema.specs.Stored.{IsListed}
use Rattle.escrow_schema.proofs.Listed.{listed_recounted, recounted_at}
use Rattle.escrow_schema.proofs.catalog.Catalog.count.Goals as goal

pub invariant_of-self : goal.invariant_of-self
invariant_of-self c =
    let tables = c.self.inside.tables.items in
    subst IsListed (recounted_at tables c.args.place c.args.rows c.index_mut.result.now c.index_mut.ensures.value) (listed_recounted tables c.args.place c.args.rows c.self.invariant)

pub returns : goal.returns
returns c =
    rw (← c.self.view_is) (sym (recounted_at c.self.inside.tables.items c.args.place c.args.rows c.index_mut.result.now c.index_mut.ensures.value))
