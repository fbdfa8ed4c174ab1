use Rattle.std.specs.Prelude.{option_map}
use Rattle.std.proofs.Common.{ap}
use Rattle.escrow_num.specs.declared.row.Row.{Row}
use Rattle.escrow_reserved.proofs.Reading.{known_more, read_more}
use Rattle.escrow_core.proofs.database.Database.remember_new.Goals as goal

-- the new row is kept
pub invariant_of-self : goal.invariant_of-self
invariant_of-self g c =
    let old = c.self.inside.recent in
    let amounts = c.args.row.now.amounts in
    let only = rw c.as_slice.ensures at c.remember.ensures.only in
    record {
      keeps = c.self.invariant.keeps;
      known = known_more old c.remember.new.self c.args.row.now.name amounts only c.self.inside.tables.catalog c.self.invariant.known (rw (← c.self.view_is) at c.requires.many);
      read = λ u. read_more old c.remember.new.self c.args.row.now.name amounts only c.self.inside.tables.rows (c.self.invariant.read u) (ap (option_map (λ (r : Row). r.amounts)) ((rw (← c.self.view_is) at c.requires.inserted) u));
    }
