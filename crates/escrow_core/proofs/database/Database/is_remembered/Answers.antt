use Rattle.std.proofs.Common.{◌∙◌, sym}
use Rattle.escrow_core.proofs.Looking.{kept_stands}
use Rattle.escrow_core.proofs.database.Database.is_remembered.Goals as goal

-- the kept amounts of a row are its committed amounts
pub returns : goal.returns
returns g c = λ u is.
    rw (← c.self.view_is) (sym (kept_stands c.self.inside.tables.rows c.self.inside.recent c.args.name.now c.amounts.result c.amounts.ensures (sym c.is_some.ensures ∙ is) (c.self.invariant.read (rw (← c.self.view_is) at u))))
