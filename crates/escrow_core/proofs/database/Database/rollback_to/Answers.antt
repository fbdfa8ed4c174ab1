use Rattle.escrow_core.specs.Inside.{database_of}
use Rattle.escrow_core.proofs.Committing.{dropped_holds}
use Rattle.escrow_journal.specs.Open.{open_after_rollback_to}
use Rattle.escrow_machine.proofs.ValidEnds.{back_orderly, back_valid}
use Rattle.escrow_core.proofs.database.Database.rollback_to.Goals as goal

pub invariant_of-self : goal.invariant_of-self
invariant_of-self g c =
    let txns = c.self.inside.reserved.txns in
    let s = (database_of c.self.inside.tables txns).state in
    dropped_holds g.S.Store c.self.inside.tables txns (open_after_rollback_to c.args.session c.args.name txns) c.cut.ensures.places.0 c.self.inside.reserved.places c.cut.new.self c.self.inside.recent c.self.invariant
    c.cut.ensures.txns c.cut.ensures.places.1 c.cut.ensures.placed (back_orderly s c.args.session c.args.name c.self.invariant.keeps.kept.orderly) (back_valid s c.args.session c.args.name)
