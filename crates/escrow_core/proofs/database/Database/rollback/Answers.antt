use Rattle.escrow_core.proofs.Committing.{just_ended_holds}
use Rattle.escrow_core.proofs.database.Database.rollback.Goals as goal

pub invariant_of-self : goal.invariant_of-self
invariant_of-self g c =
    just_ended_holds g.S.Store c.args.session c.self.inside.tables c.self.inside.reserved.txns c.self.inside.reserved.places c.end.new.self c.self.inside.recent c.self.invariant
    c.end.ensures.txns c.end.ensures.places c.end.ensures.placed
