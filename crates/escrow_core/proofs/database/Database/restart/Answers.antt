use Rattle.escrow_core.proofs.Restarting.{restarted_keeps}
use Rattle.escrow_core.proofs.database.Database.restart.Goals as goal

pub invariant_of-self-2 : goal.invariant_of-self-2
invariant_of-self-2 g c =
    rw (c.clear.ensures, c.clear-2.ensures) (record {
      keeps = restarted_keeps g.S.Store c.self.inside.tables c.verify.new.self c.self.inside.reserved.txns c.self.inside.reserved.places c.self.invariant.keeps c.in_ok-verify.ensures.reads;
      known = λ name. tt;
      read = λ _ name. tt;
    })
