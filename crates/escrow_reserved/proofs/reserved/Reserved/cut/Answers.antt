use Rattle.escrow_reserved.proofs.Counting.{all_count, all_placed, short_cut}
use Rattle.escrow_journal.specs.Open.{open_after_rollback_to}
use Rattle.escrow_reserved.proofs.reserved.Reserved.cut.Goals as goal

pub invariant_of-self : goal.invariant_of-self
invariant_of-self c =
    rw c.cut.ensures.cut (record {
      counts = c.release_after.ensures.counts;
      short = short_cut c.args.session c.args.name c.self.inside.txns c.self.invariant.short;
    })

pub returns-clause-placed : goal.returns-clause-placed
returns-clause-placed c =
    let reservations = c.self.inside.txns.reservations in
    rw (← c.self.view_is, c.cut.ensures.cut) (λ placed.
    all_placed (open_after_rollback_to c.args.session c.args.name c.self.inside.txns).reservations c.release_after.new.bounds
    (c.release_after.ensures.counting (all_count reservations c.self.inside.bounds placed c.self.invariant.counts)) c.release_after.ensures.counts)
