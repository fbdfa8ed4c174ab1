use Rattle.escrow_journal.specs.Reservations.{others}
use Rattle.escrow_reserved.proofs.Counting.{all_count, all_placed, own_first, short_others, short_own}
use Rattle.escrow_reserved.proofs.reserved.Reserved.end.Goals as goal

pub remove_all-requires-clause-counted : goal.remove_all-requires-clause-counted
remove_all-requires-clause-counted c =
    let session = c.args.session in
    let reservations = c.self.inside.txns.reservations in
    (others session reservations, rw (c.reservations-reservations.ensures.all) (own_first session reservations c.self.inside.bounds c.self.invariant.counts))

pub remove_all-requires-clause-short : goal.remove_all-requires-clause-short
remove_all-requires-clause-short c = rw (c.reservations-reservations.ensures.all) (short_own c.args.session c.self.inside.txns.reservations c.self.invariant.short)

pub invariant_of-self : goal.invariant_of-self
invariant_of-self c =
    let session = c.args.session in
    let reservations = c.self.inside.txns.reservations in
    rw c.take_all.ensures.ended (record {
      counts = c.remove_all.ensures.counts (others session reservations) (rw (c.reservations-reservations.ensures.all) (own_first session reservations c.self.inside.bounds c.self.invariant.counts));
      short = short_others session reservations c.self.invariant.short;
    })

pub returns-clause-placed : goal.returns-clause-placed
returns-clause-placed c =
    let session = c.args.session in
    let reservations = c.self.inside.txns.reservations in
    rw (← c.self.view_is, c.take_all.ensures.ended) (λ placed.
    all_placed (others session reservations) c.remove_all.new.self
    (c.remove_all.ensures.counting (all_count reservations c.self.inside.bounds placed c.self.invariant.counts))
    (c.remove_all.ensures.counts (others session reservations) (rw (c.reservations-reservations.ensures.all) (own_first session reservations c.self.inside.bounds c.self.invariant.counts))))
