use Rattle.std.specs.Prelude.{◌≡◌, length}
use Rattle.std.proofs.Common.{◌∙◌, ap, sym, subst, arith}
use Rattle.escrow_num.specs.Reservation.{deltas}
use Rattle.escrow_bounds.specs.Counts.{TakesIn}
use Rattle.escrow_bounds.specs.Held.{CountsJust, of_row}
use Rattle.escrow_bounds.specs.Bounds.{Becomes, place_at}
use Rattle.escrow_bounds.proofs.LawLemmas.{release_counts}
use Rattle.escrow_reserved.specs.Reserved.{Reserved}
use Rattle.escrow_reserved.proofs.Counting.{granted_counts, released_is}
use Rattle.escrow_reserved.proofs.Places.{some_same}
use Rattle.escrow_reserved.proofs.reserved.Reserved.hold.Goals as goal

pub add_at-requires-clause-placed : goal.add_at-requires-clause-placed
add_at-requires-clause-placed c = (c.args.row, rw (← c.self.view_is) at c.requires.at)

pub add_at-requires-clause-room : goal.add_at-requires-clause-room
add_at-requires-clause-room c = λ row place at found.
    let reservations = c.self.inside.txns.reservations in
    let is : row ≡ c.args.row = some_same (sym at ∙ (rw (← c.self.view_is) at c.requires.at)) in
    let counted = subst (λ p. CountsJust p (of_row row reservations)) found (c.self.invariant.counts row) in
    let same : length (of_row c.args.row reservations) ≡ length (of_row c.args.row c.args.self.now.txns.reservations) =
    ap (λ (r : Reserved). length (of_row c.args.row r.txns.reservations)) c.self.view_is in
    let room = c.requires.room in
    omega (arith, counted.0, ap (λ n. length (of_row n reservations)) is, room, same)

pub invariant_of-self : goal.invariant_of-self
invariant_of-self c =
    let there = rw (← c.self.view_is) at c.requires.placed in
    let at = rw (← c.self.view_is) at c.requires.at in
    let takes : Becomes (TakesIn (deltas c.args.changes)) (place_at c.self.inside.bounds c.args.row) (place_at c.add_at.new.self c.args.row) = rw c.requires.added at (c.add_at.ensures.takes c.args.row at) in
    rw c.in-Ok.ensures.granted
    (granted_counts c.args.session c.args.row c.args.changes c.self.inside.txns c.self.inside.bounds c.add_at.new.self c.self.invariant.counts c.self.invariant.short c.requires.short there takes (c.add_at.ensures.others c.args.row at))

pub invariant_of-self-in-Err : goal.invariant_of-self-in-Err
invariant_of-self-in-Err c =
    let at = rw (← c.self.view_is) at c.requires.at in
    rw c.in-Err.ensures.unchanged (record {
      counts = release_counts c.self.inside.bounds c.release_at.new.self c.args.row c.self.inside.txns.reservations c.self.invariant.counts
          (c.release_at.ensures.empty c.args.row at) (c.release_at.ensures.counting c.args.row at) (c.release_at.ensures.others c.args.row at);
      short = c.self.invariant.short;
    })

pub returns-in-Ok-clause-takes : goal.returns-in-Ok-clause-takes
returns-in-Ok-clause-takes c =
    let at = rw (← c.self.view_is) at c.requires.at in
    rw (← c.self.view_is) (rw c.requires.added at (c.add_at.ensures.takes c.args.row at))

pub returns-in-Err-clause-releases : goal.returns-in-Err-clause-releases
returns-in-Err-clause-releases c =
    let at = rw (← c.self.view_is) at c.requires.at in
    let release = c.release_at in
    rw (← c.self.view_is)
    (released_is c.self.inside.txns.reservations c.args.row c.self.inside.bounds release.new.self c.self.invariant.counts (release.ensures.empty c.args.row at) (release.ensures.counting c.args.row at))
