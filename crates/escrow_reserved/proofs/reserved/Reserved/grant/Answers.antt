use Rattle.std.specs.Prelude.{◌≡◌, Some, None, take}
use Rattle.std.proofs.Common.{sym}
use Rattle.escrow_num.specs.Reservation.{deltas}
use Rattle.escrow_bounds.specs.Held.{of_row}
use Rattle.escrow_bounds.specs.Place.{Place, checks_of}
use Rattle.escrow_bounds.specs.Bounds.{place_at}
use Rattle.escrow_bounds.proofs.Ending.{shown_is}
use Rattle.escrow_reserved.specs.Reserved.{reason_against}
use Rattle.escrow_reserved.proofs.Counting.{free_of, room_of}
use Rattle.escrow_reserved.proofs.Places.{from_some}
use Rattle.escrow_reserved.proofs.reserved.Reserved.grant.Goals as goal
use Rattle.escrow_reserved.proofs.reserved.Reserved.grant.Goals.{After-refusal, In_default}

-- the changes that are counted are the requested ones
asked : (c : After-refusal) → take c.len.result c.deltas-added.result ≡ deltas c.args.changes
asked c = shown_is c.deltas-added.result c.len.result c.as_slice.result.now c.args.changes c.len.ensures c.as_slice.ensures c.deltas-added.ensures

-- there is no reason against it
unopposed : (c : In_default) (place : Place) → place_at c.args.self.now.places c.args.row ≡ Some place → reason_against c.args.session place c.args.row c.args.changes c.args.self.now.txns ≡ None
unopposed c place found = sym (c.in_default.ensures.reason c.args.row place c.args.changes c.requires.at found (asked (goal.at.In_default c).After-refusal))

pub hold-requires-clause-free : goal.hold-requires-clause-free
hold-requires-clause-free c =
    let at = (goal.at.hold-requires-clause-free c).In_default in
    let now = c.args.self.now in
    from_some (place_at now.places c.args.row) c.requires.placed (λ place found.
    free_of c.args.session (checks_of place.checks) place.amounts (deltas c.args.changes) (of_row c.args.row now.txns.reservations) now.txns (unopposed at place found))

pub hold-requires-clause-room : goal.hold-requires-clause-room
hold-requires-clause-room c =
    let at = (goal.at.hold-requires-clause-room c).In_default in
    let now = c.args.self.now in
    from_some (place_at now.places c.args.row) c.requires.placed (λ place found.
    room_of c.args.session (checks_of place.checks) place.amounts (deltas c.args.changes) (of_row c.args.row now.txns.reservations) now.txns (unopposed at place found))
