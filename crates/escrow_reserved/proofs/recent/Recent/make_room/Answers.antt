use Rattle.std.proofs.Common.{inr, arith, refl}
use Rattle.escrow_reserved.proofs.Reading.{evicted, fewer}
use Rattle.escrow_reserved.proofs.recent.Recent.make_room.Goals as goal

pub returns-then-len-lt-MAX_ROWS-clause-only : goal.returns-then-len-lt-MAX_ROWS-clause-only
returns-then-len-lt-MAX_ROWS-clause-only c = λ other. inr refl

pub next-place-requires : goal.next-place-requires
next-place-requires c = rw (← c.self.view_is) (omega (arith, c.len.ensures.len, c.if-len-lt-MAX_ROWS.false))

pub returns-clause-room : goal.returns-clause-room
returns-clause-room c =
    let rows = c.self.inside.rows.entries in
    fewer rows c.next-place.result _ _ c.swap_remove_index.result (rw (← c.self.view_is) at c.next-place.ensures) c.swap_remove_index.ensures.entry c.swap_remove_index.ensures.len c.self.invariant

pub returns-clause-only : goal.returns-clause-only
returns-clause-only c =
    rw (← c.self.view_is)
    (evicted c.self.inside.rows c.swap_remove_index.new.self c.swap_remove_index.result c.swap_remove_index.ensures.updates c.swap_remove_index.ensures.unchanged)
