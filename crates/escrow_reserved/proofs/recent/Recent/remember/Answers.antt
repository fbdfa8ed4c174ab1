use Rattle.std.proofs.Common.{inl, inr, refl}
use Rattle.escrow_reserved.proofs.Reading.{one_more, put_in}
use Rattle.escrow_reserved.proofs.recent.Recent.remember.Goals as goal

pub returns-in_err-amounts-clause-only : goal.returns-in_err-amounts-clause-only
returns-in_err-amounts-clause-only c = λ other. inl (inr refl)

pub returns-in_err-name-clause-only : goal.returns-in_err-name-clause-only
returns-in_err-name-clause-only c = λ other. inl (inr refl)

-- the row was not kept
pub invariant_of-self : goal.invariant_of-self
invariant_of-self c = rw c.in_err-place.ensures.err c.self-2.invariant

pub returns-in_err-place-clause-only : goal.returns-in_err-place-clause-only
returns-in_err-place-clause-only c = λ other. inl (rw (c.in_err-place.ensures.err, c.self-2.view_is) (c.make_room.ensures.only other))

-- the row is kept
pub invariant_of-self-2 : goal.invariant_of-self-2
invariant_of-self-2 c = one_more c.in_ok-place.field-0-1 _ _ _ (rw (← c.self-2.view_is) at c.make_room.ensures.room) c.in_ok-place.ensures.len

pub returns-clause-kept : goal.returns-clause-kept
returns-clause-kept c = rw (c.in_ok-name.ensures.same, c.in_ok-amounts.ensures) at c.in_ok-place.ensures.updates.1

pub returns-clause-only : goal.returns-clause-only
returns-clause-only c =
    put_in c.self-2.inside.rows c.insert_full.new.self c.args.self.now c.args.name.now c.args.amounts.now (rw (← c.self-2.view_is) at c.make_room.ensures.only)
    (rw (c.in_ok-name.ensures.same, c.in_ok-amounts.ensures) at c.in_ok-place.ensures.updates)
