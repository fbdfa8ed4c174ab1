use Rattle.std.specs.Prelude.{◌≡◌, ◌≤◌, List, length, map}
use Rattle.std.specs.List.{AllByRecursion}
use Rattle.std.proofs.Common.{ap, sym, subst, ◌∙◌}
use Rattle.escrow_num.specs.declared.reservation.Reservation.{Reservation}
use Rattle.escrow_checks.specs.declared.spread.TheConstants.Spread.{MAX_OPEN}
use Rattle.escrow_bounds.specs.Held.{of_row}
use Rattle.escrow_machine.specs.Walked.{IsShort}
use Rattle.escrow_schema.proofs.Listed.{all_unmap}
use Rattle.escrow_reserved.proofs.Counting.{all_count}
use Rattle.escrow_reserved.proofs.reserved.Reserved.prepare.Goals as goal

pub prepare-requires-clause-counting : goal.prepare-requires-clause-counting
prepare-requires-clause-counting c =
    let placed = rw (← c.self.view_is) at c.requires.placed in
    all_count c.self.inside.txns.reservations c.self.inside.bounds placed c.self.invariant.counts

pub prepare-requires-clause-short : goal.prepare-requires-clause-short
prepare-requires-clause-short c =
    let items = c.deref.result.now in
    let is : map (λ r. r.now) items ≡ c.self.inside.txns.reservations = ap (map (λ r. r.now)) c.deref.ensures.value ∙ c.in_ok-reservations.ensures in
    all_unmap IsShort (λ r. r.now) items (subst (AllByRecursion IsShort) (sym is) c.self.invariant.short)

pub prepare-requires-clause-many : goal.prepare-requires-clause-many
prepare-requires-clause-many c = λ row.
    let items = c.deref.result.now in
    let is : map (λ r. r.now) items ≡ c.self.inside.txns.reservations = ap (map (λ r. r.now)) c.deref.ensures.value ∙ c.in_ok-reservations.ensures in
    subst (λ (rs : List Reservation). length (of_row row rs) ≤ MAX_OPEN) (sym is) ((rw (← c.self.view_is) at c.requires.many) row)

pub prepare-requires-clause-covered : goal.prepare-requires-clause-covered
prepare-requires-clause-covered c = rw (← c.self.view_is) at c.requires.covered
