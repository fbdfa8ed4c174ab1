use Rattle.std.specs.Prelude.{IsTrue, length}
use Rattle.std.specs.List.{AllByRecursion}
use Rattle.std.proofs.Common.{ap, sym, subst, ◌∙◌, ◌<◌, arith}
use Rattle.escrow_num.specs.declared.reservation.Reservation.{Reservation}
use Rattle.escrow_journal.specs.Inside.{journal_of}
use Rattle.escrow_journal.specs.Journal.{Journal}
use Rattle.escrow_journal.specs.Reservations.{reservation_before}
use Rattle.escrow_journal.specs.declared.journal.TheConstants.Journal.{MAX_RESERVATIONS}
use Rattle.escrow_journal.proofs.Kept.{push_kept}
use Rattle.escrow_journal.proofs.journal.Journal.push.Goals as goal

pub invariant_of-self-2 : goal.invariant_of-self-2
invariant_of-self-2 c =
    let r = c.args.r in
    let own = c.requires.own ∙ sym (ap (λ (log : Journal). log.session) c.self.view_is) in
    let above = subst (λ (log : Journal). AllByRecursion (λ (earlier : Reservation). IsTrue (reservation_before earlier r)) log.reservations) (sym c.self.view_is) c.requires.above in
    let room : length c.self.inside.reservations.items < MAX_RESERVATIONS = omega (arith, c.len.ensures, c.if-len-ge-MAX_RESERVATIONS.false) in
    rw c.in_ok-push.ensures.ok (push_kept r (journal_of c.self.inside) c.self.invariant room own above)

pub returns-clause-valid : goal.returns-clause-valid
returns-clause-valid c = invariant_of-self-2 c
