use Rattle.std.specs.Prelude.{◌+◌, List, position, Option, Some, ℕ}
use Rattle.std.proofs.Common.{ap, sym, subst, ◌∙◌, get_or, length, ◌≤◌}
use Rattle.escrow_num.specs.declared.reservation.Reservation.{Reservation}
use Rattle.escrow_num.specs.declared.reservation.Savepoint.{Savepoint}
use Rattle.escrow_journal.specs.Inside.{IsLeft, journal_of}
use Rattle.escrow_journal.specs.Journal.{Journal}
use Rattle.escrow_journal.proofs.Cutting.{none_left, some_left}
use Rattle.escrow_journal.proofs.Named.{has_name}
use Rattle.escrow_journal.proofs.Ordered.{first_from}
use Rattle.escrow_journal.proofs.journal.Journal.left.Goals as goal

pub returns-in_err-place : goal.returns-in_err-place
returns-in_err-place c =
    let name = c.args.name in
    let at = ap (λ (ps : List Savepoint). position (has_name name) ps) (sym c.deref.ensures) ∙ sym c.in_err-place.ensures in
    subst (λ (o : Option (ℕ × ℕ)). IsLeft name c.args.self.now o) (sym c.from_residual.ensures)
    (subst (λ (log : Journal). IsLeft name log _) c.self.view_is (none_left name (journal_of c.self.inside) c.self.invariant at))

pub returns : goal.returns
returns c =
    let name = c.args.name in
    let log = journal_of c.self.inside in
    let place = c.in_ok-place.place in
    let p = c.index-deref-place.result in
    let at = ap (λ (ps : List Savepoint). position (has_name name) ps) (sym c.deref.ensures) ∙ sym c.in_ok-place.ensures in
    let is = c.index-deref-place.is ∙ ap (λ (ps : List Savepoint). get_or ps place p) c.deref-2.ensures in
    let n = c.first_from.result in
    let first = c.first_from.ensures.place ∙ ap (λ (rs : List Reservation). first_from p.id rs) c.deref-3.ensures in
    let within = subst (λ (rs : List Reservation). n ≤ length rs) c.deref-3.ensures c.first_from.ensures.within in
    subst (λ (log : Journal). IsLeft name log (Some (place + 1, n))) c.self.view_is (some_left name log place p c.self.invariant at is n first within)
