use Rattle.std.specs.Borrow.{Bor}
use Rattle.std.specs.Prelude.{◌≡◌, ◌-◌, ℕ, None, Option, Some, List, option_copied, option_map, unwrap_or}
use Rattle.std.proofs.Common.{refl, ap, sym, ◌∙◌}
use Rattle.escrow_num.specs.declared.reservation.Reservation.{Reservation}
use Rattle.escrow_journal.specs.Journal.{Journal, empty_journal, later}
use Rattle.escrow_journal.specs.Open.{Open}
use Rattle.escrow_journal.specs.Savepoints.{savepoint_of, after}
use Rattle.escrow_txn.specs.Sessions.{journal_at}
use Rattle.escrow_txn.proofs.Marks.{later_is}
use Rattle.escrow_txn.proofs.Places.{place_of}
use Rattle.escrow_txn.proofs.table.TxnTable.after.Goals as goal

-- what comes after a savepoint in the session's journal, or in the empty one of a session that has none
abbrev later_in : List ℕ → Option Journal → ℕ → Option (List Reservation)
later_in name shown session = later name (unwrap_or shown (empty_journal session))

pub returns-in_err-get : goal.returns-in_err-get
returns-in_err-get c =
    let logs = c.self.inside.journals in
    let at = place_of logs c.self.inside.next_id c.args.session c.self.invariant c.get.ensures.within in
    let none : option_copied c.from_residual.result ≡ later c.args.name (journal_at logs c.args.session) =
    ap option_copied c.from_residual.ensures ∙ ap (λ (o : Option (Bor Journal)). later_in c.args.name (option_copied o) c.args.session) (sym c.in_err-get.was) ∙ ap (later c.args.name) c.get.ensures.found in
    none
    ∙ later_is c.args.session c.self.inside.next_id c.args.name logs (c.args.session - 1) (journal_at logs c.args.session) at
    ∙ ap (λ (o : Open). option_map (λ p. after p o.reservations) (savepoint_of c.args.session c.args.name o.savepoints)) c.self.view_is

pub returns : goal.returns
returns c =
    let logs = c.self.inside.journals in
    let at = place_of logs c.self.inside.next_id c.args.session c.self.invariant c.get.ensures.within in
    let shown : later c.args.name c.in_ok-get.field-0.now ≡ later c.args.name (journal_at logs c.args.session) = ap (later c.args.name) c.in_ok-get.ensures.found in
    c.after.ensures ∙ shown
    ∙ later_is c.args.session c.self.inside.next_id c.args.name logs (c.args.session - 1) (journal_at logs c.args.session) at
    ∙ ap (λ (o : Open). option_map (λ p. after p o.reservations) (savepoint_of c.args.session c.args.name o.savepoints)) c.self.view_is
