use Rattle.std.specs.Prelude.{◌≡◌, ◌⊎◌, ◌+◌, ◌-◌, ◌≤◌, Option, Some, None, Ok, Err, Result, OnOk, OnErr, IfErr, IfSome, List, option_map, option_copied, unwrap_or, flat_map, map, length}
use Rattle.std.proofs.Common.{refl, ap, sym, subst, ◌∙◌, set, arith}
use Rattle.escrow_journal.specs.Journal.{Journal, cut_journal, empty_journal, marked, pushed, is_full_beside}
use Rattle.escrow_journal.specs.Open.{Open, open_after_end, open_after_grant, open_after_rollback_to, open_after_savepoint, grant_refusal, released, savepoint_refusal}
use Rattle.escrow_txn.specs.Joined.{opened}
use Rattle.escrow_txn.specs.Sessions.{AreSessions, journal_at, with_journal}
use Rattle.escrow_txn.proofs.Places.{IsAt, place_of}
use Rattle.escrow_journal.specs.Journal.{IsJournal}
use Rattle.escrow_journal.specs.Reservations.{own, own_savepoints}
use Rattle.escrow_txn.proofs.Sessions.{own_is, own_savepoints_is}
use Rattle.escrow_txn.proofs.Shown.{shown_is, shown_weaker}
use Rattle.escrow_txn.proofs.table.TxnTable.journal.Goals as goal

pub returns-clause-session : goal.returns-clause-session
returns-clause-session c =
    let logs = c.self.inside.journals in
    let at = place_of logs c.self.inside.next_id c.args.session c.self.invariant c.get.ensures.within in
    shown_weaker (λ (l : Journal). l.session ≡ c.args.session) c.get.result (journal_at logs c.args.session) at.number (shown_is c.get.result c.args.session (journal_at logs c.args.session) c.get.ensures.found).is

pub returns-clause-valid : goal.returns-clause-valid
returns-clause-valid c =
    let logs = c.self.inside.journals in
    let at = place_of logs c.self.inside.next_id c.args.session c.self.invariant c.get.ensures.within in
    shown_weaker IsJournal c.get.result (journal_at logs c.args.session) at.is_journal (shown_is c.get.result c.args.session (journal_at logs c.args.session) c.get.ensures.found).is

pub returns-clause-reservations : goal.returns-clause-reservations
returns-clause-reservations c =
    let logs = c.self.inside.journals in
    let at = place_of logs c.self.inside.next_id c.args.session c.self.invariant c.get.ensures.within in
    rw (← c.self.view_is)
    ((shown_is c.get.result c.args.session (journal_at logs c.args.session) c.get.ensures.found).reservations ∙ sym (own_is c.args.session logs (c.args.session - 1) (journal_at logs c.args.session) at))

pub returns-clause-savepoints : goal.returns-clause-savepoints
returns-clause-savepoints c =
    let logs = c.self.inside.journals in
    let at = place_of logs c.self.inside.next_id c.args.session c.self.invariant c.get.ensures.within in
    rw (← c.self.view_is)
    ((shown_is c.get.result c.args.session (journal_at logs c.args.session) c.get.ensures.found).savepoints ∙ sym (own_savepoints_is c.args.session logs (c.args.session - 1) (journal_at logs c.args.session) at))
