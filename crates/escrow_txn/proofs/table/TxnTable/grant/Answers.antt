use Rattle.std.specs.Prelude.{◌≡◌, ◌⊎◌, ◌+◌, ◌-◌, ◌≤◌, Option, Some, None, Ok, Err, Result, OnOk, OnErr, IfErr, IfSome, List, option_map, option_copied, unwrap_or, flat_map, map, length}
use Rattle.std.proofs.Common.{refl, ap, sym, subst, ◌∙◌, set, arith}
use Rattle.escrow_journal.specs.Journal.{Journal, cut_journal, empty_journal, marked, pushed, is_full_beside}
use Rattle.escrow_journal.specs.Open.{Open, open_after_end, open_after_grant, open_after_rollback_to, open_after_savepoint, grant_refusal, released, savepoint_refusal}
use Rattle.escrow_txn.specs.Joined.{opened}
use Rattle.escrow_txn.specs.Sessions.{AreSessions, journal_at, with_journal}
use Rattle.escrow_txn.proofs.Places.{IsAt, place_of}
use Rattle.escrow_num.specs.declared.reservation.Reservation.{Reservation}
use Rattle.escrow_journal.proofs.Free.{is_free}
use Rattle.escrow_txn.specs.Joined.{AreJournals}
use Rattle.escrow_txn.proofs.Kept.{below_at, below_next, push_kept, journals_kept}
use Rattle.escrow_txn.proofs.Refusals.{has_room, memory_on, only_memory}
use Rattle.escrow_txn.proofs.Sessions.{granted_is}
use Rattle.escrow_txn.proofs.table.TxnTable.grant.Goals as goal

pub push-requires : goal.push-requires
push-requires c =
    let logs = c.self.inside.journals in
    let next = c.self.inside.next_id in
    let session = c.args.session in
    let at = place_of logs next session c.self.invariant c.in_default.ensures.within in
    let r : Reservation = record { id = next; session = session; row = c.args.row; changes = c.args.changes } in
    below_next next r (journal_at logs session) (below_at logs next session (session - 1) (journal_at logs session) c.self.invariant at) refl

pub invariant_of-self-2 : goal.invariant_of-self-2
invariant_of-self-2 c =
    let logs = c.self.inside.journals in
    let next = c.self.inside.next_id in
    let session = c.args.session in
    let journal = journal_at logs session in
    let r : Reservation = record { id = next; session = session; row = c.args.row; changes = c.args.changes } in
    let at = place_of logs next session c.self.invariant c.in_default.ensures.within in
    let below = below_at logs next session (session - 1) journal c.self.invariant at in
    let none : grant_refusal session (opened logs next) ≡ None = ap (λ (o : Open). grant_refusal session o) c.self.view_is ∙ sym c.in_default.ensures.refusal in
    let left = (is_free session (opened logs next) none).more_ids in
    let is = c.in_ok-push.ensures.pushed in
    subst (λ (ls : List Journal). AreJournals ls (next + 1)) (sym is)
    (journals_kept logs next (next + 1) (session - 1) (pushed r journal) journal c.self.invariant (subst AreSessions is c.push.ensures.valid)
    (push_kept next r (pushed r journal) journal below refl refl) (omega arith) (omega arith))

pub returns-clause-granted : goal.returns-clause-granted
returns-clause-granted c =
    let logs = c.self.inside.journals in
    let next = c.self.inside.next_id in
    let session = c.args.session in
    let journal = journal_at logs session in
    let at = place_of logs next session c.self.invariant c.in_default.ensures.within in
    let below = below_at logs next session (session - 1) journal c.self.invariant at in
    ap (λ (ls : List Journal). opened ls (next + 1)) c.in_ok-push.ensures.pushed
    ∙ granted_is session next c.args.row c.args.changes logs (session - 1) journal at c.self.invariant.below below
    ∙ ap (λ (o : Open). open_after_grant session c.args.row c.args.changes o) c.self.view_is

pub returns-in_err-push-clause-only : goal.returns-in_err-push-clause-only
returns-in_err-push-clause-only c =
    let logs = c.self.inside.journals in
    let next = c.self.inside.next_id in
    let session = c.args.session in
    let journal = journal_at logs session in
    let at = place_of logs next session c.self.invariant c.in_default.ensures.within in
    let none : grant_refusal session (opened logs next) ≡ None = ap (λ (o : Open). grant_refusal session o) c.self.view_is ∙ sym c.in_default.ensures.refusal in
    let memory = only_memory journal c.push.result (has_room session next logs (session - 1) journal at none) c.push.ensures.only c.push.ensures.room in
    memory_on c.push.result c.from_residual.result _ _ c.in_err-push.was memory c.from_residual.ensures.1
