use Rattle.std.specs.Prelude.{◌≡◌, ◌⊎◌, ◌+◌, ◌-◌, ◌≤◌, Option, Some, None, Ok, Err, Result, OnOk, OnErr, IfErr, IfSome, List, option_map, option_copied, unwrap_or, flat_map, map, length}
use Rattle.std.proofs.Common.{refl, ap, sym, subst, ◌∙◌, set, arith}
use Rattle.escrow_journal.specs.Journal.{Journal, cut_journal, empty_journal, marked, pushed, is_full_beside}
use Rattle.escrow_journal.specs.Open.{Open, open_after_end, open_after_grant, open_after_rollback_to, open_after_savepoint, grant_refusal, released, savepoint_refusal}
use Rattle.escrow_txn.specs.Joined.{opened}
use Rattle.escrow_txn.specs.Sessions.{AreSessions, journal_at, with_journal}
use Rattle.escrow_txn.proofs.Places.{IsAt, place_of}
use Rattle.escrow_journal.specs.Reservations.{own}
use Rattle.escrow_txn.specs.Joined.{AreJournals}
use Rattle.escrow_txn.proofs.Kept.{empty_kept, journals_stay}
use Rattle.escrow_txn.proofs.Sessions.{own_is, ended_is}
use Rattle.escrow_txn.proofs.table.TxnTable.take_all.Goals as goal

at : (c : goal.After-take_all) → IsAt c.args.session c.self.inside.journals (c.args.session - 1) (journal_at c.self.inside.journals c.args.session)
at c = place_of c.self.inside.journals c.self.inside.next_id c.args.session c.self.invariant c.take_all.ensures.within

pub invariant_of-self : goal.invariant_of-self
invariant_of-self c =
    let logs = c.self.inside.journals in
    let next = c.self.inside.next_id in
    let journal = journal_at logs c.args.session in
    subst (λ (ls : List Journal). AreJournals ls next) (sym c.take_all.ensures.none)
    (journals_stay logs next c.args.session (c.args.session - 1) (empty_journal c.args.session) journal c.self.invariant (at c) (subst AreSessions c.take_all.ensures.none c.take_all.ensures.valid)
    (λ below. empty_kept next (empty_journal c.args.session) journal (ap empty_journal (sym (at c).number))))

pub returns-clause-all : goal.returns-clause-all
returns-clause-all c =
    c.take_all.ensures.all
    ∙ sym (own_is c.args.session c.self.inside.journals (c.args.session - 1) (journal_at c.self.inside.journals c.args.session) (at c))
    ∙ ap (λ (o : Open). own c.args.session o.reservations) c.self.view_is

pub returns-clause-ended : goal.returns-clause-ended
returns-clause-ended c =
    let logs = c.self.inside.journals in
    ap (λ (ls : List Journal). opened ls c.self.inside.next_id) (c.take_all.ensures.none ∙ ap (λ n. with_journal logs c.args.session (empty_journal n)) (sym (at c).number))
    ∙ ended_is c.args.session c.self.inside.next_id logs (c.args.session - 1) (journal_at logs c.args.session) (at c)
    ∙ ap (λ (o : Open). open_after_end c.args.session o) c.self.view_is
