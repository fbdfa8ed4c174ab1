use Rattle.std.specs.Prelude.{◌≡◌, ◌⊎◌, ◌+◌, ◌-◌, ◌≤◌, Option, Some, None, Ok, Err, Result, OnOk, OnErr, IfErr, IfSome, List, option_map, option_copied, unwrap_or, flat_map, map, length}
use Rattle.std.proofs.Common.{refl, ap, sym, subst, ◌∙◌, set, arith}
use Rattle.escrow_journal.specs.Journal.{Journal, cut_journal, empty_journal, marked, pushed, is_full_beside}
use Rattle.escrow_journal.specs.Open.{Open, open_after_end, open_after_grant, open_after_rollback_to, open_after_savepoint, grant_refusal, released, savepoint_refusal}
use Rattle.escrow_txn.specs.Joined.{opened}
use Rattle.escrow_txn.specs.Sessions.{AreSessions, journal_at, with_journal}
use Rattle.escrow_txn.proofs.Places.{IsAt, place_of}
use Rattle.escrow_txn.specs.Joined.{AreJournals}
use Rattle.escrow_txn.proofs.Kept.{cut_kept, journals_stay}
use Rattle.escrow_txn.proofs.Marks.{cut_is, released_is}
use Rattle.escrow_txn.proofs.table.TxnTable.cut.Goals as goal

at : (c : goal.After-cut) → IsAt c.args.session c.self.inside.journals (c.args.session - 1) (journal_at c.self.inside.journals c.args.session)
at c = place_of c.self.inside.journals c.self.inside.next_id c.args.session c.self.invariant c.cut.ensures.within

pub invariant_of-self : goal.invariant_of-self
invariant_of-self c =
    let logs = c.self.inside.journals in
    let next = c.self.inside.next_id in
    let journal = journal_at logs c.args.session in
    subst (λ (ls : List Journal). AreJournals ls next) (sym c.cut.ensures.cut)
    (journals_stay logs next c.args.session (c.args.session - 1) (cut_journal c.args.name journal) journal c.self.invariant (at c) (subst AreSessions c.cut.ensures.cut c.cut.ensures.valid)
    (λ below. cut_kept next c.args.name (cut_journal c.args.name journal) journal below refl))

pub returns-clause-count : goal.returns-clause-count
returns-clause-count c =
    c.cut.ensures.count
    ∙ released_is c.args.session c.self.inside.next_id c.args.name c.self.inside.journals (c.args.session - 1) (journal_at c.self.inside.journals c.args.session) (at c)
    ∙ ap (λ (o : Open). released c.args.session c.args.name o) c.self.view_is

pub returns-clause-cut : goal.returns-clause-cut
returns-clause-cut c =
    ap (λ (ls : List Journal). opened ls c.self.inside.next_id) c.cut.ensures.cut
    ∙ cut_is c.args.session c.self.inside.next_id c.args.name c.self.inside.journals (c.args.session - 1) (journal_at c.self.inside.journals c.args.session) (at c)
    ∙ ap (λ (o : Open). open_after_rollback_to c.args.session c.args.name o) c.self.view_is
