use Rattle.std.specs.Prelude.{◌≡◌, ◌⊎◌, ◌+◌, ◌-◌, ◌≤◌, Option, Some, None, Ok, Err, Result, OnOk, OnErr, IfErr, IfSome, List, option_map, option_copied, unwrap_or, flat_map, map, length}
use Rattle.std.proofs.Common.{refl, ap, sym, subst, ◌∙◌, set, arith}
use Rattle.escrow_journal.specs.Journal.{Journal, cut_journal, empty_journal, marked, pushed, is_full_beside}
use Rattle.escrow_journal.specs.Open.{Open, open_after_end, open_after_grant, open_after_rollback_to, open_after_savepoint, grant_refusal, released, savepoint_refusal}
use Rattle.escrow_txn.specs.Joined.{opened}
use Rattle.escrow_txn.specs.Sessions.{AreSessions, journal_at, with_journal}
use Rattle.escrow_txn.proofs.Places.{IsAt, place_of}
use Rattle.std.proofs.lemmas.Result.{on_err_weaker, on_ok_weaker}
use Rattle.escrow_num.specs.declared.refusal.Refusal.TheVariants as refusal
use Rattle.escrow_num.specs.Refusal.{refuse_if}
use Rattle.escrow_txn.proofs.Kept.{marked_journals}
use Rattle.escrow_txn.proofs.Marks.{saved_is}
use Rattle.escrow_txn.proofs.Refusals.{refused_if, only_if, savepoint_refusal_is}
use Rattle.escrow_txn.proofs.table.TxnTable.mark.Goals as goal

at : (c : goal.After-mark) → IsAt c.args.session c.self.inside.journals (c.args.session - 1) (journal_at c.self.inside.journals c.args.session)
at c = place_of c.self.inside.journals c.self.inside.next_id c.args.session c.self.invariant c.mark.ensures.within

refusal_is : (c : goal.After-mark) → refuse_if (is_full_beside c.args.name (journal_at c.self.inside.journals c.args.session)) refusal.TooManySavepoints ≡ savepoint_refusal c.args.session c.args.name c.args.self.now
refusal_is c =
    savepoint_refusal_is c.args.session c.self.inside.next_id c.args.name c.self.inside.journals (c.args.session - 1) (journal_at c.self.inside.journals c.args.session) (at c)
    ∙ ap (λ (o : Open). savepoint_refusal c.args.session c.args.name o) c.self.view_is

pub invariant_of-self : goal.invariant_of-self
invariant_of-self c =
    marked_journals c.mark.result c.self.inside.journals c.mark.new.self c.self.inside.next_id c.args.session c.args.name c.self.invariant (at c) c.mark.ensures.marked c.mark.ensures.unchanged c.mark.ensures.valid

pub returns-clause-saved : goal.returns-clause-saved
returns-clause-saved c =
    let logs = c.self.inside.journals in
    let next = c.self.inside.next_id in
    on_ok_weaker c.mark.result
    (λ is.
    ap (λ (ls : List Journal). opened ls next) is
    ∙ saved_is c.args.session next c.args.name logs (c.args.session - 1) (journal_at logs c.args.session) (at c)
    ∙ ap (λ (o : Open). open_after_savepoint c.args.session c.args.name o) c.self.view_is)
    c.mark.ensures.marked

pub returns-clause-unchanged : goal.returns-clause-unchanged
returns-clause-unchanged c = on_err_weaker c.mark.result (λ is. ap (λ (ls : List Journal). opened ls c.self.inside.next_id) is ∙ c.self.view_is) c.mark.ensures.unchanged

pub returns-clause-refused : goal.returns-clause-refused
returns-clause-refused c =
    subst (λ o. IfSome o (λ e. c.mark.result ≡ Err e)) (refusal_is c)
    (refused_if (is_full_beside c.args.name (journal_at c.self.inside.journals c.args.session)) refusal.TooManySavepoints c.mark.result c.mark.ensures.refused)

pub returns-clause-only : goal.returns-clause-only
returns-clause-only c =
    subst (λ o. IfErr c.mark.result (λ e. (o ≡ Some e) ⊎ (e ≡ refusal.Memory))) (refusal_is c)
    (only_if (is_full_beside c.args.name (journal_at c.self.inside.journals c.args.session)) refusal.TooManySavepoints c.mark.result c.mark.ensures.only c.mark.ensures.room)
