use Rattle.std.proofs.Common.{refl, sym, subst}
use Rattle.escrow_num.specs.declared.refusal.Refusal.TheVariants as refusal
use Rattle.escrow_statement.specs.declared.statement.Statement.TheVariants as statement
use Rattle.escrow_machine.specs.Journal.{journal_reply}
use Rattle.escrow_core.specs.Database.{Database}
use Rattle.escrow_core.specs.Serves.{Serves}
use Rattle.escrow_core.proofs.Queries.{journal_refuses, journal_serves, journal_wants}
use Rattle.escrow_core.proofs.Serving.{left_by, refused, served_apart}
use Rattle.escrow_core.proofs.database.Database.show_journal.Goals as goal

pub returns-then-not-is_known : goal.returns-then-not-is_known
returns-then-not-is_known g c = λ session.
    let d = c.args.self.now in
    refused g.S.Store session (statement.ShowJournal c.args.table) d refusal.NoSuchTable
    (journal_refuses d.state session c.args.table (sym c.if-not-is_known.ensures))

pub returns-in_err-entries : goal.returns-in_err-entries
returns-in_err-entries g c = λ session.
    let d = c.args.self.now in
    rw (left_by _ _ c.from_residual.ensures.1)
    (refused g.S.Store session (statement.ShowJournal c.args.table) d refusal.Memory
    (journal_wants d.state session c.args.table (sym c.if-not-is_known.ensures)))

pub returns : goal.returns
returns g c = λ session.
    let d = c.args.self.now in
    rw c.in_ok-entries.ensures
    (subst (λ (v : Database _). Serves g.S.Store session (statement.ShowJournal c.args.table) d (journal_reply v.state c.args.table) d) (sym c.self.view_is)
    (served_apart g.S.Store session (statement.ShowJournal c.args.table) d d (journal_reply d.state c.args.table) refl refl
    (journal_serves d.state session c.args.table (sym c.if-not-is_known.ensures))))
