use Rattle.std.proofs.Common.{subst}
use Rattle.escrow_free.specs.Histories.{AreHistories}
use Rattle.escrow_server.proofs.Runs.{runs_free}
use Rattle.escrow_server.proofs.free.serve_phases.Goals as goal

pub returns-clause-served : goal.returns-clause-served
returns-clause-served g c = λ clean.
    let audit = c.in_ok-audit.audit in
    let legal = subst (λ handed. AreHistories g.S.Store handed.items audit.parts.items audit.closed.items) c.replace-handed.ensures.value c.in_ok-audit.ensures.legal in
    runs_free g.S.Store c.args.databases.now.items audit.parts.items audit.closed.items
    (g.R.Read.remaining c.args.client.now.reader) (g.W.Write.contents c.args.client.now.writer) (g.W.Write.contents c.serve_before.new.client.writer)
    clean legal c.in_ok-audit.ensures.output

pub returns-clause-back : goal.returns-clause-back
returns-clause-back g c =
    let audit = c.in_ok-audit.audit in
    let legal = subst (λ handed. AreHistories g.S.Store handed.items audit.parts.items audit.closed.items) c.replace-handed.ensures.value c.in_ok-audit.ensures.legal in
    (audit.parts.items, audit.closed.items, legal, c.put_back.ensures)
