use Rattle.std.proofs.Common.{◌∙◌, subst, sym}
use Rattle.std.proofs.lemmas.Bool.{false≢true}
use Rattle.std.proofs.lemmas.Result.{IfErr-weaker, IfOk-weaker}
use Rattle.sqlite.specs.Held.{state}
use Rattle.escrow_recover.specs.Opened.{IsOpening}
use Rattle.escrow_recover.proofs.OpenedLemmas.{opening_failed}
use Rattle.escrow_recover.proofs.Opening.{reading_survives}
use Rattle.escrow_recover.proofs.open.open_store.Goals as goal

pub returns-then-is_bare-clause-durable : goal.returns-then-is_bare-clause-durable
returns-then-is_bare-clause-durable g c = IfOk-weaker c.make_empty.result _ _ (λ t durable clean bare. durable clean) c.make_empty.ensures.durable

pub returns-else-is_bare-clause-durable : goal.returns-else-is_bare-clause-durable
returns-else-is_bare-clause-durable g c =
    IfOk-weaker c.read_whole.result _ _
    (λ t only_reads clean bare. absurd (false≢true (sym c.if-is_bare.false ∙ c.is_bare.ensures.1 (c.schema.ensures.value ∙ bare))))
    c.read_whole.ensures.only_reads

pub returns-else-is_bare-clause-crash_opened : goal.returns-else-is_bare-clause-crash_opened
returns-else-is_bare-clause-crash_opened g c =
    let connection = state g.S.Store c.args.connection in
    IfOk-weaker c.read_whole.result _ _ (λ o. reading_survives connection.now connection (state g.S.Store o.store)) c.read_whole.ensures.only_reads

pub returns-else-is_bare-clause-crash_refused : goal.returns-else-is_bare-clause-crash_refused
returns-else-is_bare-clause-crash_refused g c =
    let connection = state g.S.Store c.args.connection in
    IfErr-weaker c.read_whole.result _ _ (λ f. reading_survives connection.now connection (state g.S.Store f.connection)) c.read_whole.ensures.only_reads_refused

pub returns-then-is_bare-clause-only : goal.returns-then-is_bare-clause-only
returns-then-is_bare-clause-only g c = IfErr-weaker c.make_empty.result _ _ (λ f cause. subst IsOpening (sym cause.1) (opening_failed cause.0)) c.make_empty.ensures.cause
