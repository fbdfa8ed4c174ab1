use Rattle.std.proofs.Common.{◌∙◌, subst, sym}
use Rattle.std.proofs.lemmas.Bool.{false≢true}
use Rattle.std.proofs.lemmas.Result.{IfErr-weaker, IfOk-weaker}
use Rattle.sqlite.specs.Held.{state}
use Rattle.escrow_recover.specs.Opened.{IsOpening}
use Rattle.escrow_recover.proofs.Migrating.{founding_makes}
use Rattle.escrow_recover.proofs.OpenedLemmas.{opening_failed}
use Rattle.escrow_recover.proofs.migration.migrate.Goals as goal

pub returns-then-is_bare-clause-only : goal.returns-then-is_bare-clause-only
returns-then-is_bare-clause-only g c = IfErr-weaker c.make_empty.result _ _ (λ f cause. subst IsOpening (sym cause.1) (opening_failed cause.0)) c.make_empty.ensures.cause

pub returns-then-is_bare-clause-crash_opened : goal.returns-then-is_bare-clause-crash_opened
returns-then-is_bare-clause-crash_opened g c =
    let connection = state g.S.Store c.args.connection in
    IfOk-weaker c.make_empty.result _ _ (λ o. founding_makes connection.now connection (state g.S.Store o.store)) c.make_empty.ensures.crash_opened

pub returns-then-is_bare-clause-crash_refused : goal.returns-then-is_bare-clause-crash_refused
returns-then-is_bare-clause-crash_refused g c =
    let connection = state g.S.Store c.args.connection in
    IfErr-weaker c.make_empty.result _ _ (λ f. founding_makes connection.now connection (state g.S.Store f.connection)) c.make_empty.ensures.crash_refused

pub returns-then-is_bare-clause-durable_made : goal.returns-then-is_bare-clause-durable_made
returns-then-is_bare-clause-durable_made g c = IfOk-weaker c.make_empty.result _ _ (λ o durable clean bare. durable clean) c.make_empty.ensures.durable

pub returns-else-is_bare-clause-durable_made : goal.returns-else-is_bare-clause-durable_made
returns-else-is_bare-clause-durable_made g c =
    IfOk-weaker c.migrate_whole.result _ _
    (λ opened store clean bare. absurd (false≢true (sym c.if-is_bare.false ∙ c.is_bare.ensures.1 (c.schema.ensures.value ∙ bare))))
    c.migrate_whole.ensures.store
