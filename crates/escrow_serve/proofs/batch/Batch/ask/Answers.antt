use Rattle.std.proofs.Common.{refl, sym, ap, subst, ◌∙◌, vec_len}
use Rattle.std.specs.Prelude.{slice_set}
use Rattle.std.proofs.lemmas.Option.{slice_get_read}
use Rattle.escrow_script.proofs.LineLemmas.{names_one}
use Rattle.escrow_serve.specs.Task.{IsTask}
use Rattle.escrow_serve.specs.declared.task.Task.{Task}
use Rattle.escrow_serve.specs.declared.task.Task.TheVariants as task
use Rattle.escrow_serve.specs.declared.waiting.Waiting.TheVariants as waiting
use Rattle.escrow_serve.proofs.GatherLemmas.{Waits}
use Rattle.escrow_serve.proofs.RunLemmas.{asked_nothing, asked_more, asked_still}
use Rattle.escrow_serve.proofs.batch.Batch.ask.Goals as goal

pub returns-in-Nothing-clause-waits : goal.returns-in-Nothing-clause-waits
returns-in-Nothing-clause-waits c =
    let parts = c.args.self.now.parts.items in
    subst (λ (t : Task). Waits t waiting.Nothing parts parts) (sym c.in-Nothing.is) (refl, tt, λ bytes items. asked_nothing parts items bytes task.Nothing (λ place. refl))

pub returns-in-NoLine-clause-waits : goal.returns-in-NoLine-clause-waits
returns-in-NoLine-clause-waits c =
    let parts = c.args.self.now.parts.items in
    subst (λ (t : Task). Waits t waiting.NoLine parts parts) (sym c.in-NoLine.is) (refl, tt, λ bytes items. asked_nothing parts items bytes task.NoLine (λ place. refl))

pub returns-in-Refuse-clause-waits : goal.returns-in-Refuse-clause-waits
returns-in-Refuse-clause-waits c =
    let parts = c.args.self.now.parts.items in
    let in_place = c.in-Refuse.database in
    subst (λ (t : Task). Waits t (waiting.Refused in_place c.in-Refuse.session c.in-Refuse.refusal) parts parts) (sym c.in-Refuse.is)
    (refl, tt, λ bytes items. asked_nothing parts items bytes (task.Refuse in_place c.in-Refuse.session c.in-Refuse.refusal) (λ place. refl))

pub returns-in-Ok-clause-waits : goal.returns-in-Ok-clause-waits
returns-in-Ok-clause-waits c =
    let parts = c.args.self.now.parts in
    let place = c.in-Statement.database in
    let session = c.in-Statement.session in
    let asked = task.Statement place session c.in-Statement.statement in
    let old = c.index_mut.result.now in
    let after = c.ask.new.self in
    let given = c.requires in
    let is = subst (λ (t : Task). IsTask given.0 (vec_len parts) given.1 t) c.in-Statement.is given.2 in
    let found = slice_get_read parts.items (vec_len parts) place old parts.ok.0 (names_one (vec_len parts) given.0 given.1 place session is.0 is.1) c.index_mut.ensures.value in
    subst (λ (t : Task). Waits t (waiting.Asked place session) parts.items (slice_set parts.items place after)) (sym c.in-Statement.is)
    (refl, tt, λ bytes items. asked_more parts.items items bytes place session c.in-Statement.statement old after found c.in-Ok.ensures.asked)

pub returns-in-Err-clause-alone : goal.returns-in-Err-clause-alone
returns-in-Err-clause-alone c =
    let parts = c.args.self.now.parts in
    let place = c.in-Statement.database in
    let session = c.in-Statement.session in
    let old = c.index_mut.result.now in
    let given = c.requires in
    let is = subst (λ (t : Task). IsTask given.0 (vec_len parts) given.1 t) c.in-Statement.is given.2 in
    let found = slice_get_read parts.items (vec_len parts) place old parts.ok.0 (names_one (vec_len parts) given.0 given.1 place session is.0 is.1) c.index_mut.ensures.value in
    (ap (task.Statement place session) c.in-Err.ensures.back ∙ sym c.in-Statement.is, λ items. asked_still parts.items items place old c.ask.new.self found c.in-Err.ensures.same)
