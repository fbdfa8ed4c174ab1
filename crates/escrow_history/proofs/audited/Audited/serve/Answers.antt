use Rattle.std.proofs.Common.{◌+◌, ◌<◌, ◌∷◌, ◌++◌, [], List, length, refl, ap₂, arith, ◌∙◌}
use Rattle.escrow_statement.specs.declared.statement.Statement.{Statement}
use Rattle.escrow_machine.specs.declared.reply.Reply.{Reply}
use Rattle.escrow_transcript.specs.declared.entry.Entry.{Entry}
use Rattle.escrow_transcript.specs.declared.transcript.TheConstants.Transcript.{MAX_ENTRIES}
use Rattle.escrow_history.specs.Inside.{audited_of}
use Rattle.escrow_history.proofs.Kept.{appended_keeps, failed_by, on_err, refused_by_store, served_step, stayed_keeps, unserved_stays}
use Rattle.escrow_history.proofs.Promised.{never_by_store, promised_is_kept}
use Rattle.escrow_history.proofs.audited.Audited.serve.Goals as goal

pub invariant_of-self-in_err-asked-2 : goal.invariant_of-self-in_err-asked-2
invariant_of-self-in_err-asked-2 g c =
    let d = c.self.inside.database in
    let old = audited_of d c.self.inside.base c.self.inside.entries in
    let new = audited_of c.step-reply.new.self c.self.inside.base c.reserve.new.self in
    stayed_keeps g.S.Store old new c.self.invariant (λ clean. omega (arith, c.step-reply.ensures.crash.clean, clean)) (record {
      base = refl;
      entries = c.reserve.ensures.items;
      unchanged = λ clean.
          unserved_stays d.state c.args.session c.args.statement.now c.step-reply.result c.step-reply.new.self.state c.in_err-asked-2.field-0.0 c.in_err-asked-2.ensures.fails (c.step-reply.ensures.event clean);
    })

pub returns-in_err-asked-2-clause-unserved : goal.returns-in_err-asked-2-clause-unserved
returns-in_err-asked-2-clause-unserved g c =
    rw (← c.self.view_is)
    (on_err c.from_residual-in_err-asked-2.result (record {
      base = refl;
      entries = c.reserve.ensures.items;
      unchanged = λ clean.
          unserved_stays c.self.inside.database.state c.args.session c.args.statement.now c.step-reply.result c.step-reply.new.self.state c.in_err-asked-2.field-0.0 c.in_err-asked-2.ensures.fails (c.step-reply.ensures.event clean);
    }))

pub returns-in_err-asked-2-clause-promised : goal.returns-in_err-asked-2-clause-promised
returns-in_err-asked-2-clause-promised g c =
    let d = c.self.inside.database in
    rw (← c.self.view_is)
    (λ room needs. absurd (promised_is_kept d.state c.args.session c.args.statement.now c.step-reply.result c.step-reply.new.self.state c.in_err-asked-2.field-0.0 needs.0
    (c.step-reply.ensures.succeeds needs.0).1 c.in_err-asked-2.ensures.fails))

pub returns-in_err-asked-2-clause-apart : goal.returns-in_err-asked-2-clause-apart
returns-in_err-asked-2-clause-apart g c =
    let f = c.in_err-asked-2.field-0.0 in
    let step = c.step-reply.ensures in
    rw (← c.self.view_is)
    (λ apart same.
    never_by_store c.self.inside.database.state c.args.session c.args.statement.now c.step-reply.result c.step-reply.new.self.state f apart (λ promise. (step.succeeds promise).1) step.unread
    c.in_err-asked-2.ensures.fails (failed_by c.from_residual-in_err-asked-2.result f c.from_residual-in_err-asked-2.ensures.1 same))

pub returns-in_err-asked-2-clause-cause : goal.returns-in_err-asked-2-clause-cause
returns-in_err-asked-2-clause-cause g c =
    let f = c.in_err-asked-2.field-0.0 in
    rw (← c.self.view_is)
    (λ clean same.
    refused_by_store c.self.inside.database.state c.args.session c.args.statement.now c.step-reply.result c.step-reply.new.self.state f c.in_err-asked-2.ensures.fails (c.step-reply.ensures.event clean)
    (failed_by c.from_residual-in_err-asked-2.result f c.from_residual-in_err-asked-2.ensures.1 same))

pub invariant_of-self-2 : goal.invariant_of-self-2
invariant_of-self-2 g c =
    let d = c.self.inside.database in
    let old = audited_of d c.self.inside.base c.self.inside.entries in
    let new = audited_of c.step-reply.new.self c.self.inside.base c.keep.new.entries in
    let number = c.self.inside.base.before + c.len-2.result + 1 in
    let done = c.in_ok-asked-2 in
    let room : length old.entries < MAX_ENTRIES = omega (arith, c.len.ensures, c.self.inside.entries.ok.0, c.self.invariant.few, c.if-len-eq-MAX_ENTRIES.false) in
    appended_keeps g.S.Store old new c.args.session c.args.statement.now number c.step-reply.result c.self.invariant room (λ clean. omega (arith, c.step-reply.ensures.crash.clean, clean)) (record {
      step = λ clean. served_step d.state c.args.session c.args.statement.now c.step-reply.result c.step-reply.new.self.state done.ensures.succeeds (c.step-reply.ensures.event clean);
      succeeds = done.ensures.succeeds;
      answers = done.ensures.answers;
      number_is = omega (arith, c.len-2.ensures, c.reserve.ensures.len, c.self.inside.entries.ok.0);
      base = refl;
      entries = c.keep.ensures.items
          ∙ ap₂ (λ (items : List Entry) (e : Entry). items ++ e ∷ []) c.reserve.ensures.items
          (ap₂ (λ (a : Statement) (r : Reply). record { number = number; session = c.args.session; statement = a; reply = r }) (done.ensures.same.0 ∙ c.in_ok-asked.ensures.same) done.ensures.same.1);
    })
