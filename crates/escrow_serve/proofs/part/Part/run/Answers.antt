use Rattle.std.proofs.Common.{◌∙◌, ap, subst, sym, List, [], ◌++◌}
use Rattle.std.specs.Prelude.{◌≡◌, IsTrue, drop, length, reverse, vec_len}
use Rattle.std.proofs.lemmas.Bool.{eqb-true}
use Rattle.std.proofs.lemmas.List.{nil_from_length}
use Rattle.std.proofs.Math.Seq.{drop-append_seam}
use Rattle.sqlite.specs.Held.{state}
use Rattle.sqlite.specs.State.{Survives}
use Rattle.escrow_core.specs.Left.{AreAfterAnswered, AreAfterSome, Lasts, TellNoWrite}
use Rattle.escrow_machine.specs.declared.event.Event.{Event}
use Rattle.escrow_machine.specs.declared.reply.Reply.{Reply}
use Rattle.escrow_serve.specs.Ran.{Ran}
use Rattle.escrow_serve.proofs.RanLemmas.{ran_none}
use Rattle.escrow_serve.proofs.RunLemmas.{part_ran}
use Rattle.escrow_serve.proofs.part.Part.run.Goals as goal

pub returns-clause-ran : goal.returns-clause-ran
returns-clause-ran g c =
    let old = c.args.database.now in
    let new = c.run_into.new.self in
    let before = c.clear.new.self.items in
    let served = c.run_into.ensures.served in
    let answers = served.2 ∙ ap (λ (rs : List Reply). rs ++ served.0) c.clear.ensures.items in
    part_ran g.S.Store old new c.args.self.now c.clear-2.new.self.items served.0 c.reverse.new.self.items c.clear-2.ensures.items
    (c.reverse.ensures.items ∙ ap reverse answers)
    (subst (λ (es : List Event). Ran g.S.Store old es served.0 new) c.as_slice.ensures.value
    (record {
      as_many = served.1;
      run = served.3;
      lasts = subst (λ (rs : List Reply). Lasts (state g.S.Store old.store) (state g.S.Store new.store) (TellNoWrite rs) (AreAfterAnswered old.state c.as_slice.result.now rs))
          (ap (drop (length before)) served.2 ∙ drop-append_seam before served.0) c.run_into.ensures.durable;
      usable = c.run_into.ensures.usable;
      survives = subst (λ (rs : List Reply). Survives (state g.S.Store old.store) (state g.S.Store new.store) (λ trees. IsTrue (state g.S.Store old.store).is_open × AreAfterSome old.state c.as_slice.result.now rs trees))
          (ap (drop (length before)) served.2 ∙ drop-append_seam before served.0) c.run_into.ensures.crash;
    }))

pub returns-then-is_empty-clause-ran : goal.returns-then-is_empty-clause-ran
returns-then-is_empty-clause-ran g c =
    let d = c.args.database.now in
    let events = c.args.self.now.events in
    let none : events.items ≡ [] = nil_from_length events.items (sym events.ok.0 ∙ eqb-true (vec_len events) 0 (sym c.is_empty.ensures ∙ c.if-is_empty.true)) in (
      none,
      subst (λ (es : List Event). Ran g.S.Store d es (reverse c.clear.new.self.items) d) (sym none)
          (subst (λ (rs : List Reply). Ran g.S.Store d [] (reverse rs) d) (sym c.clear.ensures.items) (ran_none g.S.Store d)),
    )
