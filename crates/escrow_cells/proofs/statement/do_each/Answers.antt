use Rattle.std.proofs.Common.{List, length, refl, subst, true, ◌∙◌, rules}
use Rattle.std.proofs.lemmas.List.{take_all}
use Rattle.sqlite.specs.Held.{state}
use Rattle.escrow_cells.specs.declared.step.Step.{Step}
use Rattle.escrow_cells.specs.Inside.{ActsBy}
use Rattle.escrow_cells.specs.Step.{Does}
use Rattle.escrow_cells.proofs.AllOrNone.{acts_none, acts_on, acts_failed}
use Rattle.escrow_cells.proofs.statement.do_each.Goals as goal

pub loop-step-init : goal.loop-step-init
loop-step-init g c = record { same = refl; acts = acts_none (state g.S.Store c.args.tx.now.conn.now) }

pub loop-step-preserved : goal.loop-step-preserved
loop-step-preserved g c = record {
  same = c.do_step.ensures.same_reference ∙ c.loop-step.invariant.same;
  acts = acts_on _ _ _ _ _ _ c.loop-step-test.true c.loop-step.invariant.acts c.in_ok-do_step.ensures.acts;
}

pub returns-in_err-do_step-clause-acts : goal.returns-in_err-do_step-clause-acts
returns-in_err-do_step-clause-acts g c =
    let it = acts_failed _ _ _ (length c.args.steps.now) (Does c.args.steps.now) c.loop-step.invariant.acts.pending c.do_step.ensures.acts.pending in
    search (rules, it)

pub returns-clause-acts : goal.returns-clause-acts
returns-clause-acts g c =
    subst (λ (these : List Step). ActsBy (state g.S.Store c.args.tx.now.conn.now) (state g.S.Store c.loop-step.tx.conn.now) true these) (take_all c.loop-step.step-index c.args.steps.now c.loop-step-test.false) c.loop-step.invariant.acts
