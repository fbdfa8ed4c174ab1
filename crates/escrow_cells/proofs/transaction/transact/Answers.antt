use Rattle.std.proofs.Common.{◌≡◌, List, [], ◌++◌, append_assoc, append-nil, length, refl, sym, ap, subst, ◌∙◌, rules}
use Rattle.std.proofs.lemmas.List.{nil_from_length}
use Rattle.sqlite.specs.Held.{state}
use Rattle.escrow_cells.specs.declared.step.Step.{Step}
use Rattle.escrow_cells.specs.Inside.{GoesOn}
use Rattle.escrow_cells.specs.Step.{Does}
use Rattle.escrow_cells.proofs.AllOrNone.{begun, goes_on, undone, ends}
use Rattle.escrow_cells.proofs.Steps.{does_none}
use Rattle.escrow_cells.proofs.transaction.transact.Goals as goal

pub loop-some-init : goal.loop-some-init
loop-some-init g c = record {
  can_next = search rules;
  is_finite = tt;
  by_four = search rules;
  same = refl;
  goes_on = ([], rw c.transaction-tx.ensures.begun (begun g.S.Store c.args.conn.now (Does []) does_none), search rules);
}

pub loop-some-preserved : goal.loop-some-preserved
loop-some-preserved g c =
    let so_far = c.loop-some.invariant.goes_on in
    let some = c.in-Some.some.now in
    let steps = c.in-Some.ensures.steps in
    record {
      can_next = search rules;
      is_finite = tt;
      by_four = steps.0 ∙ c.loop-some.invariant.by_four;
      same = c.do_steps.ensures.same_reference ∙ c.loop-some.invariant.same;
      goes_on = (
        so_far.0 ++ some,
        goes_on so_far.0 some _ _ _ so_far.1 c.in_ok-do_steps.ensures.acts,
        append_assoc so_far.0 some _ ∙ ap (λ (rest : List Step). so_far.0 ++ rest) (sym steps.1.0) ∙ so_far.2,
      );
    }

pub returns-in_err-do_steps-clause-writes : goal.returns-in_err-do_steps-clause-writes
returns-in_err-do_steps-clause-writes g c =
    let it = undone _ _ _ c.requires.settled (Does c.args.steps.now) _ c.loop-some.invariant.goes_on.1.pending c.do_steps.ensures.acts.pending c.drop-tx.ensures.undone c.drop-tx.ensures.survives in
    search (rules, it)

pub returns-clause-writes : goal.returns-clause-writes
returns-clause-writes g c =
    let so_far = c.loop-some.invariant.goes_on in
    let none = nil_from_length _ c.in-None.ensures.steps.1.0 in
    let whole : so_far.0 ≡ c.args.steps.now = sym (append-nil so_far.0) ∙ ap (λ (rest : List Step). so_far.0 ++ rest) (sym none) ∙ so_far.2 in
    let made : GoesOn (length c.args.steps.now) (Does c.args.steps.now) (state g.S.Store c.args.conn.now) (state g.S.Store c.loop-some.tx.conn.now) =
    subst (λ (done : List Step). GoesOn (length done) (Does done) (state g.S.Store c.args.conn.now) (state g.S.Store c.loop-some.tx.conn.now)) whole so_far.1 in
    let same = c.loop-some.invariant.same in
    let it = ends _ _ _ c.requires.settled (Does c.args.steps.now) (length c.args.steps.now) c.requires.some made c.commit.ensures.survives (g.met.S.Store.settled c.commit.new.self.0.store) c.commit.result c.commit.ensures.ok c.commit.ensures.err in
    search (rules, it, same)
