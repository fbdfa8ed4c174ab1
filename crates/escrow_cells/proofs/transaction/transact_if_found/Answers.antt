use Rattle.std.proofs.Common.{◌≡◌, List, [], ◌∷◌, ◌++◌, append_assoc, append-nil, length, refl, sym, ap, subst, ◌∙◌, arith, rules}
use Rattle.std.proofs.lemmas.List.{nil_from_length}
use Rattle.sqlite.specs.Held.{state}
use Rattle.sqlite.specs.State.{HasCleanDisk}
use Rattle.escrow_cells.specs.declared.step.Step.{Step}
use Rattle.escrow_cells.specs.Inside.{GoesOn}
use Rattle.escrow_cells.specs.Step.{Does, DoesFinding}
use Rattle.escrow_cells.proofs.AllOrNone.{ends, finding, found_first, goes_first, goes_on, just_begun, undone}
use Rattle.escrow_cells.proofs.transaction.transact_if_found.Given as given
use Rattle.escrow_cells.proofs.transaction.transact_if_found.Goals as goal
use Rattle.escrow_cells.proofs.transaction.transact_if_found.Goals.{After-commit}

pub returns-in_err-do_finding-clause-writes : goal.returns-in_err-do_finding-clause-writes
returns-in_err-do_finding-clause-writes g c =
    let it = undone _ _ _ c.requires.settled (DoesFinding c.args.first.now c.args.rest.now) _ (just_begun g.S.Store c.args.conn.now _ c.transaction-tx.ensures.begun) c.do_finding.ensures.acts.pending
    c.drop-tx.ensures.undone c.drop-tx.ensures.survives in
    search (rules, it)

-- no cell was found: the transaction is rolled back
pub returns-then-not-branch-clause-writes : goal.returns-then-not-branch-clause-writes
returns-then-not-branch-clause-writes g c =
    let it = undone _ _ _ c.requires.settled (DoesFinding c.args.first.now c.args.rest.now) _ (just_begun g.S.Store c.args.conn.now _ c.transaction-tx.ensures.begun) c.do_finding.ensures.acts.pending
    c.drop-tx-then-not-branch.ensures.undone c.drop-tx-then-not-branch.ensures.survives in
    search (rules, it)

pub returns-then-not-branch-clause-none : goal.returns-then-not-branch-clause-none
returns-then-not-branch-clause-none g c = λ clean _.
    let after : HasCleanDisk (state g.S.Store c.drop-tx-then-not-branch.new.self.0) = search (rules, clean) in
    let was : HasCleanDisk (state g.S.Store c.do_finding.new.tx.conn.now) = omega (arith, c.drop-tx-then-not-branch.ensures.survives.clean, after) in
    rw c.if-not-branch.true at (found_first g.S.Store c.args.conn.now _ _ c.args.first.now _ c.transaction-tx.ensures.begun c.in_ok-do_finding.ensures.acts c.in_ok-do_finding.ensures.found was)

pub loop-some-init : goal.loop-some-init
loop-some-init g c = record {
  can_next = search rules;
  is_finite = tt;
  by_four = search rules;
  same = refl;
  goes_on = ([], goes_first g.S.Store c.args.conn.now _ _ 1 (Does (c.args.first.now ∷ [])) c.transaction-tx.ensures.begun c.in_ok-do_finding.ensures.acts, search rules);
  found = λ clean.
      (rw c.if-not-branch.false at (found_first g.S.Store c.args.conn.now _ _ c.args.first.now _ c.transaction-tx.ensures.begun c.in_ok-do_finding.ensures.acts c.in_ok-do_finding.ensures.found clean)).1;
}

pub loop-some-preserved : goal.loop-some-preserved
loop-some-preserved g c =
    let so_far = c.loop-some.invariant.goes_on in
    let first = c.args.first.now in
    let some = c.in-Some.some.now in
    let steps = c.in-Some.ensures.steps in
    record {
      can_next = search rules;
      is_finite = tt;
      by_four = steps.0 ∙ c.loop-some.invariant.by_four;
      same = c.do_steps.ensures.same_reference ∙ c.loop-some.invariant.same;
      goes_on = (
        so_far.0 ++ some,
        goes_on (first ∷ so_far.0) some _ _ _ so_far.1 c.in_ok-do_steps.ensures.acts,
        append_assoc so_far.0 some _ ∙ ap (λ (rest : List Step). so_far.0 ++ rest) (sym steps.1.0) ∙ so_far.2,
      );
      found = λ clean. c.loop-some.invariant.found (omega (arith, c.do_steps.ensures.acts.pending.survives.clean, clean));
    }

pub returns-in_err-do_steps-clause-writes : goal.returns-in_err-do_steps-clause-writes
returns-in_err-do_steps-clause-writes g c =
    let it = undone _ _ _ c.requires.settled (DoesFinding c.args.first.now c.args.rest.now) _ c.loop-some.invariant.goes_on.1.pending c.do_steps.ensures.acts.pending c.drop-tx-in_err-do_steps.ensures.undone c.drop-tx-in_err-do_steps.ensures.survives in
    search (rules, it)

-- all steps ran, and the first found a cell
whole : (g : given.Over) (c : After-commit g) → GoesOn (length (c.args.first.now ∷ c.args.rest.now)) (DoesFinding c.args.first.now c.args.rest.now) (state g.S.Store c.args.conn.now) (state g.S.Store c.loop-some.tx.conn.now)
whole g c =
    let so_far = c.loop-some.invariant.goes_on in
    let first = c.args.first.now in
    let none = nil_from_length _ c.in-None.ensures.steps.1.0 in
    let all : so_far.0 ≡ c.args.rest.now = sym (append-nil so_far.0) ∙ ap (λ (rest : List Step). so_far.0 ++ rest) (sym none) ∙ so_far.2 in
    finding first c.args.rest.now _ _
    (subst (λ (done : List Step). GoesOn (length (first ∷ done)) (Does (first ∷ done)) (state g.S.Store c.args.conn.now) (state g.S.Store c.loop-some.tx.conn.now)) all so_far.1) c.loop-some.invariant.found

pub returns-in_err-commit-clause-writes : goal.returns-in_err-commit-clause-writes
returns-in_err-commit-clause-writes g c =
    let same = c.loop-some.invariant.same in
    let it = rw c.in_err-commit.was at (ends _ _ _ c.requires.settled (DoesFinding c.args.first.now c.args.rest.now) (length (c.args.first.now ∷ c.args.rest.now)) (omega arith) (whole g (goal.at.returns-in_err-commit-clause-writes g c).After-commit)
    c.commit.ensures.survives (g.met.S.Store.settled c.commit.new.self.0.store) c.commit.result c.commit.ensures.ok c.commit.ensures.err) in
    search (rules, it, same)

pub returns-clause-writes : goal.returns-clause-writes
returns-clause-writes g c =
    let same = c.loop-some.invariant.same in
    let it = rw c.in_ok-commit.was at (ends _ _ _ c.requires.settled (DoesFinding c.args.first.now c.args.rest.now) (length (c.args.first.now ∷ c.args.rest.now)) (omega arith) (whole g (goal.at.returns-clause-writes g c).After-commit)
    c.commit.ensures.survives (g.met.S.Store.settled c.commit.new.self.0.store) c.commit.result c.commit.ensures.ok c.commit.ensures.err) in
    search (rules, it, same)
