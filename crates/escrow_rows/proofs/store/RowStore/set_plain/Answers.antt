use Rattle.std.proofs.Common.{◌≡◌, List, ◌∷◌, ◌∙◌, subst, sym}
use Rattle.std.specs.List.{AllByRecursion}
use Rattle.escrow_cells.specs.declared.step.Step.{Step}
use Rattle.escrow_rows.specs.Changes.{is_there}
use Rattle.escrow_rows.specs.Inside.{Change, SetsCellOf, plain_on}
use Rattle.escrow_rows.proofs.Finding.{none_as, set_told}
use Rattle.escrow_rows.proofs.ImageSet.{sets_plain}
use Rattle.escrow_rows.proofs.Runs.{writes_as}
use Rattle.escrow_rows.proofs.store.RowStore.set_plain.Given as given
use Rattle.escrow_rows.proofs.store.RowStore.set_plain.Goals as goal
use Rattle.escrow_rows.proofs.store.RowStore.set_plain.Goals.{After-run_if_found}

-- the steps are the first and the rest
parts : (g : given.Over) (c : After-run_if_found g) → c.in_ok-steps.steps.items ≡ c.in-Some.first.now ∷ c.in-Some.rest.now
parts g c = sym c.as_slice.ensures.value ∙ c.in-Some.ensures.cases.0

sets : (g : given.Over) (c : After-run_if_found g) → AllByRecursion (SetsCellOf c.args.table.now c.args.key.now) (c.in-Some.first.now ∷ c.in-Some.rest.now)
sets g c = subst (AllByRecursion (SetsCellOf c.args.table.now c.args.key.now)) (parts g c) c.in_ok-steps.ensures.sets

pub returns-clause-writes : goal.returns-clause-writes
returns-clause-writes g c =
    let after = (goal.at.returns-clause-writes g c).After-run_if_found in
    let table = c.args.table.now in
    let key = c.args.key.now in
    let values = c.args.values.now in
    let change = subst (λ (s : List Step). Change s (plain_on table key values)) (parts g after) c.in_ok-steps.ensures.change in
    writes_as g.S.Store c.self.inside.conn c.args.self.now c.run_if_found.new.conn _ _ _ c.self.view_is (sets_plain table key values c.in-Some.first.now c.in-Some.rest.now change (sets g after).0) c.run_if_found.ensures.writes

pub returns-clause-none : goal.returns-clause-none
returns-clause-none g c = λ clean is.
    let after = (goal.at.returns-clause-none g c).After-run_if_found in
    let table = c.args.table.now in
    let key = c.args.key.now in
    none_as g.S.Store c.self.inside.conn c.args.self.now table (is_there table key) c.in-Some.first.now c.self.view_is (set_told table key c.in-Some.first.now (sets g after).0) (c.run_if_found.ensures.none clean is)
