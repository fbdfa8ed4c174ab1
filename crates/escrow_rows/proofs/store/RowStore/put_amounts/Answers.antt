use Rattle.std.proofs.Common.{◌≡◌, List, fold, subst, sym}
use Rattle.escrow_cells.specs.declared.step.Step.{Step}
use Rattle.escrow_cells.specs.Step.{Contents, done}
use Rattle.escrow_rows.specs.Inside.{all_on}
use Rattle.escrow_rows.proofs.ImageSet.{puts_amounts}
use Rattle.escrow_rows.proofs.Runs.{writes_as}
use Rattle.escrow_rows.proofs.store.RowStore.put_amounts.Goals as goal

pub returns : goal.returns
returns g c =
    let news = c.args.news.now in
    let steps = c.as_slice.result.now in
    let change = subst (λ (s : List Step). (before : Contents) → fold done before s ≡ all_on news before) (sym c.as_slice.ensures.value) c.in_ok-steps.ensures in
    writes_as g.S.Store c.self.inside.conn c.args.self.now c.run.new.conn _ _ _ c.self.view_is (puts_amounts news steps change) c.run.ensures.writes
