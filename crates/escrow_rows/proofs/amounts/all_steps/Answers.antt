use Rattle.std.proofs.Common.{fold, take, sym, ap, ◌∙◌}
use Rattle.std.proofs.lemmas.List.Sums.{fold_more}
use Rattle.escrow_cells.specs.Step.{Contents}
use Rattle.escrow_rows.specs.declared.amounts.NewAmounts.{NewAmounts}
use Rattle.escrow_rows.specs.Inside.{amounts_on, on_cells}
use Rattle.escrow_rows.proofs.amounts.all_steps.Goals as goal

pub loop-new-preserved : goal.loop-new-preserved
loop-new-preserved c = λ before.
    let news = c.args.news.now in
    let i = c.loop-new.new-index in
    let new = c.new-item.result in
    let put : Contents → NewAmounts → Contents = λ contents n. on_cells (amounts_on n) contents in
    c.in_ok-push_steps.ensures before
    ∙ ap (on_cells (amounts_on new)) (c.loop-new.invariant before)
    ∙ sym (fold_more put before news i new c.loop-new-test.true ∙ ap (put (fold put before (take i news))) (sym c.new-item.is))
