use Rattle.std.proofs.Common.{◌≡◌, ℤ, List, ◌∷◌, [], refl, sym, ap, ◌∙◌, arith}
use Rattle.escrow_num.specs.declared.session.End.TheVariants as end
use Rattle.escrow_bounds.specs.Held.{of_row}
use Rattle.escrow_bounds.specs.Moved.{all_moved, amounts_after_all}
use Rattle.escrow_bounds.proofs.Ending.{after_one, after_last, own_moved, other_stays, shown_is}
use Rattle.escrow_bounds.proofs.place.commit_amounts.Goals as goal
use Rattle.escrow_bounds.proofs.place.commit_amounts.Goals.{then-is_same, else-is_same}

pub loop-r-init : goal.loop-r-init
loop-r-init c = refl

-- a reservation adds its changes if it is of the row
one : (c : goal.Joined-is_same) → c.if-is_same.amounts ≡ amounts_after_all end.Commit c.loop-r.amounts (of_row c.args.row.now (c.r-item.result ∷ []))
one c =
    let row = c.args.row.now in
    let r = c.r-item.result in
    let mid = c.loop-r.amounts in
    elim c.if-is_same.branch [
      | then-is_same w ↦
          w.amounts-is ∙ w.move_all.ensures
          ∙ ap (λ (changes : List ℤ). all_moved mid changes) (shown_is w.deltas-changes.result w.len.result w.as_slice.result.now r.changes w.len.ensures w.as_slice.ensures w.deltas-changes.ensures)
          ∙ own_moved row mid r (sym w.if-is_same.true ∙ c.is_same.ensures.test)
      | else-is_same w ↦ w.amounts-is ∙ other_stays row mid r (sym w.if-is_same.false ∙ c.is_same.ensures.test)
    ]

pub loop-r-preserved : goal.loop-r-preserved
loop-r-preserved c =
    one c
    ∙ ap (λ (amounts : List ℤ). amounts_after_all end.Commit amounts (of_row c.args.row.now (c.r-item.result ∷ []))) c.loop-r.invariant
    ∙ after_one c.args.row.now c.args.amounts.now c.args.reservations.now c.loop-r.r-index c.r-item.result c.loop-r-test.true c.r-item.is

pub returns : goal.returns
returns c = c.loop-r.invariant ∙ after_last c.args.row.now c.args.amounts.now c.args.reservations.now c.loop-r.r-index (omega (arith, c.loop-r-test.false))
