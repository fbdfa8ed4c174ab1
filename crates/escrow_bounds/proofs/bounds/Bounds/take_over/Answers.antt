use Rattle.std.proofs.Common.{ℤ, List, take, sym, subst}
use Rattle.std.specs.List.{AllByRecursion}
use Rattle.escrow_checks.specs.declared.check.Check.{Check}
use Rattle.escrow_checks.specs.Form.{IsCovered}
use Rattle.escrow_bounds.proofs.Ending.{shown_is}
use Rattle.escrow_bounds.proofs.Filling.{filled_more, of_the_table}
use Rattle.escrow_bounds.proofs.bounds.Bounds.take_over.Goals as goal

pub reserve-requires-clause-covered : goal.reserve-requires-clause-covered
reserve-requires-clause-covered c =
    subst (λ (amounts : List ℤ). AllByRecursion (λ (check : Check). IsCovered check.coeffs amounts) c.args.checks.now) (sym c.amounts.ensures)
    (c.requires.covered c.args.r.now.row c.place.result.now (of_the_table _ _ c.ne.ensures c.if-ne.false) (sym c.place.ensures))

pub returns : goal.returns
returns c = λ held.
    filled_more c.args.table c.args.checks.now held c.args.placed.now c.args.self.now c.reserve.new.self c.add.new.self c.args.r.now c.place.result.now c.amounts.result.now (take c.len.result c.deltas-changes.result)
    (of_the_table _ _ c.ne.ensures c.if-ne.false) (sym c.place.ensures) c.amounts.ensures
    (shown_is c.deltas-changes.result c.len.result c.as_slice.result.now c.args.r.now.changes c.len.ensures c.as_slice.ensures c.deltas-changes.ensures)
    c.in_ok-reserve.ensures.found c.in_ok-reserve.ensures.made c.reserve.ensures.others c.add.ensures.takes c.add.ensures.others
