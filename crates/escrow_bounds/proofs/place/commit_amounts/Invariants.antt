use Rattle.std.proofs.Common.{◌≡◌, take}
use Rattle.escrow_num.specs.declared.session.End.TheVariants as end
use Rattle.escrow_bounds.specs.Held.{of_row}
use Rattle.escrow_bounds.specs.Moved.{amounts_after_all}
use Rattle.escrow_bounds.proofs.place.commit_amounts.Given as goal

abbrev pub invariant-loop-r : goal.invariant-loop-r
invariant-loop-r l = l.amounts ≡ amounts_after_all end.Commit l.initial.amounts (of_row l.row (take l.r-index l.reservations))
