use Rattle.std.proofs.Common.{◌≡◌, take}
use Rattle.escrow_num.proofs.copied.copy_all.Given as goal

abbrev pub invariant-loop-item : goal.invariant-loop-item
invariant-loop-item g l = l.copied ≡ take l.item-index l.items
