use Rattle.std.proofs.Common.{◌≡◌, take, length}
use Rattle.escrow_num.proofs.copied.are_same.Given as goal

abbrev pub invariant-loop-i : goal.invariant-loop-i
invariant-loop-i g l = record { as_long : length l.items ≡ length l.others; same_so_far : take l.i l.items ≡ take l.i l.others }
