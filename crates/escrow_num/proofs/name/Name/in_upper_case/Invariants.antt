use Rattle.std.proofs.Common.{◌≡◌, ◌-◌, ◌++◌, take, map, replicate}
use Rattle.std.specs.Char.{to_ascii_uppercase}
use Rattle.escrow_num.proofs.name.Name.in_upper_case.Given as goal

abbrev pub invariant-loop-i : goal.invariant-loop-i
invariant-loop-i l = l.bytes ≡ take l.i (map to_ascii_uppercase l.text) ++ replicate (36 - l.i) 0
