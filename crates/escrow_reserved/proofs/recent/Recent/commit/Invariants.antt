use Rattle.std.proofs.Common.{◌≡◌, map, take}
use Rattle.std.specs.Prelude.{option_map}
use Rattle.escrow_num.specs.declared.value.RowName.{RowName}
use Rattle.escrow_reserved.specs.Read.{committed_to, read_at}
use Rattle.escrow_reserved.proofs.recent.Recent.commit.Given as goal

abbrev pub invariant-loop-r : goal.invariant-loop-r
invariant-loop-r l = (name : RowName) → read_at l.self name ≡ option_map (committed_to name (take l.r-index (map (λ r. r.now) l.reservations))) (read_at l.initial.self name)
