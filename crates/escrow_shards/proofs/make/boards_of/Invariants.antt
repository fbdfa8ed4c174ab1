use Rattle.std.proofs.Common.{◌≡◌, map, take}
use Rattle.escrow_shards.specs.Watchers.{AreNewWatchers, new_board}
use Rattle.escrow_shards.proofs.make.boards_of.Given as goal

abbrev pub invariant-loop-start : goal.invariant-loop-start
invariant-loop-start g l = record {
  boards : l.made.boards.items ≡ map new_board (take l.start-index l.starts);
  watchers : AreNewWatchers l.watchers (take l.start-index l.starts) l.made.watchers.items;
}
