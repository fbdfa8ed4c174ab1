use Rattle.std.proofs.Common.{◌≡◌, length, All}
use Rattle.escrow_stats.specs.Watching.{IsNewBoard, IsNewWatcher}
use Rattle.escrow_stats.proofs.board.Board.make.Given as goal

abbrev pub invariant-loop : goal.invariant-loop
invariant-loop g l = record { board : IsNewBoard l.base l.board; made : length l.made.items ≡ l.counter; new : All (IsNewWatcher l.base) l.made.items }
