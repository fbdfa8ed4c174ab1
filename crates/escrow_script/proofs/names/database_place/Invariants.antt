use Rattle.std.proofs.Common.{◌≡◌, ◌≤◌}
use Rattle.escrow_script.specs.Reading.{database_place}
use Rattle.escrow_script.proofs.names.database_place.Given as goal

abbrev pub invariant-loop-left : goal.invariant-loop-left
invariant-loop-left l = record {
  few : l.left ≤ l.databases;
  rest : database_place l.left l.name ≡ database_place l.databases l.name;
}

abbrev pub decreases-loop-left : goal.decreases-loop-left
decreases-loop-left l = l.left
