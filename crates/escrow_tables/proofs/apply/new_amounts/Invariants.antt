use Rattle.std.proofs.Common.{◌≡◌, map, take}
use Rattle.escrow_checks.specs.Form.{all_changed}
use Rattle.escrow_tables.specs.RowChanges.{added_by}
use Rattle.escrow_tables.proofs.apply.new_amounts.Given as goal

abbrev pub invariant-loop-change : goal.invariant-loop-change
invariant-loop-change l = l.after ≡ all_changed l.before (map added_by (take l.change-index l.changes))
