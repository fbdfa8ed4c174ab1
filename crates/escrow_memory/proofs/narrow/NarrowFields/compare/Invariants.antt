use Rattle.std.proofs.Common.{◌≡◌, drop}
use Rattle.sqlite_value.specs.Keys.{entry_cmp, prefix_cmp}
use Rattle.sqlite_record.specs.Record.{values_of}
use Rattle.escrow_memory.proofs.narrow.NarrowFields.compare.Given as goal

-- the remaining fields decide as all fields do
abbrev pub invariant-loop-at : goal.invariant-loop-at
invariant-loop-at l = record {
  prefix : prefix_cmp l.order (values_of l.fields.types.now l.fields.body.now) (drop l.at l.row) ≡ prefix_cmp l.fn.order (values_of l.fn.self.types.now l.fn.self.body.now) l.row;
  entry : entry_cmp l.order (values_of l.fields.types.now l.fields.body.now) (drop l.at l.row) ≡ entry_cmp l.fn.order (values_of l.fn.self.types.now l.fn.self.body.now) l.row;
}
