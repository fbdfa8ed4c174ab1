use Rattle.std.proofs.Common.{◌≡◌, ◌++◌, drop}
use Rattle.std.specs.Prelude.{option_to_list}
use Rattle.escrow_schema.specs.Definition.{key_names}
use Rattle.escrow_schema.proofs.items.key_name.Given as goal

abbrev pub invariant-loop-item : goal.invariant-loop-item
invariant-loop-item l = option_to_list l.key ++ key_names (drop l.item-index l.items) ≡ key_names l.items
