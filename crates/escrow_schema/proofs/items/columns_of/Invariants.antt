use Rattle.std.proofs.Common.{◌≡◌, drop}
use Rattle.escrow_schema.specs.Definition.{column_texts, columns_of}
use Rattle.escrow_schema.proofs.ListLemmas.{after}
use Rattle.escrow_schema.proofs.items.columns_of.Given as goal

abbrev pub invariant-loop-item : goal.invariant-loop-item
invariant-loop-item l = after l.columns.items (columns_of (column_texts (drop l.item-index l.items))) ≡ columns_of (column_texts l.items)
