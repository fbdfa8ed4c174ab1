use Rattle.std.proofs.Common.{◌≡◌, ◌++◌, map, drop}
use Rattle.escrow_schema.specs.Definition.{checks_in}
use Rattle.escrow_schema.proofs.items.checks_in.Given as goal

abbrev pub invariant-loop-item : goal.invariant-loop-item
invariant-loop-item l = map (λ text. text.now) l.texts.items ++ checks_in (drop l.item-index l.items) ≡ checks_in l.items
