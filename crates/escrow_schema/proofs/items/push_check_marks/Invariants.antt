use Rattle.std.proofs.Common.{◌≡◌, ◌++◌, map, drop}
use Rattle.std.specs.List.{flat_map}
use Rattle.escrow_schema.specs.Definition.{check_of_mark}
use Rattle.escrow_schema.proofs.items.push_check_marks.Given as goal

abbrev pub invariant-loop-mark : goal.invariant-loop-mark
invariant-loop-mark l =
    map (λ text. text.now) l.texts.items ++ flat_map check_of_mark (drop l.mark-index l.marks)
    ≡ map (λ text. text.now) l.initial.texts.items ++ flat_map check_of_mark l.marks
