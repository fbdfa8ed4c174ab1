use Rattle.std.proofs.Common.{◌≡◌, Some, length, subst, sym}
use Rattle.escrow_schema.specs.Definition.{keys_of, only_one}
use Rattle.escrow_schema.proofs.KeyLemmas.{key_of_column}
use Rattle.escrow_schema.proofs.items.name_of.Goals as goal

pub returns-in-Column : goal.returns-in-Column
returns-in-Column c =
    subst (λ item. length (keys_of item) ≡ 1 → Some c.in-Column.text.name ≡ only_one (keys_of item)) (sym c.in-Column.is)
    (key_of_column c.in-Column.text.name c.in-Column.text.marks)
