use Rattle.std.proofs.Common.{refl}
use Rattle.escrow_schema.proofs.KeyLemmas.{length-keys_of}
use Rattle.escrow_schema.proofs.items.count_keys.Goals as goal

pub returns-in-Column : goal.returns-in-Column
returns-in-Column c =
    let counted = length-keys_of c.in-Column.text.name c.in-Column.text.marks in
    rw (c.in-Column.is, ← counted, c.count_key_marks.ensures, c.as_slice.ensures) refl
