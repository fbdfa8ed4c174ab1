use Rattle.std.proofs.Common.{◌≡◌, ◌∙◌, ◌++◌, length, sym, ap, arith}
use Rattle.std.proofs.lemmas.Bool.Decides.{nat_tests}
use Rattle.std.proofs.lemmas.List.{append-nil}
use Rattle.escrow_memory.proofs.NarrowLemmas.{no_fields}
use Rattle.escrow_memory.proofs.narrow.push_fields.Goals as goal

pub returns : goal.returns
returns c = λ whole.
    let left = c.loop-value.fields in
    let none : length left.types.now ≡ 0 = grind (arith, nat_tests, c.is_empty.ensures, whole) in
    sym (append-nil c.loop-value.row) ∙ ap (λ rest. c.loop-value.row ++ rest) (sym (no_fields left.types.now left.body.now none)) ∙ c.loop-value.invariant
