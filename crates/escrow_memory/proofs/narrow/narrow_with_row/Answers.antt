use Rattle.std.proofs.Common.{◌≡◌, length, inr, ap, ◌∙◌, arith}
use Rattle.std.proofs.lemmas.Bool.Decides.{nat_tests}
use Rattle.sqlite_value.specs.Keys.{entry_cmp}
use Rattle.escrow_memory.proofs.NarrowLemmas.{no_fields}
use Rattle.escrow_memory.proofs.narrow.narrow_with_row.Goals as goal

pub returns-in_default : goal.returns-in_default
returns-in_default c =
    let behind = c.in_ok-behind.field-0.1 in
    let none : length behind.types.now ≡ 0 = grind (arith, nat_tests) in
    c.in_ok-behind.ensures.entry (inr (no_fields behind.types.now behind.body.now none)) ∙ ap (λ row. entry_cmp c.args.order row c.args.row.now) c.in_ok-new.ensures
