use Rattle.std.proofs.Common.{◌≡◌, [], ◌∙◌, rules, option_map, ap}
use Rattle.escrow_num.specs.declared.refusal.Refusal.TheVariants as refusal
use Rattle.escrow_checks.specs.Grant.{broken}
use Rattle.escrow_core.proofs.Inserting.{unfull}
use Rattle.escrow_machine.proofs.Shapes.{covered}
use Rattle.escrow_core.proofs.database.insert.row_refusal.Goals as goal

pub first_violation-requires : goal.first_violation-requires
first_violation-requires c = rw (c.as_slice.ensures, c.as_slice-2.ensures) (covered c.args.table.now c.args.row.now.amounts c.requires.table c.requires.fits.amounts)

pub returns : goal.returns
returns c =
    let checks = c.args.table.now.checks in
    let amounts = c.args.row.now.amounts in
    let violation : c.first_violation.result ≡ broken checks amounts [] [] = rw (c.as_slice.ensures, c.as_slice-2.ensures) at c.first_violation.ensures in
    let told : c.map.result ≡ option_map refusal.Check c.first_violation.result = search rules in
    unfull c.args.count (broken checks amounts [] []) c.map.result c.if-count-ge-MAX_ROWS.false (told ∙ ap (option_map refusal.Check) violation)
