use Rattle.std.proofs.Common.{map, string_bytes, arith}
use Rattle.escrow_schema.specs.Print.{check_words, declared_checks}
use Rattle.escrow_schema.proofs.PrintLemmas.{items_added}
use Rattle.escrow_schema.proofs.RuleLemmas.{rules_of}
use Rattle.escrow_schema.proofs.print.push_items.Goals as goal

pub returns : goal.returns
returns c =
    let table = c.args.table.now in
    let two = (rules_of table c.requires).least in
    items_added c.push_checks.result (string_bytes c.push_checks.new.text) (string_bytes c.push_columns.new.text) (string_bytes c.args.text.now) table.columns table.key
    (map (check_words c.args.names.now c.args.scales.now) (declared_checks table)) (omega arith)
    (rw (← c.declared_checks.ensures) c.push_checks.ensures) (rw (← c.as_slice.ensures) c.in_ok-push_columns.ensures)
