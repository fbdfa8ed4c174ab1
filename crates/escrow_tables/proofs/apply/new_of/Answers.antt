use Rattle.std.proofs.Common.{ℕ, List, ap, get_or, ◌∙◌}
use Rattle.escrow_tables.specs.RowChanges.{row_of}
use Rattle.escrow_tables.proofs.Named.{is_named}
use Rattle.escrow_tables.proofs.apply.new_of.Goals as goal

pub returns-clause-stands : goal.returns-clause-stands
returns-clause-stands c =
    (is_named c.args.tables.now (row_of (get_or c.args.changes.now 0 c.index-changes-0.result)).table c.in-Some.counted.now c.in-Some.ensures).stands

pub returns-clause-row : goal.returns-clause-row
returns-clause-row c = λ first others are.
    let name = row_of (get_or c.args.changes.now 0 c.index-changes-0.result) in
    let named = is_named c.args.tables.now name.table c.in-Some.counted.now c.in-Some.ensures in
    ap (λ (t : List ℕ). record name { table = t }) named.name_is ∙ ap (λ cs. row_of (get_or cs 0 c.index-changes-0.result)) are
