use Rattle.std.proofs.Common.{◌≡◌, ◌∙◌, arith, true, false, sym, ap}
use Rattle.std.proofs.lemmas.Bool.{both_ways}
use Rattle.escrow_recover.specs.Tabs.{are_apart}
use Rattle.escrow_recover.proofs.Tabs.{AreRead, each_tab, few_rows, read_apart, tables_are, catalog_is, rows_same}
use Rattle.escrow_recover.proofs.Tab.{passed_on}
use Rattle.escrow_recover.proofs.tables.tables_of.Goals as goal

pub returns-then-rows-gt-MAX_TABLES-clause-foreign : goal.returns-then-rows-gt-MAX_TABLES-clause-foreign
returns-then-rows-gt-MAX_TABLES-clause-foreign c = λ told tables are same.
    let few = few_rows c.args.rows.now tables are same in
    let many = c.if-rows-gt-MAX_TABLES.true in
    absurd (omega arith)

pub returns-in_err-tables-clause-foreign : goal.returns-in_err-tables-clause-foreign
returns-in_err-tables-clause-foreign c = λ told tables are same.
    c.each_table.ensures.foreign (passed_on c.from_residual.result c.each_table.result _ _ c.from_residual.ensures.1 c.in_err-tables.was told) (each_tab c.args.rows.now tables are same)

pub returns-then-not-are_apart-clause-foreign : goal.returns-then-not-are_apart-clause-foreign
returns-then-not-are_apart-clause-foreign c = λ told tables are same.
    let read = c.in_ok-tables.tables.items in
    let tested : are_apart read ≡ false = ap are_apart (sym c.deref.ensures.value) ∙ sym c.are_apart.ensures ∙ c.if-not-are_apart.true in
    both_ways (are_apart read) tested (read_apart c.args.rows.now tables are same read (record { rows_are = c.in_ok-tables.ensures.rows; each = c.in_ok-tables.ensures.each }))

-- the tables that were read
read : (c : goal.In_ok-put_in_order) → AreRead c.args.rows.now c.in_ok-tables.tables.items
read c = record { rows_are = c.in_ok-tables.ensures.rows; each = c.in_ok-tables.ensures.each }

apart : (c : goal.In_ok-put_in_order) → are_apart c.in_ok-tables.tables.items ≡ true
apart c = ap are_apart (sym c.deref.ensures.value) ∙ sym c.are_apart.ensures ∙ c.if-not-are_apart.false

pub returns-clause-tables : goal.returns-clause-tables
returns-clause-tables c =
    let rows = c.args.rows.now in
    let before = c.in_ok-tables.tables.items in
    let after = c.put_in_order.new.tables.items in
    let few = c.if-rows-gt-MAX_TABLES.false in
    let same = c.put_in_order.ensures.same in
    (tables_are rows before (read c) few (apart c) after same, catalog_is rows before (read c) few (apart c) after same c.in_ok-put_in_order.ensures.order)

pub returns-clause-rows : goal.returns-clause-rows
returns-clause-rows c =
    rows_same c.args.rows.now c.in_ok-tables.tables.items (read c) c.if-rows-gt-MAX_TABLES.false (apart c) c.put_in_order.new.tables.items c.put_in_order.ensures.same
