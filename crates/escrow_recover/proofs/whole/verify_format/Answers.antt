use Rattle.std.proofs.Common.{sym, subst, List}
use Rattle.sqlite.specs.Held.{state}
use Rattle.escrow_cells.specs.Formats.{format_number}
use Rattle.escrow_schema.specs.declared.stored.StoredTable.{StoredTable}
use Rattle.escrow_rows.proofs.Looking.{only_reads_then}
use Rattle.escrow_recover.specs.Inside.{AreOfTables}
use Rattle.escrow_recover.proofs.Verified.{by_part, not_another, strange_cells, strange_rows, verified, verified_tables}
use Rattle.escrow_recover.proofs.whole.verify_format.Goals as goal

pub returns-in_err-check_cells-clause-foreign : goal.returns-in_err-check_cells-clause-foreign
returns-in_err-check_cells-clause-foreign g c = λ usable same.
    strange_cells (format_number c.args.known) (state g.S.Store c.args.store.now) (state g.S.Store c.check_format.new.store) (state g.S.Store c.read_tables.new.store) c.in_ok-tables.tables.items
    (record { to_format = c.check_format.ensures.only_reads; to_tab = c.read_tables.ensures.only_reads; known = c.in_ok-check_format.ensures.known; found = c.in_ok-tables.ensures.found })
    (state g.S.Store c.check_cells.new.store) c.check_cells.ensures.only_reads usable
    (λ has all. c.check_cells.ensures.foreign usable (by_part c.from_residual-in_err-check_cells.result c.check_cells.result _ c.from_residual-in_err-check_cells.ensures.1 c.in_err-check_cells.was same) has
    (subst (λ (ts : List StoredTable). AreOfTables ts (state g.S.Store c.read_tables.new.store).now) (sym c.as_slice.ensures.value) all))

pub returns-in_err-tables-clause-other : goal.returns-in_err-tables-clause-other
returns-in_err-tables-clause-other g c = λ usable same.
    not_another (format_number c.args.known) (state g.S.Store c.args.store.now) (state g.S.Store c.check_format.new.store) (state g.S.Store c.read_tables.new.store) c.in_ok-check_format.ensures.known c.read_tables.ensures.only_reads usable

pub returns-in_err-check_cells-clause-other : goal.returns-in_err-check_cells-clause-other
returns-in_err-check_cells-clause-other g c = λ usable same.
    not_another (format_number c.args.known) (state g.S.Store c.args.store.now) (state g.S.Store c.check_format.new.store) (state g.S.Store c.check_cells.new.store) c.in_ok-check_format.ensures.known
    (only_reads_then _ _ _ c.read_tables.ensures.only_reads c.check_cells.ensures.only_reads) usable

pub returns-in_err-count_all-clause-other : goal.returns-in_err-count_all-clause-other
returns-in_err-count_all-clause-other g c = λ usable same.
    not_another (format_number c.args.known) (state g.S.Store c.args.store.now) (state g.S.Store c.check_format.new.store) (state g.S.Store c.count_all.new.store) c.in_ok-check_format.ensures.known
    (only_reads_then _ _ _ (only_reads_then _ _ _ c.read_tables.ensures.only_reads c.check_cells.ensures.only_reads) c.count_all.ensures.only_reads) usable

pub returns-clause-listed : goal.returns-clause-listed
returns-clause-listed g c = verified_tables c.in_ok-count_all.field-0.items c.in_ok-tables.tables.items c.in_ok-tables.ensures.tables c.in_ok-count_all.ensures.tables

pub returns-clause-store : goal.returns-clause-store
returns-clause-store g c =
    verified (format_number c.args.known) (state g.S.Store c.args.store.now) (state g.S.Store c.check_format.new.store) (state g.S.Store c.read_tables.new.store) c.in_ok-tables.tables.items
    (record { to_format = c.check_format.ensures.only_reads; to_tab = c.read_tables.ensures.only_reads; known = c.in_ok-check_format.ensures.known; found = c.in_ok-tables.ensures.found })
    (state g.S.Store c.check_cells.new.store) c.check_cells.ensures.only_reads c.in_ok-count_all.field-0.items (state g.S.Store c.count_all.new.store) c.count_all.ensures.only_reads c.in_ok-tables.ensures.tables.1
    (λ clean. let owned = c.in_ok-check_cells.ensures.found clean in
    (owned.0, λ has. subst (λ (ts : List StoredTable). AreOfTables ts (state g.S.Store c.read_tables.new.store).now) c.as_slice.ensures.value (owned.1 has)))
    c.in_ok-count_all.ensures.tables c.in_ok-count_all.ensures.found

pub returns-in_err-count_all-clause-foreign : goal.returns-in_err-count_all-clause-foreign
returns-in_err-count_all-clause-foreign g c = λ usable same.
    strange_rows (format_number c.args.known) (state g.S.Store c.args.store.now) (state g.S.Store c.check_format.new.store) (state g.S.Store c.read_tables.new.store) c.in_ok-tables.tables.items
    (record { to_format = c.check_format.ensures.only_reads; to_tab = c.read_tables.ensures.only_reads; known = c.in_ok-check_format.ensures.known; found = c.in_ok-tables.ensures.found })
    (state g.S.Store c.check_cells.new.store) c.check_cells.ensures.only_reads (state g.S.Store c.count_all.new.store) c.count_all.ensures.only_reads usable
    (c.count_all.ensures.foreign usable (by_part c.from_residual-in_err-count_all.result c.count_all.result _ c.from_residual-in_err-count_all.ensures.1 c.in_err-count_all.was same))
