use Rattle.std.proofs.Common.{◌≡◌, ◌∙◌, length, w64, [], refl}
use Rattle.std.proofs.lemmas.Int.{to_z-of_z}
use Rattle.sqlite_value.specs.declared.value.Value.TheVariants.{Int}
use Rattle.sqlite.specs.Held.{state}
use Rattle.escrow_cells.specs.Store.{cells}
use Rattle.escrow_cells.proofs.Reading.{keys_count}
use Rattle.escrow_cells.proofs.read.count_keys.Goals as goal

pub returns-clause-count : goal.returns-clause-count
returns-clause-count g c clean store =
    let rows = rw (to_z-of_z w64 c.args.table c.ranges.table, to_z-of_z w64 c.args.place c.ranges.place) at c.in_ok-key_cells.ensures.rows in
    let counted = rows clean store (record { rows = 0 }) [] refl in
    let taken : c.key_cells.new.sink.rows ≡ length counted.0 = counted.2 in
    taken ∙ keys_count (Int c.args.table) (Int c.args.place) (cells (state g.S.Store c.args.conn.now).now) counted.0 counted.1
