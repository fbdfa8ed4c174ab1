-- Believed: a write to a tree.
use Rattle.std.specs.Prelude.{◌≡◌, ℕ, List, Option, None, Some, IsTrue, ⊤}
use Rattle.std.specs.Borrow.{Bor}
use Rattle.sqlite_value.specs.Order.{Row}
use Rattle.sqlite_record.specs.Record.{decode}
use Rattle.sqlite_trees.specs.declared.store.Shape.{Shape}
use Rattle.sqlite_trees.specs.declared.store.Shape.TheVariants.{Table, Index}
use Rattle.sqlite_trees.specs.Tree.{rowid, put_row, without_rowid, insert_entry, remove_entry}
use Rattle.sqlite_trees.specs.View.{is_int, IsStorable}
use Rattle.escrow_memory.specs.declared.tree.Edit.{Edit}
use Rattle.escrow_memory.specs.declared.tree.Edit.TheVariants.{Put, Delete, Insert, Remove}

-- the rows of a tree after a write: a row is put in place of the one with its rowid, or the row with a rowid is
-- removed; an entry is inserted in its order, or removed
abbrev pub edited : Edit → List Row → List Row
edited (Put row) = put_row row.now
edited (Delete id) = without_rowid id
edited (Insert order entry) = insert_entry order entry.now
edited (Remove order entry) = remove_entry order entry.now

-- whether a write is one to trees of this shape
abbrev pub Fits : Edit → Shape → Type 0
Fits (Put row) shape = (shape ≡ Table) × IsTrue (is_int (rowid row.now))
Fits (Delete id) shape = shape ≡ Table
Fits (Insert order entry) shape = shape ≡ Index order
Fits (Remove order entry) shape = shape ≡ Index order

-- the bytes are those of the row that is put or inserted, if one is
abbrev pub Writes : Edit → List ℕ → Type 0
Writes (Put row) bytes = decode bytes ≡ row.now
Writes (Delete id) bytes = ⊤
Writes (Insert order entry) bytes = decode bytes ≡ entry.now
Writes (Remove order entry) bytes = ⊤

-- the row that is put or inserted may be stored in a tree with these REAL columns
abbrev pub Storable : ℕ → Edit → Type 0
Storable reals (Put row) = IsStorable reals row.now
Storable reals (Delete id) = ⊤
Storable reals (Insert order entry) = IsStorable reals entry.now
Storable reals (Remove order entry) = ⊤

-- the row that is put or inserted, if one is
abbrev pub written : Edit → Option (Bor Row)
written (Put row) = Some row
written (Delete id) = None
written (Insert order entry) = Some entry
written (Remove order entry) = None
