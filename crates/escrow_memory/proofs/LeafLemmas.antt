-- A leaf whose bytes grow keeps its rows, and an edit of its slots is the same edit of its rows.
use Rattle.std.proofs.Common.{◌≡◌, ℕ, ◌+◌, ◌-◌, ◌<◌, List, [], ◌∷◌, ◌++◌, map, length, take, drop, set, All, refl, ap, ap₂, ◌∙◌, arith, length-append, append_assoc}
use Rattle.std.proofs.lemmas.List.{drop-append-le, take-append-le, take-map, drop-map, map-append, map_push, length-drop, take_all}
use Rattle.std.proofs.lemmas.List.Elements.{All-head, All-tail, All-weaker, All-append, All-take, All-drop, All-cons}
use Rattle.std.proofs.lemmas.List.Edits.{sets-eq}
use Rattle.std.proofs.Math.Seq.{drop-append_seam}
use Rattle.sqlite_value.specs.Order.{Row}
use Rattle.sqlite_record.specs.Record.{decode}
use Rattle.escrow_memory.specs.declared.slot.Slot.{Slot}
use Rattle.escrow_memory.specs.Slot.{slot_row, IsWithin}
use Rattle.escrow_memory.specs.Rows.{spliced}

-- bytes appended at the end leave a row unchanged
row_kept : (bytes more : List ℕ) (slot : Slot) → IsWithin (length bytes) slot → slot_row (bytes ++ more) slot ≡ slot_row bytes slot
row_kept bytes more slot within =
    rw (drop-append-le slot.from bytes more (omega arith), take-append-le (slot.to - slot.from) (drop slot.from bytes) more (omega (arith, length-drop slot.from bytes)))

-- they leave all rows unchanged
rows_kept : (bytes more : List ℕ) (slots : List Slot) → All (IsWithin (length bytes)) slots → map (slot_row (bytes ++ more)) slots ≡ map (slot_row bytes) slots
rows_kept bytes more [] within = refl
rows_kept bytes more (slot ∷ slots) within =
    ap₂ ◌∷◌
    (row_kept bytes more slot (All-head (IsWithin (length bytes)) slot slots within))
    (rows_kept bytes more slots (All-tail (IsWithin (length bytes)) slot slots within))

-- an edit of the slots is the same edit of the rows
pub rows_spliced : (row : Slot → Row) (at cut : ℕ) (new slots : List Slot) → map row (take at slots ++ (new ++ drop (at + cut) slots)) ≡ spliced at cut (map row new) (map row slots)
rows_spliced row at cut new slots = simp (map-append, take-map, drop-map, append_assoc)

-- setting an element is removing it and inserting another
pub set_spliced : {X : Type 0} (xs : List X) (at : ℕ) (x : X) → at < length xs → set xs at x ≡ take at xs ++ x ∷ drop (at + 1) xs
set_spliced xs at x within = sets-eq (x ∷ []) xs at (omega arith) ∙ append_assoc (take at xs) (x ∷ []) (drop (at + 1) xs)

-- the slot of an entry that was appended to the bytes
abbrev pub IsBehind : List ℕ → List ℕ → Slot → Type 0
IsBehind bytes entry slot = (slot.from ≡ length bytes) × (slot.to ≡ length (bytes ++ entry))

-- the slot is read as the entry's row
row_behind : (bytes entry : List ℕ) (slot : Slot) → IsBehind bytes entry slot → slot_row (bytes ++ entry) slot ≡ decode entry
row_behind bytes entry slot (from, to) =
    rw (from, to, drop-append_seam bytes entry) (ap decode (take_all _ entry (omega (arith, length-append bytes entry))))

module _ (bytes entry : List ℕ) (slots : List Slot) (slot : Slot) (within : All (IsWithin (length bytes)) slots) (behind : IsBehind bytes entry slot) where
  -- appended to the slots, it adds the row
  pub row_pushed : map (slot_row (bytes ++ entry)) (slots ++ slot ∷ []) ≡ map (slot_row bytes) slots ++ decode entry ∷ []
  row_pushed = rw (map_push, rows_kept bytes entry slots within, row_behind bytes entry slot behind)

  -- inserted among the slots, it inserts the row
  pub row_spliced : (at cut : ℕ) → map (slot_row (bytes ++ entry)) (take at slots ++ slot ∷ drop (at + cut) slots) ≡ spliced at cut (decode entry ∷ []) (map (slot_row bytes) slots)
  row_spliced at cut =
      rw (rows_spliced (slot_row (bytes ++ entry)) at cut (slot ∷ []) slots, rows_kept bytes entry slots within, row_behind bytes entry slot behind)

  -- all slots are within the longer bytes
  pub within_spliced : (at cut : ℕ) → All (IsWithin (length (bytes ++ entry))) (take at slots ++ slot ∷ drop (at + cut) slots)
  within_spliced at cut =
      let P : Slot → Type 0 = IsWithin (length (bytes ++ entry)) in
      let longer = length-append bytes entry in
      let old = All-weaker (IsWithin (length bytes)) P (λ s inside. (omega arith, omega arith)) slots within in
      All-append P (take at slots) _ (All-take P at slots old) (All-cons P slot _ (omega arith, omega arith) (All-drop P (at + cut) slots old))
