-- What SHOW JOURNAL shows, reservation by reservation.
use Rattle.std.proofs.Common.{◌≡◌, ◌⊎◌, inl, inr, arith, ℕ, ◌+◌, ◌<◌, ℤ, Option, Some, None, List, [], ◌∷◌, ◌++◌, length, take, get_or, refl, bytes_eq}
use Rattle.std.specs.Prelude.{map}
use Rattle.std.proofs.lemmas.List.{map-append, take_more}
use Rattle.std.proofs.lemmas.List.Elements.{filter-append}
use Rattle.escrow_num.specs.declared.reservation.Reservation.{Reservation}
use Rattle.escrow_schema.specs.declared.column.Column.{Column}
use Rattle.escrow_schema.specs.declared.table.TableDef.{TableDef}
use Rattle.escrow_machine.specs.Journal.{entry_of, of_table, named_changes}

of_table_append : (table : Option (List ℕ)) (xs ys : List Reservation) → of_table table (xs ++ ys) ≡ of_table table xs ++ of_table table ys
of_table_append None xs ys = refl
of_table_append (Some name) xs ys = filter-append (λ (r : Reservation). bytes_eq r.row.table name) xs ys

-- one more reservation, if it is shown
pub entries_more : (catalog : List TableDef) (table : Option (List ℕ)) (reservations : List Reservation) (i : ℕ) (r : Reservation) → i < length reservations → r ≡ get_or reservations i r
    → map (entry_of catalog) (of_table table (take (i + 1) reservations)) ≡ map (entry_of catalog) (of_table table (take i reservations)) ++ map (entry_of catalog) (of_table table (r ∷ []))
entries_more catalog table reservations i r below at =
    rw (take_more reservations i r below, ← at, of_table_append table (take i reservations) (r ∷ []))
    (map-append (entry_of catalog) (of_table table (take i reservations)) (of_table table (r ∷ [])))

-- no changes remain after one of the two lists has ended
pub named_end : (columns : List Column) (changes : List (Option ℤ)) → (length columns ≡ 0) ⊎ (length changes ≡ 0) → named_changes columns changes ≡ []
named_end [] changes end = refl
named_end (column ∷ columns) [] end = refl
named_end (column ∷ columns) (change ∷ changes) (inl none) = absurd (omega arith)
named_end (column ∷ columns) (change ∷ changes) (inr none) = absurd (omega arith)
