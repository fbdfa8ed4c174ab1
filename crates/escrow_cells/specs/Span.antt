-- Believed: what calls read from a part of a row, or of each row of a table.
use Rattle.std.specs.Prelude.{ℤ, Bool, ◌&&◌, List, [], ◌∷◌, map, filter, IsPermutation, IsSorted}
use Rattle.std.specs.Ordering.{on, then_cmp}
use Rattle.sqlite_value.specs.declared.value.Value.{Value}
use Rattle.sqlite_value.specs.declared.value.Value.TheVariants.{Int}
use Rattle.sqlite_value.specs.declared.keys.Collation.TheVariants.{Binary}
use Rattle.sqlite_value.specs.Order.{Row, column, value_cmp}
use Rattle.sqlite_sql.specs.declared.ops.BinaryOp.TheVariants.{Compare}
use Rattle.sqlite_sql.specs.declared.ops.CompareOp.TheVariants.{Ge, Le}
use Rattle.sqlite_sql.specs.Ops.{binary, is_true}
use Rattle.escrow_cells.specs.Step.{is_in, is_of}

-- SQLite's comparisons say that a place is not before a first one, and not after a last one
abbrev pub is_from : ℤ → Value → Bool
is_from first place = is_true (binary (Compare Ge Binary) place (Int first))

abbrev pub is_up_to : ℤ → Value → Bool
is_up_to last place = is_true (binary (Compare Le Binary) place (Int last))

abbrev pub is_within : ℤ → ℤ → Value → Bool
is_within first last place = is_from first place && is_up_to last place

-- the cells of the row of a key from one place to another, each with its place and its value, in order of place
pub record AreOfSpan (first last : ℤ) (table key : Value) (cells : List Row) (answer : List Row) : Type 0 where
  pub same_cells : IsPermutation
      (filter (λ r. is_within first last (column r 0))
      (map (λ c. column c 2 ∷ column c 3 ∷ []) (filter (is_of table key) cells))) answer
  pub in_order : IsSorted (on (λ r. column r 0) value_cmp) answer

-- the cells of a table from one place to another, each with its key, its place and its value, in order of key and place
pub record AreOfSpans (first last : ℤ) (table : Value) (cells : List Row) (answer : List Row) : Type 0 where
  pub same_cells : IsPermutation
      (filter (λ r. is_within first last (column r 1))
      (map (λ c. column c 1 ∷ column c 2 ∷ column c 3 ∷ []) (filter (is_in table) cells))) answer
  pub in_order : IsSorted (then_cmp (on (λ r. column r 0) value_cmp) (on (λ r. column r 1) value_cmp)) answer
