-- Helps: what private contracts say of SQLite's numbers of rows. No contract of a public call uses it.
use Rattle.std.specs.Prelude.{ℤ, Bool, true, false, ◌&&◌, Option, Some, None, List, [], ◌∷◌, map, fold, IsPermutation, IsSorted}
use Rattle.std.specs.Ordering.{int_cmp, is_lt, on}
use Rattle.sqlite_value.specs.declared.value.Value.{Value}
use Rattle.sqlite_value.specs.declared.value.Value.TheVariants.{Int}
use Rattle.sqlite_value.specs.Order.{Row, value_cmp}
use Rattle.sqlite_trees.specs.Tree.{rowid}
use Rattle.escrow_cells.specs.declared.numbered.Numbers.{Numbers}

-- a number is above the last one, if there is one
abbrev pub is_above : Option ℤ → ℤ → Bool
is_above None n = true
is_above (Some last) n = is_lt (int_cmp last n)

-- one more value is added: all are whole numbers that rise, or not
abbrev pub with_number : Numbers → Value → Numbers
with_number numbers (Int n) = record { last = Some n; rise = numbers.rise && is_above numbers.last n }
with_number numbers _ = record numbers { rise = false }

-- the first values of rows are added, one after another
abbrev pub with_numbers : Numbers → List Row → Numbers
with_numbers = fold (λ numbers row. with_number numbers (rowid row))

-- the numbers of rows, in order
pub record AreIds (rows : List Row) (answer : List Row) : Type 0 where
  pub same_ids : IsPermutation (map (λ r. rowid r ∷ []) rows) answer
  pub in_order : IsSorted (on rowid value_cmp) answer
