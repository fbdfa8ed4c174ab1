-- SQLite's `=` on the values in cells.
use Rattle.std.proofs.Common.{◌≡◌, ℕ, ℤ, Bool, true, false, Some, List, refl, ap, ◌∙◌, arith, int_cmp, nat_cmp, Ordering}
use Rattle.std.specs.Prelude.{bytes_eq}
use Rattle.std.specs.Ordering.{is_eq, int_eq}
use Rattle.std.specs.Cmp.Lexicographic.{slice_cmp}
use Rattle.std.proofs.lemmas.Map.Text.{is_eq-slice_cmp}
use Rattle.sqlite_value.specs.declared.value.Value.TheVariants as sql
use Rattle.sqlite_value.proofs.OrderLemmas.{value_cmp-Int, value_cmp-Text, value_cmp-apart}
use Rattle.sqlite.specs.Ops.{binary, is_true, from_truth}
use Rattle.escrow_num.specs.declared.value.Value.{Value}
use Rattle.escrow_num.specs.declared.value.Value.TheVariants.{Number, Text}
use Rattle.escrow_num.specs.Order.{value_eq}
use Rattle.escrow_cells.specs.Step.{same}
use Rattle.escrow_rows.specs.Image.{stored}

-- an SQL test, if neither side is NULL
abbrev told : Ordering → Bool
told o = is_true (from_truth (Some (is_eq o)))

told_is : (b : Bool) → is_true (from_truth (Some b)) ≡ b
told_is true = refl
told_is false = refl

-- SQLite's `=` on numbers is equality, and so it is on texts
pub same_numbers : (a b : ℤ) → same (sql.Int a) (sql.Int b) ≡ int_eq a b
unfolding binary
same_numbers a b = ap told (value_cmp-Int a b) ∙ told_is (is_eq (int_cmp a b))

pub same_texts : (s t : List ℕ) → same (sql.Text s) (sql.Text t) ≡ bytes_eq s t
unfolding binary
same_texts s t = ap told (value_cmp-Text s t) ∙ told_is (is_eq (slice_cmp nat_cmp s t)) ∙ is_eq-slice_cmp s t

-- SQLite's `=` on stored values is equality of the values
pub same_stored : (a b : Value) → same (stored a) (stored b) ≡ value_eq a b
unfolding binary
same_stored (Number a) (Number b) = same_numbers a b
same_stored (Number a) (Text b) = ap told (value_cmp-apart (sql.Int a) (sql.Text b) (λ e. omega arith))
same_stored (Text a) (Number b) = ap told (value_cmp-apart (sql.Text a) (sql.Int b) (λ e. omega arith))
same_stored (Text a) (Text b) = same_texts a b
