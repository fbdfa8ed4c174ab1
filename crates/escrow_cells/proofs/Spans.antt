-- SQLite's test of whether a place is in a span.
use Rattle.std.proofs.Common.{◌≡◌, ◌<◌, ◌≤◌, ◌<ℤ◌, ℕ, pos, Bool, true, false, Ordering, Less, Equal, Greater, Some, sym, ap, ◌∙◌, inl, inr, arith}
use Rattle.std.specs.Ordering.{MatchOrdering}
use Rattle.std.specs.Cmp.{int_cmp_is}
use Rattle.std.proofs.Math.Nat.{eq-or-lt_of_le}
use Rattle.std.proofs.lemmas.Int.{ints}
use Rattle.sqlite_value.specs.declared.value.Value.TheVariants.{Int}
use Rattle.sqlite_value.specs.declared.keys.Collation.TheVariants.{Binary}
use Rattle.sqlite_value.proofs.OrderLemmas.{value_cmp-Int}
use Rattle.sqlite_sql.specs.declared.ops.BinaryOp.TheVariants.{Compare}
use Rattle.sqlite_sql.specs.declared.ops.CompareOp.{CompareOp}
use Rattle.sqlite_sql.specs.declared.ops.CompareOp.TheVariants.{Ge, Le}
use Rattle.sqlite_sql.specs.Ops.{binary, is_true, from_truth, test}
use Rattle.escrow_cells.specs.Span.{is_from, is_up_to}

-- a comparison of two places in SQL
abbrev told : CompareOp → Ordering → Bool
told op o = is_true (from_truth (Some (test op o)))

compared : (op : CompareOp) (m n : ℕ) (o : Ordering) → MatchOrdering o (pos m <ℤ pos n) (pos m ≡ pos n) (pos n <ℤ pos m) → is_true (binary (Compare op Binary) (Int (pos m)) (Int (pos n))) ≡ told op o
unfolding binary
compared op m n o is = ap (told op) (value_cmp-Int (pos m) (pos n) ∙ sym (int_cmp_is (pos m) (pos n) o is))

pub from_first : (first n : ℕ) → first ≤ n → is_from (pos first) (Int (pos n)) ≡ true
from_first first n h = elim (eq-or-lt_of_le h) [ inl e ↦ compared Ge n first Equal (omega (arith, ints)) | inr l ↦ compared Ge n first Greater (omega (arith, ints)) ]

pub up_to_last : (n last : ℕ) → n ≤ last → is_up_to (pos last) (Int (pos n)) ≡ true
up_to_last n last h = elim (eq-or-lt_of_le h) [ inl e ↦ compared Le n last Equal (omega (arith, ints)) | inr l ↦ compared Le n last Less (omega (arith, ints)) ]

pub before_first : (n first : ℕ) → n < first → is_from (pos first) (Int (pos n)) ≡ false
before_first n first h = compared Ge n first Less (omega (arith, ints))

pub behind_last : (n last : ℕ) → last < n → is_up_to (pos last) (Int (pos n)) ≡ false
behind_last n last h = compared Le n last Greater (omega (arith, ints))
