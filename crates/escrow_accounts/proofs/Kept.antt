-- The amounts of rows after a row is inserted, rows go, or plain values are replaced.
use Rattle.std.specs.Prelude.{◌≡◌, ℕ, ℤ, ◌+ℤ◌, pos, neg_ℤ, Bool, true, false, cond, not, Option, List, [], ◌∷◌, map, filter}
use Rattle.std.specs.Ordering.{is_lt}
use Rattle.std.proofs.Common.{refl, ap, arith}
use Rattle.std.proofs.lemmas.Bool.{cond_both}
use Rattle.std.proofs.lemmas.Int.{ints}
use Rattle.escrow_num.specs.declared.row.Row.{Row}
use Rattle.escrow_num.specs.declared.value.RowName.{RowName}
use Rattle.escrow_num.specs.declared.value.Value.{Value}
use Rattle.escrow_num.specs.Order.{same_row, row_cmp}
use Rattle.escrow_schema.specs.Rows.{with_row, replaced, with_plain}
use Rattle.escrow_accounts.specs.Book.{Move, put, taken, amount_at, total, worth, balance}

-- INSERT

last_one : (w : ℤ) → w +ℤ pos 0 ≡ pos 0 +ℤ (w +ℤ pos 0)
last_one w = omega (arith, ints)

in_front : (w a t : ℤ) → w +ℤ (a +ℤ t) ≡ (a +ℤ t) +ℤ (w +ℤ pos 0)
in_front w a t = omega (arith, ints)

behind : (w a t u : ℤ) → u ≡ t +ℤ (w +ℤ pos 0) → a +ℤ u ≡ (a +ℤ t) +ℤ (w +ℤ pos 0)
behind w a t u e = omega (arith, ints)

pub with_row_total : (chosen : RowName → Bool) (column : ℕ) (row : Row) (rows : List Row)
    → total chosen column (with_row row rows) ≡ total chosen column rows +ℤ balance chosen column (put row ∷ [])
with_row_total chosen column row [] = last_one (worth chosen column (put row))
with_row_total chosen column row (other ∷ rest) =
    let w : ℤ = worth chosen column (put row) in
    let a : ℤ = worth chosen column (put other) in
    let t : ℤ = total chosen column rest in
    cond_both (is_lt (row_cmp row.name other.name)) (row ∷ other ∷ rest) (other ∷ with_row row rest)
    (λ zs. total chosen column zs ≡ total chosen column (other ∷ rest) +ℤ balance chosen column (put row ∷ []))
    (λ _. in_front w a t) (λ _. behind w a t (total chosen column (with_row row rest)) (with_row_total chosen column row rest))

-- ROWS THAT GO

one_gone : (b : Bool) (a t u n : ℤ) → u ≡ t +ℤ n → u ≡ (cond b a (pos 0) +ℤ t) +ℤ (cond b (neg_ℤ a) (pos 0) +ℤ n)
one_gone true a t u n e = omega (arith, ints)
one_gone false a t u n e = omega (arith, ints)

one_kept : (a t u n : ℤ) → u ≡ t +ℤ n → a +ℤ u ≡ (a +ℤ t) +ℤ n
one_kept a t u n e = omega (arith, ints)

gone_step : (chosen : RowName → Bool) (column : ℕ) (row : Row) (b : Bool) (rows kept gone : List Row)
    → total chosen column kept ≡ total chosen column rows +ℤ balance chosen column (map taken gone)
    → total chosen column (cond (not b) (row ∷ kept) kept) ≡ total chosen column (row ∷ rows) +ℤ balance chosen column (map taken (cond b (row ∷ gone) gone))
gone_step chosen column row true rows kept gone e =
    one_gone (chosen row.name) (amount_at column row) (total chosen column rows) (total chosen column kept) (balance chosen column (map taken gone)) e
gone_step chosen column row false rows kept gone e =
    one_kept (worth chosen column (put row)) (total chosen column rows) (total chosen column kept) (balance chosen column (map taken gone)) e

pub gone_total : (chosen : RowName → Bool) (column : ℕ) (p : Row → Bool) (rows : List Row)
    → total chosen column (filter (λ row. not (p row)) rows) ≡ total chosen column rows +ℤ balance chosen column (map taken (filter p rows))
gone_total chosen column p [] = refl
gone_total chosen column p (row ∷ rows) =
    gone_step chosen column row (p row) rows (filter (λ x. not (p x)) rows) (filter p rows) (gone_total chosen column p rows)

-- PLAIN VALUES

plain_step : (chosen : RowName → Bool) (column : ℕ) (row : Row) (plain : List Value) (b : Bool) (t u : ℤ) → u ≡ t
    → (let new : Row = cond b (record row { plain = plain }) row in worth chosen column (put new) +ℤ u) ≡ worth chosen column (put row) +ℤ t
plain_step chosen column row plain true t u e = ap (λ (z : ℤ). worth chosen column (put row) +ℤ z) e
plain_step chosen column row plain false t u e = ap (λ (z : ℤ). worth chosen column (put row) +ℤ z) e

pub plain_total : (chosen : RowName → Bool) (column : ℕ) (name : RowName) (values : List (Option Value)) (rows : List Row)
    → total chosen column (with_plain name values rows) ≡ total chosen column rows
plain_total chosen column name values [] = refl
plain_total chosen column name values (row ∷ rows) =
    plain_step chosen column row (replaced values row.plain) (same_row row.name name) (total chosen column rows) (total chosen column (with_plain name values rows))
    (plain_total chosen column name values rows)
