-- New values, column by column.
use Rattle.std.proofs.Common.{◌≡◌, ℕ, ℤ, true, false, suc, ◌+◌, ◌==◌, Option, Some, None, List, [], ◌∷◌, ◌++◌, map, take, drop, length, refl, ap, inl, inr, arith}
use Rattle.std.proofs.lemmas.Bool.{cases_Bool}
use Rattle.std.specs.Prelude.{option_map}
use Rattle.escrow_num.specs.declared.value.Value.{Value}
use Rattle.escrow_num.specs.declared.value.Value.TheVariants as value
use Rattle.escrow_schema.specs.declared.column.Column.{Column}
use Rattle.escrow_schema.specs.Column.{reservables}
use Rattle.escrow_schema.specs.Fit.{plains, values_from}
use Rattle.escrow_schema.specs.Rows.{replaced}
use Rattle.escrow_rows.specs.Inside.{new_plain, new_amounts, first_new}

-- a non-empty list, by its first item and the rest
by_head : {A : Type 0} (P : List A → Type 0) (xs : List A) (n : ℕ) → length xs ≡ suc n → ((x : A) (rest : List A) → length rest ≡ n → P (x ∷ rest)) → P xs
by_head P [] n e h = absurd (omega arith)
by_head P (x ∷ rest) n e h = h x rest (omega arith)

-- induction over the columns of a row with its amounts and plain values: the first column is RESERVABLE, the key or a
-- plain one
by_columns : (at : ℕ) (P : List Column → ℕ → List ℤ → List Value → Type 0) → ((place : ℕ) (amounts : List ℤ) (plain : List Value) → P [] place amounts plain)
    → ((column : Column) (columns : List Column) (place : ℕ) (a : ℤ) (amounts : List ℤ) (plain : List Value) → column.reservable ≡ true → P columns (place + 1) amounts plain → P (column ∷ columns) place (a ∷ amounts) plain)
    → ((column : Column) (columns : List Column) (place : ℕ) (amounts : List ℤ) (plain : List Value) → column.reservable ≡ false → (place == at) ≡ true → P columns (place + 1) amounts plain → P (column ∷ columns) place amounts plain)
    → ((column : Column) (columns : List Column) (place : ℕ) (amounts : List ℤ) (p : Value) (plain : List Value) → column.reservable ≡ false → (place == at) ≡ false → P columns (place + 1) amounts plain → P (column ∷ columns) place amounts (p ∷ plain))
    → (columns : List Column) (place : ℕ) (amounts : List ℤ) (plain : List Value) → length amounts ≡ length (reservables columns) → length plain ≡ length (plains columns place at) → P columns place amounts plain
by_columns at P none amount key other [] place amounts plain many enough = none place amounts plain
by_columns at P none amount key other (column ∷ columns) place amounts plain many enough =
    elim (cases_Bool column.reservable) [
      | inl r ↦ (let more : length amounts ≡ suc (length (reservables columns)) = rw r at many in
          let same : length plain ≡ length (plains columns (place + 1) at) = rw r at enough in
          by_head (λ (rest : List ℤ). P (column ∷ columns) place rest plain) amounts (length (reservables columns)) more
          (λ a rest left. amount column columns place a rest plain r (by_columns at P none amount key other columns (place + 1) rest plain left same)))
      | inr r ↦ (let left : length amounts ≡ length (reservables columns) = rw r at many in
          elim (cases_Bool (place == at)) [
            | inl here ↦ (let same : length plain ≡ length (plains columns (place + 1) at) = rw (r, here) at enough in
                key column columns place amounts plain r here (by_columns at P none amount key other columns (place + 1) amounts plain left same))
            | inr there ↦ (let more : length plain ≡ suc (length (plains columns (place + 1) at)) = rw (r, there) at enough in
                by_head (λ (ps : List Value). P (column ∷ columns) place amounts ps) plain (length (plains columns (place + 1) at)) more
                (λ p ps same. other column columns place amounts p ps r there (by_columns at P none amount key other columns (place + 1) amounts ps left same)))
          ])
    ]

-- replacing a row's plain values replaces each value by that of its column
pub plain_replaced : (columns : List Column) (place at : ℕ) (key : Value) (amounts : List ℤ) (plain : List Value) (news : List (Option Value))
    → length amounts ≡ length (reservables columns) → length plain ≡ length (plains columns place at)
    → values_from columns place at key amounts (replaced news plain) ≡ replaced (new_plain columns place at news) (values_from columns place at key amounts plain)
plain_replaced columns place at key amounts plain news many enough =
    by_columns at (λ (cs : List Column) (n : ℕ) (given : List ℤ) (ps : List Value). (news : List (Option Value)) → values_from cs n at key given (replaced news ps) ≡ replaced (new_plain cs n at news) (values_from cs n at key given ps))
    (λ _ _ _ _. refl)
    (λ column columns place a amounts plain r h news. rw r (ap (λ (vs : List Value). value.Number a ∷ vs) (h news)))
    (λ column columns place amounts plain r here h news. rw (r, here) (ap (λ (vs : List Value). key ∷ vs) (h news)))
    (λ column columns place amounts p plain r there h news. rw (r, there) (first_plain column columns place at key amounts p plain news h))
    columns place amounts plain many enough news
  where
    first_plain : (column : Column) (columns : List Column) (place at : ℕ) (key : Value) (amounts : List ℤ) (p : Value) (ps : List Value) (news : List (Option Value))
        → ((others : List (Option Value)) → values_from columns (place + 1) at key amounts (replaced others ps) ≡ replaced (new_plain columns (place + 1) at others) (values_from columns (place + 1) at key amounts ps))
        → take 1 (replaced news (p ∷ ps)) ++ values_from columns (place + 1) at key amounts (drop 1 (replaced news (p ∷ ps)))
        ≡ replaced (first_new news ∷ new_plain columns (place + 1) at (drop 1 news)) (p ∷ values_from columns (place + 1) at key amounts ps)
    first_plain column columns place at key amounts p ps [] h = ap (λ (vs : List Value). p ∷ vs) (h [])
    first_plain column columns place at key amounts p ps (None ∷ news) h = ap (λ (vs : List Value). p ∷ vs) (h news)
    first_plain column columns place at key amounts p ps (Some v ∷ news) h = ap (λ (vs : List Value). v ∷ vs) (h news)

-- replacing a row's amounts replaces each value by that of its column
pub amounts_replaced : (columns : List Column) (place at : ℕ) (key : Value) (amounts : List ℤ) (plain : List Value) (news : List (Option ℤ))
    → length amounts ≡ length (reservables columns) → length plain ≡ length (plains columns place at)
    → values_from columns place at key (replaced news amounts) plain ≡ replaced (new_amounts columns news) (values_from columns place at key amounts plain)
amounts_replaced columns place at key amounts plain news many enough =
    by_columns at (λ (cs : List Column) (n : ℕ) (given : List ℤ) (ps : List Value). (news : List (Option ℤ)) → values_from cs n at key (replaced news given) ps ≡ replaced (new_amounts cs news) (values_from cs n at key given ps))
    (λ _ _ _ _. refl)
    (λ column columns place a amounts plain r h news. rw r (first_amount columns place at key a amounts plain news h))
    (λ column columns place amounts plain r here h news. rw (r, here) (ap (λ (vs : List Value). key ∷ vs) (h news)))
    (λ column columns place amounts p plain r there h news. rw (r, there) (ap (λ (vs : List Value). p ∷ vs) (h news)))
    columns place amounts plain many enough news
  where
    first_amount : (columns : List Column) (place at : ℕ) (key : Value) (a : ℤ) (rest : List ℤ) (plain : List Value) (news : List (Option ℤ))
        → ((others : List (Option ℤ)) → values_from columns (place + 1) at key (replaced others rest) plain ≡ replaced (new_amounts columns others) (values_from columns (place + 1) at key rest plain))
        → map value.Number (take 1 (replaced news (a ∷ rest))) ++ values_from columns (place + 1) at key (drop 1 (replaced news (a ∷ rest))) plain
        ≡ replaced (option_map value.Number (first_new news) ∷ new_amounts columns (drop 1 news)) (value.Number a ∷ values_from columns (place + 1) at key rest plain)
    first_amount columns place at key a rest plain [] h = ap (λ (vs : List Value). value.Number a ∷ vs) (h [])
    first_amount columns place at key a rest plain (None ∷ news) h = ap (λ (vs : List Value). value.Number a ∷ vs) (h news)
    first_amount columns place at key a rest plain (Some n ∷ news) h = ap (λ (vs : List Value). value.Number n ∷ vs) (h news)

-- replacing items keeps their number
pub length_replaced : {A : Type 0} (news : List (Option A)) (xs : List A) → length (replaced news xs) ≡ length xs
length_replaced [] xs = refl
length_replaced (new ∷ news) [] = refl
length_replaced (new ∷ news) (x ∷ xs) = ap suc (length_replaced news xs)
