-- The values of a row.
use Rattle.std.proofs.Common.{◌≡◌, ℕ, ℤ, zero, suc, ◌+◌, ◌==◌, ◌||◌, ◌∙◌, true, false, Some, List, [], ◌∷◌, ◌++◌, map, take, drop, sym, ap, ap₂, subst, refl, arith, inl, inr}
use Rattle.std.specs.Prelude.{IsSomeAnd, IsTrue, slice_get}
use Rattle.std.specs.List.{AllByRecursion}
use Rattle.std.proofs.lemmas.Bool.{cases_Bool, eqb-true, false≢true}
use Rattle.std.proofs.lemmas.Option.{none-some, same_Some}
use Rattle.escrow_num.specs.declared.row.Row.{Row}
use Rattle.escrow_num.specs.declared.value.Value.{Value}
use Rattle.escrow_num.specs.declared.value.Value.TheVariants as value
use Rattle.escrow_statement.specs.declared.statement.Literal.{Literal}
use Rattle.escrow_schema.specs.declared.column.Column.{Column}
use Rattle.escrow_schema.specs.declared.column.ColumnType.{ColumnType}
use Rattle.escrow_schema.specs.declared.table.TableDef.{TableDef}
use Rattle.escrow_schema.specs.declared.column.ColumnType.TheVariants.{Number, Varchar2}
use Rattle.escrow_schema.specs.Column.{fits, is_numeric, reservables, value_in}
use Rattle.escrow_schema.specs.Fit.{FitColumns, plains, values_in, number_in, amounts_of, plain_of, values_from, values_of}
use Rattle.escrow_schema.proofs.FitLemmas.{values_split}
use Rattle.escrow_schema.proofs.KeyValues.{value_in_fits}

-- a value that fits a type of numbers is a number
number_value : (kind : ColumnType) (v : Value) → is_numeric kind ≡ true → fits kind v ≡ true → value.Number (number_in v) ≡ v
number_value kind (value.Number z) numeric e = refl
number_value (Number digits scale) (value.Text t) numeric e = absurd (false≢true e)
number_value (Varchar2 bytes) (value.Text t) numeric e = absurd (false≢true numeric)

-- the values of literals fit their columns
pub fit_values : (columns : List Column) (literals : List Literal) (values : List Value) → values_in columns literals ≡ Some values → FitColumns columns values
fit_values [] [] values e = subst (FitColumns []) (same_Some [] values e) tt
fit_values [] (l ∷ literals) values e = absurd (none-some values e)
fit_values (column ∷ columns) [] values e = absurd (none-some values e)
fit_values (column ∷ columns) (l ∷ literals) values e =
    values_split column columns l literals values e
    (λ v rest one others whole. subst (FitColumns (column ∷ columns)) whole (value_in_fits column.kind l v one, fit_values columns literals rest others))

-- each RESERVABLE column holds numbers
abbrev pub NumericColumns : List Column → Type 0
NumericColumns columns = AllByRecursion (λ column. is_numeric column.kind ≡ true) (reservables columns)

-- the key among values, the first of which has the index `place`
abbrev pub HasKey : List Value → ℕ → ℕ → Value → Type 0
HasKey values place at key = (i : ℕ) → at ≡ place + i → slice_get values i ≡ Some key

key_after : (v : Value) (values : List Value) (place at : ℕ) (key : Value) → HasKey (v ∷ values) place at key → HasKey values (place + 1) at key
key_after v values place at key h i e = h (suc i) (omega arith)

key_here : (v : Value) (values : List Value) (place at : ℕ) (key : Value) → HasKey (v ∷ values) place at key → (place == at) ≡ true → v ≡ key
key_here v values place at key h e = same_Some v key (h 0 (let same = eqb-true place at e in omega arith))

-- the key of values from the first on
pub key_at : (values : List Value) (at : ℕ) (key : Value) → slice_get values at ≡ Some key → HasKey values 0 at key
key_at values at key found i e = let same : at ≡ i = omega arith in subst (λ n. slice_get values n ≡ Some key) same found

-- the RESERVABLE columns with one more column
reservable_more : (column : Column) (columns : List Column) → column.reservable ≡ true → reservables (column ∷ columns) ≡ column ∷ reservables columns
reservable_more column columns r = rw r refl

reservable_same : (column : Column) (columns : List Column) → column.reservable ≡ false → reservables (column ∷ columns) ≡ reservables columns
reservable_same column columns r = rw r refl

-- fitting values are rebuilt from their amounts, key and plain values
values_back : (columns : List Column) (values : List Value) (place at : ℕ) (key : Value)
    → NumericColumns columns → FitColumns columns values → HasKey values place at key
    → values ≡ values_from columns place at key (amounts_of columns values) (plain_of columns values place at)
values_back [] [] place at key numeric fit h = refl
values_back [] (v ∷ values) place at key numeric fit h = absurd fit
values_back (column ∷ columns) [] place at key numeric fit h = absurd fit
values_back (column ∷ columns) (v ∷ values) place at key numeric fit h =
    let later = key_after v values place at key h in
    elim (cases_Bool column.reservable) [
      | inl r ↦ (let all = subst (AllByRecursion (λ c. is_numeric c.kind ≡ true)) (reservable_more column columns r) numeric in
          rw r (ap₂ (λ (x : Value) (vs : List Value). x ∷ vs) (sym (number_value column.kind v all.0 fit.0)) (values_back columns values (place + 1) at key all.1 fit.1 later)))
      | inr r ↦ (let all : NumericColumns columns = subst (AllByRecursion (λ c. is_numeric c.kind ≡ true)) (reservable_same column columns r) numeric in
          let back = values_back columns values (place + 1) at key all fit.1 later in
          elim (cases_Bool (place == at)) [
            | inl here ↦ rw (r, here) (ap₂ (λ (x : Value) (vs : List Value). x ∷ vs) (key_here v values place at key h here) back)
            | inr there ↦ rw (r, there) (ap (λ vs. v ∷ vs) back)
          ])
    ]

-- the plain values of fitting values fit the plain columns
pub plain_fits : (columns : List Column) (values : List Value) (place at : ℕ) → FitColumns columns values → FitColumns (plains columns place at) (plain_of columns values place at)
plain_fits [] [] place at fit = tt
plain_fits [] (v ∷ values) place at fit = absurd fit
plain_fits (column ∷ columns) [] place at fit = absurd fit
plain_fits (column ∷ columns) (v ∷ values) place at fit =
    let rest = plain_fits columns values (place + 1) at fit.1 in
    elim (cases_Bool (column.reservable || place == at)) [ inl t ↦ rw t rest | inr f ↦ rw f (fit.0, rest) ]

-- the value at an index fits the column at that index
pub fit_at : (columns : List Column) (values : List Value) (i : ℕ) (v : Value) → FitColumns columns values → slice_get values i ≡ Some v
    → IsSomeAnd (slice_get columns i) (λ column. IsTrue (fits column.kind v))
fit_at [] [] i v fit e = absurd (none-some v e)
fit_at [] (w ∷ values) i v fit e = absurd fit
fit_at (column ∷ columns) [] i v fit e = absurd fit
fit_at (column ∷ columns) (w ∷ values) zero v fit e = subst (λ x. fits column.kind x ≡ true) (same_Some w v e) fit.0
fit_at (column ∷ columns) (w ∷ values) (suc i) v fit e = fit_at columns values i v fit.1 e

-- a key fits the column at its index, where the first column has the index `place`
abbrev pub KeyFits : List Column → ℕ → ℕ → Value → Type 0
KeyFits columns place at key = (i : ℕ) (column : Column) → at ≡ place + i → slice_get columns i ≡ Some column → fits column.kind key ≡ true

-- fitting numbers, key and plain values make fitting values
pub values_from_fit : (columns : List Column) (place at : ℕ) (key : Value) (numbers : List ℤ) (plain : List Value)
    → KeyFits columns place at key → FitColumns (reservables columns) (map value.Number numbers) → FitColumns (plains columns place at) plain
    → FitColumns columns (values_from columns place at key numbers plain)
values_from_fit [] place at key numbers plain h fit others = tt
values_from_fit (column ∷ columns) place at key numbers plain h fit others =
    let later : KeyFits columns (place + 1) at key = λ i c e found. h (suc i) c (omega arith) found in
    elim (cases_Bool column.reservable) [
      | inl r ↦ (let left : FitColumns (plains columns (place + 1) at) plain = rw r at others in
          rw r (amount_fits column columns plain place at key numbers
          (subst (λ cs. FitColumns cs (map value.Number numbers)) (reservable_more column columns r) fit)
          (λ more all. values_from_fit columns (place + 1) at key more plain later all left)))
      | inr r ↦ (let all = subst (λ cs. FitColumns cs (map value.Number numbers)) (reservable_same column columns r) fit in
          elim (cases_Bool (place == at)) [
            | inl here ↦ (let left : FitColumns (plains columns (place + 1) at) plain = rw (r, here) at others in
                let same = eqb-true place at here in
                rw (r, here) (h 0 column (omega arith) refl, values_from_fit columns (place + 1) at key numbers plain later all left))
            | inr there ↦ (let left : FitColumns (column ∷ plains columns (place + 1) at) plain = rw (r, there) at others in
                rw (r, there) (plain_value column columns plain place at key numbers left
                (λ more fine. values_from_fit columns (place + 1) at key numbers more later all fine)))
          ])
    ]
  where
    amount_fits : (column : Column) (columns : List Column) (plain : List Value) (place at : ℕ) (key : Value) (numbers : List ℤ)
        → FitColumns (column ∷ reservables columns) (map value.Number numbers)
        → ((more : List ℤ) → FitColumns (reservables columns) (map value.Number more) → FitColumns columns (values_from columns (place + 1) at key more plain))
        → FitColumns (column ∷ columns) (map value.Number (take 1 numbers) ++ values_from columns (place + 1) at key (drop 1 numbers) plain)
    amount_fits column columns plain place at key [] fit all = absurd fit
    amount_fits column columns plain place at key (a ∷ more) fit all = (fit.0, all more fit.1)

    plain_value : (column : Column) (columns : List Column) (plain : List Value) (place at : ℕ) (key : Value) (numbers : List ℤ)
        → FitColumns (column ∷ plains columns (place + 1) at) plain
        → ((more : List Value) → FitColumns (plains columns (place + 1) at) more → FitColumns columns (values_from columns (place + 1) at key numbers more))
        → FitColumns (column ∷ columns) (take 1 plain ++ values_from columns (place + 1) at key numbers (drop 1 plain))
    plain_value column columns [] place at key numbers fit all = absurd fit
    plain_value column columns (v ∷ more) place at key numbers fit all = (fit.0, all more fit.1)

-- the values of a row are those that it is made from
pub made_values : (table : TableDef) (values : List Value) (key : Value) (row : Row)
    → NumericColumns table.columns → FitColumns table.columns values → slice_get values table.key ≡ Some key
    → record { name = record { table = table.name; key = key }; amounts = amounts_of table.columns values; plain = plain_of table.columns values 0 table.key } ≡ row
    → values ≡ values_of table row
made_values table values key row numeric fit found made =
    subst (λ r. values ≡ values_of table r) made
    (values_back table.columns values 0 table.key key numeric fit (key_at values table.key key found))

-- the value at an index is that of the literal there, for the column there
pub literal_at : (columns : List Column) (literals : List Literal) (values : List Value) (i : ℕ) (column : Column) (l : Literal) → values_in columns literals ≡ Some values
    → slice_get columns i ≡ Some column → slice_get literals i ≡ Some l → slice_get values i ≡ value_in column.kind l
literal_at [] literals values i column l e there at = absurd (none-some column there)
literal_at (first ∷ columns) [] values i column l e there at = absurd (none-some l at)
literal_at (first ∷ columns) (k ∷ literals) values zero column l e there at =
    values_split first columns k literals values e
    (λ v rest one others whole. subst (λ vs. slice_get vs 0 ≡ value_in column.kind l) whole
    (sym one ∙ ap₂ (λ (c : Column) (x : Literal). value_in c.kind x) (same_Some first column there) (same_Some k l at)))
literal_at (first ∷ columns) (k ∷ literals) values (suc i) column l e there at =
    values_split first columns k literals values e
    (λ v rest one others whole. subst (λ vs. slice_get vs (suc i) ≡ value_in column.kind l) whole (literal_at columns literals rest i column l others there at))
