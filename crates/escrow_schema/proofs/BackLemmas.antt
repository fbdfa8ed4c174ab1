-- A row and its values, each made from the other.
use Rattle.std.proofs.Common.{◌≡◌, ℕ, ℤ, zero, suc, ◌+◌, ◌==◌, ◌||◌, ◌∙◌, true, false, Some, List, [], ◌∷◌, length, sym, ap, subst, refl, arith, inl, inr}
use Rattle.std.specs.Prelude.{slice_get}
use Rattle.std.proofs.lemmas.Bool.{cases_Bool, eqb-true, eqb-false, false≢true}
use Rattle.std.proofs.lemmas.Slice.Zip.{AllZip-long}
use Rattle.escrow_num.specs.declared.row.Row.{Row}
use Rattle.escrow_num.specs.declared.value.Value.{Value}
use Rattle.escrow_num.specs.declared.value.Value.TheVariants as value
use Rattle.escrow_schema.specs.declared.column.Column.{Column}
use Rattle.escrow_schema.specs.declared.table.TableDef.{TableDef}
use Rattle.escrow_schema.specs.Column.{fits, reservables}
use Rattle.escrow_schema.specs.Definition.{IsTable, is_plain_at}
use Rattle.escrow_schema.specs.Fit.{FitColumns, IsRowOf, plains, amounts_of, plain_of, row_with, values_from, values_of}
use Rattle.escrow_schema.proofs.FitLemmas.{as_many_amounts}
use Rattle.escrow_schema.proofs.ListLemmas.{mapped_some}
use Rattle.escrow_schema.proofs.LawLemmas.{numeric_columns}
use Rattle.escrow_schema.proofs.RowLemmas.{fit_at, made_values, plain_fits}
use Rattle.escrow_schema.proofs.RuleLemmas.{rules_of}

-- there are as many values as columns that they fit
pub as_many_fit : (columns : List Column) (values : List Value) → FitColumns columns values → length columns ≡ length values
as_many_fit columns values fit = sym (AllZip-long (λ (column : Column) (v : Value). fits column.kind v ≡ true) columns values fit)

-- fitting values make a row of the table
pub fit_row_of : (table : TableDef) (values : List Value) (row : Row) → FitColumns table.columns values → row_with table values ≡ Some row → IsRowOf table row
fit_row_of table values row fit e =
    mapped_some (λ key. record { name = record { table = table.name; key = key }; amounts = amounts_of table.columns values; plain = plain_of table.columns values 0 table.key }) (slice_get values table.key) row e
    (λ key found whole. subst (IsRowOf table) whole (record {
      table_name = refl;
      key = fit_at table.columns values table.key key fit found;
      plain = plain_fits table.columns values 0 table.key fit;
      amounts = as_many_amounts table.columns values (as_many_fit table.columns values fit);
    }))

-- the values of that row are the ones that it was made from
pub values_of_made : (table : TableDef) (values : List Value) (row : Row) → IsTable table → FitColumns table.columns values → row_with table values ≡ Some row → values ≡ values_of table row
values_of_made table values row is_table fit e =
    mapped_some (λ key. record { name = record { table = table.name; key = key }; amounts = amounts_of table.columns values; plain = plain_of table.columns values 0 table.key }) (slice_get values table.key) row e
    (λ key found whole. made_values table values key row (numeric_columns table is_table) fit found whole)

-- the values of one more column: the next amount, the key, or the next plain value
values_amount : (column : Column) (columns : List Column) (place at : ℕ) (key : Value) (a : ℤ) (amounts : List ℤ) (plain : List Value) → column.reservable ≡ true
    → values_from (column ∷ columns) place at key (a ∷ amounts) plain ≡ value.Number a ∷ values_from columns (place + 1) at key amounts plain
values_amount column columns place at key a amounts plain r = rw r refl

values_key : (column : Column) (columns : List Column) (place at : ℕ) (key : Value) (amounts : List ℤ) (plain : List Value) → column.reservable ≡ false → (place == at) ≡ true
    → values_from (column ∷ columns) place at key amounts plain ≡ key ∷ values_from columns (place + 1) at key amounts plain
values_key column columns place at key amounts plain r same = rw (r, same) refl

values_plain : (column : Column) (columns : List Column) (place at : ℕ) (key : Value) (amounts : List ℤ) (v : Value) (plain : List Value) → column.reservable ≡ false → (place == at) ≡ false
    → values_from (column ∷ columns) place at key amounts (v ∷ plain) ≡ v ∷ values_from columns (place + 1) at key amounts plain
values_plain column columns place at key amounts v plain r apart = rw (r, apart) refl

-- the plain values of one more column
skips : (column : Column) (columns : List Column) (v : Value) (values : List Value) (place at : ℕ) → (column.reservable || place == at) ≡ true
    → plain_of (column ∷ columns) (v ∷ values) place at ≡ plain_of columns values (place + 1) at
skips column columns v values place at e = rw e refl

takes : (column : Column) (columns : List Column) (v : Value) (values : List Value) (place at : ℕ) → (column.reservable || place == at) ≡ false
    → plain_of (column ∷ columns) (v ∷ values) place at ≡ v ∷ plain_of columns values (place + 1) at
takes column columns v values place at e = rw e refl

-- values made from amounts, a key and plain values can be taken apart again
record IsBack (columns : List Column) (place at : ℕ) (key : Value) (amounts : List ℤ) (plain values : List Value) : Type 0 where
  amounts_are : amounts_of columns values ≡ amounts
  plain_are : plain_of columns values place at ≡ plain
  as_many : length values ≡ length columns
  key_at : (i : ℕ) → at ≡ place + i → is_plain_at columns i ≡ true → slice_get values i ≡ Some key

abbrev Back : List Column → ℕ → ℕ → Value → List ℤ → List Value → Type 0
Back columns place at key amounts plain = IsBack columns place at key amounts plain (values_from columns place at key amounts plain)

back_amount : (column : Column) (columns : List Column) (place at : ℕ) (key : Value) (a : ℤ) (amounts : List ℤ) (plain : List Value) → column.reservable ≡ true
    → Back columns (place + 1) at key amounts plain → Back (column ∷ columns) place at key (a ∷ amounts) plain
back_amount column columns place at key a amounts plain r h =
    let rest = values_from columns (place + 1) at key amounts plain in
    subst (IsBack (column ∷ columns) place at key (a ∷ amounts) plain) (sym (values_amount column columns place at key a amounts plain r)) (record {
      amounts_are = rw r (ap (λ others. a ∷ others) h.amounts_are);
      plain_are = skips column columns (value.Number a) rest place at (rw r refl) ∙ h.plain_are;
      as_many = ap suc h.as_many;
      key_at = key_later;
    })
  where
    key_later : (i : ℕ) → at ≡ place + i → is_plain_at (column ∷ columns) i ≡ true → slice_get (value.Number a ∷ values_from columns (place + 1) at key amounts plain) i ≡ Some key
    key_later zero here e = absurd (false≢true (rw r at e))
    key_later (suc i) here e = h.key_at i (omega arith) e

back_key : (column : Column) (columns : List Column) (place at : ℕ) (key : Value) (amounts : List ℤ) (plain : List Value) → column.reservable ≡ false → (place == at) ≡ true
    → Back columns (place + 1) at key amounts plain → Back (column ∷ columns) place at key amounts plain
back_key column columns place at key amounts plain r same h =
    let rest = values_from columns (place + 1) at key amounts plain in
    subst (IsBack (column ∷ columns) place at key amounts plain) (sym (values_key column columns place at key amounts plain r same)) (record {
      amounts_are = rw r h.amounts_are;
      plain_are = skips column columns key rest place at (rw (r, same) refl) ∙ h.plain_are;
      as_many = ap suc h.as_many;
      key_at = key_here;
    })
  where
    key_here : (i : ℕ) → at ≡ place + i → is_plain_at (column ∷ columns) i ≡ true → slice_get (key ∷ values_from columns (place + 1) at key amounts plain) i ≡ Some key
    key_here zero here e = refl
    key_here (suc i) here e = absurd (let one : place ≡ at = eqb-true place at same in omega arith)

back_plain : (column : Column) (columns : List Column) (place at : ℕ) (key : Value) (amounts : List ℤ) (v : Value) (plain : List Value) → column.reservable ≡ false → (place == at) ≡ false
    → Back columns (place + 1) at key amounts plain → Back (column ∷ columns) place at key amounts (v ∷ plain)
back_plain column columns place at key amounts v plain r apart h =
    let rest = values_from columns (place + 1) at key amounts plain in
    subst (IsBack (column ∷ columns) place at key amounts (v ∷ plain)) (sym (values_plain column columns place at key amounts v plain r apart)) (record {
      amounts_are = rw r h.amounts_are;
      plain_are = takes column columns v rest place at (rw (r, apart) refl) ∙ ap (λ vs. v ∷ vs) h.plain_are;
      as_many = ap suc h.as_many;
      key_at = key_later;
    })
  where
    key_later : (i : ℕ) → at ≡ place + i → is_plain_at (column ∷ columns) i ≡ true → slice_get (v ∷ values_from columns (place + 1) at key amounts plain) i ≡ Some key
    key_later zero here e = absurd (eqb-false place at apart (omega arith))
    key_later (suc i) here e = h.key_at i (omega arith) e

-- they can be taken apart if there is an amount and a plain value for each column of its kind
back : (columns : List Column) (place at : ℕ) (key : Value) (amounts : List ℤ) (plain : List Value)
    → length amounts ≡ length (reservables columns) → length plain ≡ length (plains columns place at) → Back columns place at key amounts plain
back [] place at key [] [] many others = record { amounts_are = refl; plain_are = refl; as_many = refl; key_at = λ i here e. absurd (false≢true e) }
back [] place at key (a ∷ amounts) plain many others = absurd (omega arith)
back [] place at key [] (v ∷ plain) many others = absurd (omega arith)
back (column ∷ columns) place at key amounts plain many others =
    elim (cases_Bool column.reservable) [
      | inl r ↦ with_amount column columns place at key amounts plain r (rw r at many) (rw r at others) (λ more m o. back columns (place + 1) at key more plain m o)
      | inr r ↦ elim (cases_Bool (place == at)) [
        | inl here ↦ back_key column columns place at key amounts plain r here (back columns (place + 1) at key amounts plain (rw r at many) (rw (r, here) at others))
        | inr there ↦ with_plain column columns place at key amounts plain r there (rw r at many) (rw (r, there) at others) (λ more m o. back columns (place + 1) at key amounts more m o)
      ]
    ]
  where
    with_amount : (column : Column) (columns : List Column) (place at : ℕ) (key : Value) (amounts : List ℤ) (plain : List Value) → column.reservable ≡ true
        → length amounts ≡ suc (length (reservables columns)) → length plain ≡ length (plains columns (place + 1) at)
        → ((more : List ℤ) → length more ≡ length (reservables columns) → length plain ≡ length (plains columns (place + 1) at) → Back columns (place + 1) at key more plain)
        → Back (column ∷ columns) place at key amounts plain
    with_amount column columns place at key [] plain r many others rest = absurd (omega arith)
    with_amount column columns place at key (a ∷ amounts) plain r many others rest = back_amount column columns place at key a amounts plain r (rest amounts (omega arith) others)

    with_plain : (column : Column) (columns : List Column) (place at : ℕ) (key : Value) (amounts : List ℤ) (plain : List Value) → column.reservable ≡ false → (place == at) ≡ false
        → length amounts ≡ length (reservables columns) → length plain ≡ suc (length (plains columns (place + 1) at))
        → ((more : List Value) → length amounts ≡ length (reservables columns) → length more ≡ length (plains columns (place + 1) at) → Back columns (place + 1) at key amounts more)
        → Back (column ∷ columns) place at key amounts plain
    with_plain column columns place at key amounts [] r there many others rest = absurd (omega arith)
    with_plain column columns place at key amounts (v ∷ plain) r there many others rest = back_plain column columns place at key amounts v plain r there (rest plain many (omega arith))

row_parts : (table : TableDef) (row : Row) → IsRowOf table row → Back table.columns 0 table.key row.name.key row.amounts row.plain
row_parts table row h = back table.columns 0 table.key row.name.key row.amounts row.plain h.amounts (sym (as_many_fit (plains table.columns 0 table.key) row.plain h.plain))

-- a row of a table has a value for each column
pub length-values_of : (table : TableDef) (row : Row) → IsRowOf table row → length (values_of table row) ≡ length table.columns
length-values_of table row h = (row_parts table row h).as_many

-- the values of a row make that row
pub row_with_values_of : (table : TableDef) (row : Row) → IsTable table → IsRowOf table row → row_with table (values_of table row) ≡ Some row
row_with_values_of table row is_table h =
    let parts = row_parts table row h in
    let values = values_of table row in
    let found : slice_get values table.key ≡ Some row.name.key = parts.key_at table.key (omega arith) (rules_of table is_table).plain_key in
    rw found (ap Some (put_together table row (amounts_of table.columns values) (plain_of table.columns values 0 table.key) (sym h.table_name) parts.amounts_are parts.plain_are))
  where
    put_together : (table : TableDef) (row : Row) (amounts : List ℤ) (plain : List Value) → table.name ≡ row.name.table → amounts ≡ row.amounts → plain ≡ row.plain
        → record { name = record { table = table.name; key = row.name.key }; amounts = amounts; plain = plain } ≡ row
    put_together table row amounts plain named same others = rw (named, same, others) refl
