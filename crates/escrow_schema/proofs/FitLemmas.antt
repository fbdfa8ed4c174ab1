-- The row that literals make.
use Rattle.std.proofs.Common.{◌≡◌, suc, true, Option, Some, None, option_map, option_and_then, List, [], ◌∷◌, ◌++◌, append_assoc, length, ◌<◌, pos, sym, ap, subst, refl, arith, inl, inr}
use Rattle.std.specs.Prelude.{is_some, slice_get, option_to_list}
use Rattle.std.proofs.lemmas.Bool.{cases_Bool, false≢true}
use Rattle.std.proofs.lemmas.Option.{none-some, same_Some, option_and_then_some, slice_get-get_or}
use Rattle.escrow_num.specs.declared.value.Value.{Value}
use Rattle.escrow_num.specs.declared.value.Value.TheVariants as value
use Rattle.escrow_num.specs.declared.row.Row.{Row}
use Rattle.escrow_statement.specs.declared.statement.Literal.{Literal}
use Rattle.escrow_schema.specs.declared.column.Column.{Column}
use Rattle.escrow_schema.specs.declared.table.TableDef.{TableDef}
use Rattle.escrow_schema.specs.Column.{reservables, value_in}
use Rattle.escrow_schema.specs.Fit.{values_in, amounts_of, plain_of, row_with, fitted}
use Rattle.escrow_schema.proofs.ListLemmas.{after, mapped_some}

-- the literals of one more column
pub values_split : {P : Type 0} (column : Column) (columns : List Column) (literal : Literal) (literals : List Literal) (values : List Value)
    → values_in (column ∷ columns) (literal ∷ literals) ≡ Some values
    → ((v : Value) (rest : List Value) → value_in column.kind literal ≡ Some v → values_in columns literals ≡ Some rest → v ∷ rest ≡ values → P) → P
values_split column columns literal literals values e k =
    option_and_then_some (λ v. option_map (λ rest. v ∷ rest) (values_in columns literals)) (value_in column.kind literal) values e
    (λ v here more. mapped_some (λ rest. v ∷ rest) (values_in columns literals) values more (λ rest others whole. k v rest here others whole))

-- there are as many values as columns, and as many as literals
pub as_many_values : (columns : List Column) (literals : List Literal) (values : List Value) → values_in columns literals ≡ Some values
    → (length columns ≡ length values) × (length columns ≡ length literals)
as_many_values [] [] values e = (ap length (same_Some [] values e), refl)
as_many_values [] (literal ∷ literals) values e = absurd (none-some values e)
as_many_values (column ∷ columns) [] values e = absurd (none-some values e)
as_many_values (column ∷ columns) (literal ∷ literals) values e =
    values_split column columns literal literals values e
    (λ v rest here others whole.
    let h = as_many_values columns literals rest others in
    let same : suc (length rest) ≡ length values = ap length whole in
    (omega arith, omega arith))

-- a mapped option has a value if the option has one
some_mapped : {A B : Type 0} (o : Option A) (f : A → B) → is_some o ≡ true → is_some (option_map f o) ≡ true
some_mapped None f h = absurd (false≢true h)
some_mapped (Some x) f h = refl

-- the value of an option that has one
pub some_from : {A : Type 0} (o : Option A) → is_some o ≡ true → (x : A) × (o ≡ Some x)
some_from None h = absurd (false≢true h)
some_from (Some x) h = (x, refl)

-- one more value, if all values exist
pub pushed : (o : Option Value) (rest whole : Option (List Value)) (done : List Value)
    → after done (option_and_then (λ v. option_map (λ values. v ∷ values) rest) o) ≡ whole → is_some whole ≡ true
    → after (done ++ option_to_list o) rest ≡ whole
pushed None rest whole done e some = absurd (false≢true (subst (λ (w : Option (List Value)). is_some w ≡ true) (sym e) some))
pushed (Some v) None whole done e some = e
pushed (Some v) (Some values) whole done e some = rw append_assoc e

-- values of columns make a row if the key is among them
pub row_some : (table : TableDef) (values : List Value) → table.key < length table.columns → length table.columns ≡ length values → is_some (row_with table values) ≡ true
row_some table values key long =
    let found : is_some (slice_get values table.key) ≡ true = subst (λ (o : Option Value). is_some o ≡ true) (sym (slice_get-get_or values table.key (value.Number (pos 0)) (omega arith))) refl in
    some_mapped (slice_get values table.key) (λ k. record { name = record { table = table.name; key = k }; amounts = amounts_of table.columns values; plain = plain_of table.columns values 0 table.key }) found

-- if each column has a value, each RESERVABLE column has an amount
pub as_many_amounts : (columns : List Column) (values : List Value) → length columns ≡ length values → length (amounts_of columns values) ≡ length (reservables columns)
as_many_amounts [] values e = refl
as_many_amounts (column ∷ columns) [] e = absurd (omega arith)
as_many_amounts (column ∷ columns) (v ∷ values) e =
    let rest = as_many_amounts columns values (omega arith) in
    elim (cases_Bool column.reservable) [
      | inl r ↦ rw r (omega arith)
      | inr r ↦ rw r rest
    ]

-- the values and the key of a row
pub fitted_parts : {P : Type 0} (table : TableDef) (literals : List Literal) (row : Row) → fitted table literals ≡ Some row
    → ((values : List Value) (key : Value) → values_in table.columns literals ≡ Some values → slice_get values table.key ≡ Some key
    → record { name = record { table = table.name; key = key }; amounts = amounts_of table.columns values; plain = plain_of table.columns values 0 table.key } ≡ row → P) → P
fitted_parts table literals row e k =
    option_and_then_some (row_with table) (values_in table.columns literals) row e
    (λ values at made. mapped_some (λ key. record { name = record { table = table.name; key = key }; amounts = amounts_of table.columns values; plain = plain_of table.columns values 0 table.key }) (slice_get values table.key) row made
    (λ key found whole. k values key at found whole))
