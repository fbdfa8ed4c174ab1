-- The value of a literal at a scale, and the key that WHERE names.
use Rattle.std.proofs.Common.{◌≡◌, ℕ, Bool, true, false, cond, not, Option, Some, None, option_map, Result, Ok, Err, ap, subst, sym, refl, ◌∙◌}
use Rattle.std.specs.Prelude.{IsSome, unwrap_or}
use Rattle.std.specs.Option.{ok_or}
use Rattle.std.specs.Result.{IsOk, result_err}
use Rattle.std.proofs.lemmas.Bool.{false≢true}
use Rattle.std.proofs.lemmas.Option.{none-some, same_Some, cond_some, option_and_then_some}
use Rattle.escrow_num.specs.Decimal.{units_at}
use Rattle.escrow_num.proofs.DecimalLemmas.{units-told}
use Rattle.escrow_num.specs.declared.refusal.Refusal.{Refusal}
use Rattle.escrow_num.specs.declared.refusal.Refusal.TheVariants as refusal
use Rattle.escrow_num.specs.declared.value.Value.{Value}
use Rattle.escrow_num.specs.declared.value.Value.TheVariants as value
use Rattle.escrow_statement.specs.declared.statement.Literal.{Literal}
use Rattle.escrow_statement.specs.declared.statement.Literal.TheVariants as literal
use Rattle.escrow_statement.specs.declared.statement.WhereText.{WhereText}
use Rattle.escrow_schema.specs.declared.column.Column.{Column}
use Rattle.escrow_schema.specs.declared.column.ColumnType.{ColumnType}
use Rattle.escrow_schema.specs.declared.table.TableDef.{TableDef}
use Rattle.escrow_schema.specs.Column.{fits, scale_of, value_at, value_in, truncated_value}
use Rattle.escrow_schema.specs.Definition.{key_column, key_scale}
use Rattle.escrow_schema.specs.Laws.{IsValueOf}
use Rattle.escrow_schema.specs.Plan.{is_key, key_in, key_named}
use Rattle.escrow_schema.proofs.ListLemmas.{mapped_some}

-- if a literal has a value at a scale, it is the value without the test
pub value_exact : (scale : ℕ) (l : Literal) (v : Value) → value_at scale l ≡ Some v → v ≡ truncated_value scale l
value_exact scale (literal.Number z) v e = mapped_some value.Number (units_at scale z) v e (λ u at whole. sym whole ∙ ap value.Number (sym (units-told scale z u at).2))
value_exact scale (literal.Text t) v e = sym (same_Some (value.Text t) v e)

-- a value for a column is the literal's value at the type's scale, and fits the type
pub value_in_at : (kind : ColumnType) (l : Literal) (v : Value) → value_in kind l ≡ Some v → value_at (scale_of kind) l ≡ Some v
value_in_at kind l v e =
    option_and_then_some (λ w. cond (fits kind w) (Some w) None) (value_at (scale_of kind) l) v e (λ w at made. at ∙ ap Some (cond_some (fits kind w) w v made).1)

pub value_in_fits : (kind : ColumnType) (l : Literal) (v : Value) → value_in kind l ≡ Some v → fits kind v ≡ true
value_in_fits kind l v e =
    option_and_then_some (λ w. cond (fits kind w) (Some w) None) (value_at (scale_of kind) l) v e
    (λ w at made. let kept = cond_some (fits kind w) w v made in subst (λ x. fits kind x ≡ true) kept.1 kept.0)

-- the key that a literal denotes
pub key_exact : (table : TableDef) (l : Literal) (key : Value) → key_in table l ≡ Some key → IsValueOf (key_scale table) l key
key_exact table l key e =
    option_and_then_some (λ column. value_in column.kind l) (key_column table) key e
    (λ column at made.
    let scale : key_scale table ≡ scale_of column.kind = ap (λ (o : Option Column). unwrap_or (option_map (λ (c : Column). scale_of c.kind) o) 0) at in
    let is : value_at (key_scale table) l ≡ Some key = subst (λ (s : ℕ). value_at s l ≡ Some key) (sym scale) (value_in_at column.kind l key made) in
    (is, value_exact (key_scale table) l key is))

-- the key that WHERE names is that of its literal
named : (b : Bool) (o : Option Value) (key : Value) → cond (not b) (Err refusal.NotTheKey) (ok_or o refusal.BadValue) ≡ Ok key → o ≡ Some key
named false o key e = absurd (cc)
named true None key e = absurd (cc)
named true (Some v) key e = cc

pub where_key : (table : TableDef) (row : WhereText) (key : Value) → key_named table row ≡ Ok key → key_in table row.literal ≡ Some key
where_key table row key e = named (is_key table row.column) (key_in table row.literal) key e

-- an option with a value is not empty
pub there : (o : Option Value) (v : Value) → o ≡ Some v → IsSome o
there o v e = subst (λ (p : Option Value). IsSome p) (sym e) refl

-- if WHERE names a key, its literal has a value at the key's scale
pub named_there : (table : TableDef) (row : WhereText) → IsOk (key_named table row) → IsSome (value_at (key_scale table) row.literal)
named_there table row ok = by_name (key_named table row) refl ok
  where
    by_name : (r : Result Value Refusal) → key_named table row ≡ r → IsOk r → IsSome (value_at (key_scale table) row.literal)
    by_name (Ok key) e ok = there (value_at (key_scale table) row.literal) key (key_exact table row.literal key (where_key table row key e)).0
    by_name (Err r) e ok = absurd (false≢true ok)

-- so has the literal of a WHERE that is not refused
pub unrefused_there : (table : TableDef) (row : WhereText) → result_err (key_named table row) ≡ None → IsSome (value_at (key_scale table) row.literal)
unrefused_there table row none = named_there table row (no_refusal (key_named table row) none)
  where
    no_refusal : (r : Result Value Refusal) → result_err r ≡ None → IsOk r
    no_refusal (Ok key) none = refl
    no_refusal (Err r) none = absurd (none-some r (sym none))
