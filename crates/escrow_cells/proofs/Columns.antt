-- What the columns of CELL hold, and what writing a held value again gives.
use Rattle.std.proofs.Common.{◌≡◌, Bool, true, false, cond, [], ◌∷◌, drop, refl, subst}
use Rattle.std.specs.List.{AllByRecursion}
use Rattle.std.proofs.lemmas.Bool.{and_parts}
use Rattle.sqlite_value.specs.declared.value.Value.{Value}
use Rattle.sqlite_value.specs.declared.value.Value.TheVariants.{Null, Int, Real, Text, Blob}
use Rattle.sqlite_value.specs.Order.{Row, column}
use Rattle.sqlite_trees.proofs.ListLemmas.{all_weaker}
use Rattle.sqlite_sql.specs.Ops.{unary}
use Rattle.sqlite_schema.specs.declared.schema.Kind.TheVariants.{Integer}
use Rattle.sqlite_schema.specs.declared.schema.Constraint.TheVariants.{Datatype}
use Rattle.sqlite_schema.specs.declared.schema.Schema.{Schema}
use Rattle.sqlite_schema.specs.Rules.{is_of as has_kind, are_typed, passes as obeys}
use Rattle.sqlite_rules.specs.Cast.{cast}
use Rattle.sqlite.specs.Effect.{Database}
use Rattle.escrow_cells.specs.Tables.{cell}
use Rattle.escrow_cells.specs.Store.{IsStore}

either : (b : Bool) (v : Value) → cond b v v ≡ v
either true v = refl
either false v = refl

-- a value that an INTEGER column of a STRICT table holds is written unchanged
pub cast_held : (v : Value) → has_kind Integer v ≡ true → cast Integer v ≡ v
unfolding unary
cast_held Null h = either _ Null
cast_held (Int n) h = either _ (Int n)
cast_held (Real x) h = absurd (let e = h in cc)
cast_held (Text t) h = absurd (let e = h in cc)
cast_held (Blob b) h = absurd (let e = h in cc)

-- a row of CELL is written back unchanged
abbrev pub IsWritten : Row → Type 0
IsWritten r = (cast Integer (column r 1) ≡ column r 1) × (cast Integer (column r 3) ≡ column r 3)

written : (r : Row) → are_typed cell.key 0 cell.columns (drop 1 r) ≡ true → IsWritten r
written [] h = (cast_held Null refl, cast_held Null refl)
written (id ∷ []) h = (cast_held Null refl, cast_held Null refl)
written (id ∷ t ∷ []) h = (cast_held t (and_parts _ _ h).0, cast_held Null refl)
written (id ∷ t ∷ k ∷ []) h = (cast_held t (and_parts _ _ h).0, cast_held Null refl)
written (id ∷ t ∷ k ∷ c ∷ more) h = (cast_held t (and_parts _ _ h).0, cast_held c (and_parts _ _ (and_parts _ _ (and_parts _ _ h).1).1).0)

pub all_written : (db : Database) → IsStore db → AllByRecursion IsWritten (db.trees 4)
all_written db store =
    let rules = subst (λ (s : Schema). AllByRecursion (λ t. AllByRecursion (λ r. obeys Datatype db.schema db.trees t r ≡ true) (db.trees t.tree)) s.tables) store.tables.is (store.sound.obeys.rules Datatype) in
    all_weaker _ IsWritten (λ r h. written r (and_parts _ _ h).0) (db.trees 4) rules.1.1.0
