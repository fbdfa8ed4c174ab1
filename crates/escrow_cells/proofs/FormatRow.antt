-- The row of META that names the format.
use Rattle.std.proofs.Common.{◌≡◌, ℕ, Bool, true, false, cond, List, [], ◌∷◌, codes, Ok, IsPermutation, refl, ap, subst, ◌∙◌}
use Rattle.std.proofs.lemmas.Bool.{and_parts}
use Rattle.sqlite_value.specs.declared.value.Value.{Value}
use Rattle.sqlite_value.specs.declared.value.Value.TheVariants.{Null, Int, Text}
use Rattle.sqlite_value.specs.Order.{Row, column}
use Rattle.sqlite_trees.specs.Tree.{Trees, rowid}
use Rattle.sqlite_trees.specs.View.{is_int}
use Rattle.sqlite_sql.specs.Term.{Term, lit}
use Rattle.sqlite_schema.specs.declared.schema.Kind.TheVariants.{Integer}
use Rattle.sqlite_schema.specs.declared.command.Source.TheVariants.{Values}
use Rattle.sqlite_schema.specs.declared.command.Command.TheVariants.{Insert}
use Rattle.sqlite_rules.specs.declared.error.Rowids.TheVariants.{Chosen}
use Rattle.sqlite_rules.specs.Cast.{cast}
use Rattle.sqlite_rules.specs.Edit.{edit_of}
use Rattle.sqlite_tied.specs.Compute.{everything}
use Rattle.sqlite.specs.Listing.{understood}
use Rattle.sqlite.specs.Effect.{Database}
use Rattle.sqlite.specs.State.{State, Executes}
use Rattle.sqlite.proofs.Callers.{IsPlain, command_of, statement_of, runs_as, one_permutation}
use Rattle.escrow_cells.specs.declared.formats.TheConstants.{FORMAT}
use Rattle.escrow_cells.specs.Tables.{meta_tree, tab_tree, cell_tree, meta}
use Rattle.escrow_cells.specs.Store.{NumbersDiffer, IsEmpty}
use Rattle.escrow_cells.specs.Making.{with_cell, IsBare}
use Rattle.escrow_cells.proofs.Columns.{cast_held}
use Rattle.escrow_cells.proofs.Inside.{Edits, inserts}
use Rattle.escrow_cells.proofs.Insert.{made, added}

abbrev pub format_insert : List ℕ
format_insert = codes "INSERT INTO META VALUES ('format', 2)"

abbrev format_terms : List Term
format_terms = lit Null ∷ lit (Text (codes "format")) ∷ lit (Int FORMAT) ∷ []

abbrev format_values : Row
format_values = Null ∷ Text (codes "format") ∷ Int FORMAT ∷ []

format_insert_is : command_of (understood with_cell format_insert) ≡ Insert 0 (Values format_terms 3)
unfolding understood everything
format_insert_is = refl

format_insert_plain : IsPlain (understood with_cell format_insert)
unfolding understood everything
format_insert_plain = (refl, refl)

abbrev pub meta_of : Row → Row
meta_of r = column r 1 ∷ column r 2 ∷ []

same_rest : (b : Bool) (x y : Value) (values : Row) → meta_of (cond b (x ∷ values) (y ∷ values)) ≡ meta_of (y ∷ values)
same_rest true x y values = refl
same_rest false x y values = refl

made_meta : (db : Trees) → meta_of (made db meta format_values) ≡ Text (codes "format") ∷ Int FORMAT ∷ []
made_meta db = same_rest _ _ (cast Integer Null) (Text (codes "format") ∷ cast Integer (Int FORMAT) ∷ []) ∙ rw (cast_held (Int FORMAT) refl)

none_numbered : NumbersDiffer []
none_numbered = record { whole = tt; apart = tt }

abbrev Adds : Database → Database → Type 0
Adds old new = Edits old new (edit_of old.trees meta [] Chosen 0 (format_values ∷ []))

format_added : (old new : Database) → IsBare with_cell old → Adds old new → IsEmpty new
format_added old new bare a =
    let row = made old.trees meta format_values in
    let others = rw bare.schema_is at a.applies.tables in
    let was : old.trees meta_tree ≡ [] = bare.bare.0 in
    let tabs_none : new.trees tab_tree ≡ [] = others.1.0 (λ e. cc) ∙ bare.bare.1.0 in
    let cells_none : new.trees cell_tree ≡ [] = others.1.1.0 (λ e. cc) ∙ bare.bare.1.1.0 in
    let one : new.trees meta_tree ≡ row ∷ [] = one_permutation row _ (subst (λ rows. IsPermutation (row ∷ rows) (new.trees meta_tree)) was (added old new meta format_values a)) in
    let schema : new.schema ≡ with_cell = a.schema ∙ bare.schema_is in
    record {
      store = record {
        tables = record { more = []; indexes = with_cell.indexes; views = []; is = schema };
        sound = a.sound;
        no_keys = rw schema (refl, (refl, (refl, tt)));
        metas_numbered = rw one (record { whole = ((and_parts (is_int (rowid row)) true a.applies.keyed).0, tt); apart = (tt, tt) });
        tabs_numbered = rw tabs_none none_numbered;
        cells_numbered = rw cells_none none_numbered;
      };
      metas_are = rw one (ap (λ r. r ∷ []) (made_meta old.trees));
      tabs_are = rw tabs_none refl;
      cells_are = rw cells_none refl;
    }

pub inserts_format : (old new : State) (count : ℕ) → Executes format_insert [] old new (Ok count) → IsBare with_cell old.now → IsEmpty new.now
inserts_format old new count h bare =
    let has = bare.schema_is in
    let text = statement_of format_insert (understood with_cell format_insert) in
    let w = runs_as format_insert [] old new with_cell has (Insert 0 (Values format_terms 3)) format_insert_is format_insert_plain count h in
    let given = inserts old new meta 0 (rw has refl) (rw has (refl, (refl, (refl, tt)))) text [] count (Values format_terms 3) refl w in
    format_added old.now new.now bare (subst (λ rows. Edits old.now new.now (edit_of old.now.trees meta [] Chosen 0 rows)) given.1.1 given.2)
