-- What the three CREATEs and the row of META make.
use Rattle.std.proofs.Common.{◌≡◌, ℕ, Bool, true, false, List, [], None, Ok, refl, sym, ap, subst, ◌∙◌, arith}
use Rattle.std.specs.List.{AllByRecursion}
use Rattle.sqlite_trees.proofs.ListLemmas.{all-append, all_both}
use Rattle.sqlite_schema.specs.declared.schema.Table.{Table}
use Rattle.sqlite_schema.specs.declared.schema.Schema.{Schema}
use Rattle.sqlite_schema.specs.declared.command.Command.TheVariants.{CreateTable}
use Rattle.sqlite_resolve.specs.Compile.{table_defined_by}
use Rattle.sqlite_catalog.specs.Change.{created, next_tree}
use Rattle.sqlite_tied.specs.Compute.{everything}
use Rattle.sqlite.specs.Listing.{understood}
use Rattle.sqlite.specs.Effect.{Database}
use Rattle.sqlite.specs.Does.{Tally, lacks_sequence}
use Rattle.sqlite.specs.State.{State, Writes, Executes}
use Rattle.sqlite.proofs.Callers.{IsPlain, command_of, statement_of, runs_as}
use Rattle.escrow_cells.specs.Tables.{no_schema, meta, tab, cell, meta_text, tab_text, cell_text}
use Rattle.escrow_cells.specs.Store.{MakesStore}
use Rattle.escrow_cells.specs.Inside.{Acts, Wrote}
use Rattle.escrow_cells.specs.Making.{with_meta, with_tab, with_cell, IsBare, Extends, Fills}
use Rattle.escrow_cells.proofs.AllOrNone.{acts_then}
use Rattle.escrow_cells.proofs.FormatRow.{format_insert, inserts_format}
use Rattle.escrow_cells.proofs.Inside.{acts, went, same_value}
use Rattle.escrow_cells.proofs.Texts.{meta_is, tab_is, cell_is}

-- the text is that of a CREATE of this table under this schema
record IsCreate (schema : Schema) (text : List ℕ) (table : Table) : Type 0 where
  command : command_of (understood schema text) ≡ CreateTable
  whole : statement_of text (understood schema text) ≡ text
  plain : IsPlain (understood schema text)
  defined : table_defined_by text ≡ Ok table
  counts : lacks_sequence (created schema table) ≡ false

meta_create : IsCreate no_schema meta_text meta
unfolding understood everything
meta_create = record { command = refl; whole = refl; plain = (refl, refl); defined = meta_is; counts = refl }

tab_create : IsCreate with_meta tab_text (record tab { tree = 0 })
unfolding understood everything
tab_create = record { command = refl; whole = refl; plain = (refl, refl); defined = tab_is; counts = refl }

cell_create : IsCreate with_tab cell_text (record cell { tree = 0 })
unfolding understood everything
cell_create = record { command = refl; whole = refl; plain = (refl, refl); defined = cell_is; counts = refl }

module _ (schema : Schema) (text : List ℕ) (table : Table) (is : IsCreate schema text table) (old new : State) (count : ℕ) where
  creates : Executes text [] old new (Ok count) → IsBare schema old.now → IsBare (created schema table) new.now
  creates h bare =
      let has = bare.schema_is in
      let w = subst (λ t. Writes old new None CreateTable t [] count) is.whole (runs_as text [] old new schema has CreateTable is.command is.plain count h) in
      let all = went w.changed in
      let first = went all.1 in
      let made = first.1 in
      let same : made.table ≡ table = same_value (sym made.defined ∙ is.defined) in
      let after : first.0.schema ≡ created schema table = made.is ∙ ap (λ s. created s made.table) has ∙ ap (created schema) same in
      let plain : lacks_sequence first.0.schema ≡ false = ap lacks_sequence after ∙ is.counts in
      let now : new.now ≡ first.0 = ap (λ (p : Tally × Database). p.1) (same_value all.2) ∙ same_value (rw plain at first.2) in
      let kept = all_both (λ (t : Table). first.0.trees t.tree ≡ old.now.trees t.tree) (λ (t : Table). old.now.trees t.tree ≡ []) (λ (t : Table). first.0.trees t.tree ≡ []) (λ t e none. e ∙ none) schema.tables
      (subst (λ (s : Schema). AllByRecursion (λ (t : Table). first.0.trees t.tree ≡ old.now.trees t.tree) s.tables) has made.others) bare.bare in
      let empty : first.0.trees (next_tree schema) ≡ [] = subst (λ s. first.0.trees (next_tree s) ≡ []) has made.empty in
      rw now (record { schema_is = after; bare = all-append (λ (t : Table). first.0.trees t.tree ≡ []) schema.tables _ kept (empty, tt) })

-- together they make the tables and insert META's row
pub made_tables : (a b c d e : State) (is_done : Bool) → Wrote meta_text [] a b true → Wrote tab_text [] b c true → Wrote cell_text [] c d true → Wrote format_insert [] d e is_done → Acts a e is_done 1 MakesStore
made_tables a b c d e is_done metas tabs cells row =
    let one = acts_then (Extends no_schema with_meta) (Extends with_meta with_tab) (Extends no_schema with_tab) (λ _ _ _ first next bare. next (first bare)) a b c 1 1 1 (omega arith) true
    (acts (creates no_schema meta_text meta meta_create a b) metas refl) (acts (creates with_meta tab_text (record tab { tree = 0 }) tab_create b c) tabs refl) in
    let all = acts_then (Extends no_schema with_tab) (Extends with_tab with_cell) (Extends no_schema with_cell) (λ _ _ _ first next bare. next (first bare)) a c d 1 1 1 (omega arith) true
    one (acts (creates with_tab cell_text (record cell { tree = 0 }) cell_create c d) cells refl) in
    acts_then (Extends no_schema with_cell) (Fills with_cell) MakesStore (λ _ _ _ first next none. next (first (record { schema_is = none; bare = tt }))) a d e 1 1 1 (omega arith) is_done all (acts (inserts_format d e) row refl)
