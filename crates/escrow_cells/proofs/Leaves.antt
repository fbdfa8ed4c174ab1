-- What a store is after an edit of one of its tables.
use Rattle.std.proofs.Common.{◌≡◌, ◌≢◌, List, [], ◌∷◌, map, IsPermutation, sym, ap, ◌∙◌, subst, arith}
use Rattle.std.specs.List.{AllByRecursion}
use Rattle.sqlite_value.specs.Order.{Row, column}
use Rattle.sqlite_trees.specs.Tree.{rowid}
use Rattle.sqlite_trees.proofs.ListLemmas.{IsPermutation-same}
use Rattle.sqlite_schema.specs.declared.schema.Table.{Table}
use Rattle.sqlite_schema.specs.declared.schema.Schema.{Schema}
use Rattle.sqlite_rules.specs.Edit.{Edit}
use Rattle.sqlite.specs.Effect.{Database}
use Rattle.escrow_cells.specs.declared.formats.TheConstants.{FORMAT}
use Rattle.escrow_cells.specs.Tables.{meta_tree, tab_tree, cell_tree}
use Rattle.escrow_cells.specs.Store.{IsStore, HasTables, NumbersDiffer, HasMigrated, format, metas, tabs, cells}
use Rattle.escrow_cells.specs.Step.{HoldsContents}
use Rattle.escrow_cells.proofs.Inside.{Edits}
use Rattle.escrow_cells.proofs.Makes.{numbered_edited}

-- a row of CELL and a row of TAB, in the store's terms
abbrev pub cell_of : Row → Row
cell_of r = column r 1 ∷ column r 2 ∷ column r 3 ∷ column r 4 ∷ []

abbrev pub tab_of : Row → Row
tab_of r = rowid r ∷ column r 2 ∷ column r 3 ∷ []

module _ (old new : Database) (edit : Edit) (store : IsStore old) (made : Edits old new edit) where
  -- the trees of the other tables are unchanged
  abbrev IsSpared : Table → Type 0
  IsSpared t = t.tree ≢ edit.table.tree → new.trees t.tree ≡ old.trees t.tree

  spared : (tables : HasTables old.schema) → (meta_tree ≢ edit.table.tree → new.trees meta_tree ≡ old.trees meta_tree)
      × (tab_tree ≢ edit.table.tree → new.trees tab_tree ≡ old.trees tab_tree) × (cell_tree ≢ edit.table.tree → new.trees cell_tree ≡ old.trees cell_tree)
  spared tables =
      let all = subst (λ (s : Schema). AllByRecursion IsSpared s.tables) tables.is made.applies.tables in
      (all.0, all.1.0, all.1.1.0)

  numbered : NumbersDiffer (old.trees edit.table.tree) → NumbersDiffer (new.trees edit.table.tree)
  numbered n = subst NumbersDiffer (sym made.applies.rows) (numbered_edited old.trees edit made.applies.keyed made.applies.fresh n)

  store_with : NumbersDiffer (new.trees meta_tree) → NumbersDiffer (new.trees tab_tree) → NumbersDiffer (new.trees cell_tree) → IsStore new
  store_with metas_are tabs_are cells_are = record {
    tables = record { more = store.tables.more; indexes = store.tables.indexes; views = store.tables.views; is = made.schema ∙ store.tables.is };
    sound = made.sound;
    no_keys = subst (λ (s : Schema). AllByRecursion (λ (t : Table). t.references ≡ []) s.tables) (sym made.schema) store.no_keys;
    metas_numbered = metas_are;
    tabs_numbered = tabs_are;
    cells_numbered = cells_are;
  }

  same_metas : new.trees meta_tree ≡ old.trees meta_tree → metas new ≡ metas old
  same_metas e = ap (map (λ r. column r 1 ∷ column r 2 ∷ [])) e

  -- an edit of CELL
  pub holds_cells : edit.table.tree ≡ cell_tree → (after : List Row) → IsPermutation after (cells new) → HoldsContents (record { cells = after; tabs = tabs old }) old new
  holds_cells on after same =
      let others = spared store.tables in
      let meta_is = others.0 (λ e. omega (arith, on, e)) in
      let tab_is = others.1 (λ e. omega (arith, on, e)) in
      record {
        store = store_with (rw meta_is store.metas_numbered) (rw tab_is store.tabs_numbered) (subst (λ t. NumbersDiffer (new.trees t)) on (numbered (rw on store.cells_numbered)));
        cells_are = same;
        tabs_are = IsPermutation-same _ _ (ap (map tab_of) (sym tab_is));
        metas_are = same_metas meta_is;
      }

  -- an edit of TAB
  pub holds_tabs : edit.table.tree ≡ tab_tree → (after : List Row) → IsPermutation after (tabs new) → HoldsContents (record { cells = cells old; tabs = after }) old new
  holds_tabs on after same =
      let others = spared store.tables in
      let meta_is = others.0 (λ e. omega (arith, on, e)) in
      let cell_is = others.2 (λ e. omega (arith, on, e)) in
      record {
        store = store_with (rw meta_is store.metas_numbered) (subst (λ t. NumbersDiffer (new.trees t)) on (numbered (rw on store.tabs_numbered))) (rw cell_is store.cells_numbered);
        cells_are = IsPermutation-same _ _ (ap (map cell_of) (sym cell_is));
        tabs_are = same;
        metas_are = same_metas meta_is;
      }

  -- an edit of META
  pub has_migrated : edit.table.tree ≡ meta_tree → metas new ≡ format FORMAT → HasMigrated old new
  has_migrated on are =
      let others = spared store.tables in
      let tab_is = others.1 (λ e. omega (arith, on, e)) in
      let cell_is = others.2 (λ e. omega (arith, on, e)) in
      record {
        store = store_with (subst (λ t. NumbersDiffer (new.trees t)) on (numbered (rw on store.metas_numbered))) (rw tab_is store.tabs_numbered) (rw cell_is store.cells_numbered);
        metas_are = are;
        tabs_are = ap (map tab_of) tab_is;
        cells_are = ap (map cell_of) cell_is;
      }
