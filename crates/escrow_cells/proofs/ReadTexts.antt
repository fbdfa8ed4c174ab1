-- What each SELECT means, whatever objects the schema lists after the three tables.
use Rattle.std.proofs.Common.{◌≡◌, ℕ, pos, negsuc, List, [], ◌∷◌, false, codes, None, refl, sym, ap, ◌∙◌}
use Rattle.sqlite_value.specs.declared.value.Value.TheVariants.{Int}
use Rattle.sqlite_value.specs.declared.keys.Collation.TheVariants.{Binary}
use Rattle.sqlite_value.specs.declared.keys.Key.{Key}
use Rattle.sqlite_value.specs.Keys.{ascending}
use Rattle.sqlite_sql.specs.Term.{Term, lit, col, op2}
use Rattle.sqlite_sql.specs.declared.ops.BinaryOp.TheVariants.{Compare}
use Rattle.sqlite_sql.specs.declared.ops.CompareOp.TheVariants.{Eq, Ge, Le}
use Rattle.sqlite_sql.specs.Query.{Query, inner, end}
use Rattle.sqlite_schema.specs.declared.schema.Table.{Table}
use Rattle.sqlite_schema.specs.declared.schema.Index.{Index}
use Rattle.sqlite_schema.specs.declared.schema.View.{View}
use Rattle.sqlite_schema.specs.declared.command.Command.{Command}
use Rattle.sqlite_schema.specs.declared.command.Command.TheVariants.{Select}
use Rattle.sqlite_resolve.specs.Compile.{first}
use Rattle.sqlite_tied.specs.Compute.{everything}
use Rattle.sqlite.specs.Listing.{understood, reads_listing}
use Rattle.sqlite.proofs.Callers.{IsPlain, command_of}
use Rattle.escrow_cells.specs.Query.{IsReading, IsSelecting}
use Rattle.escrow_cells.specs.Tables.{beside, meta_tree, tab_tree, cell_tree}
use Rattle.escrow_cells.proofs.Bare.{IsBareRead, is_reading}

abbrev pub tabs_text : List ℕ
tabs_text = codes "SELECT ID, NAME, DDL FROM TAB ORDER BY ID"

abbrev pub row_text : List ℕ
row_text = codes "SELECT C, V FROM CELL WHERE TAB = ?1 AND K = ?2 ORDER BY C"

abbrev pub span_text : List ℕ
span_text = codes "SELECT C, V FROM CELL WHERE TAB = ?1 AND K = ?2 AND C >= ?3 AND C <= ?4 ORDER BY C"

abbrev pub table_text : List ℕ
table_text = codes "SELECT K, C, V FROM CELL WHERE TAB = ?1 ORDER BY K, C"

abbrev pub spans_text : List ℕ
spans_text = codes "SELECT a.K, a.C, b.V FROM CELL a JOIN CELL b ON b.rowid = a.rowid WHERE a.TAB = ?1 AND a.C <= ?3 AND a.C >= ?2 ORDER BY a.K, a.C"

abbrev pub keys_text : List ℕ
keys_text = codes "SELECT K FROM CELL WHERE TAB = ?1 AND C = ?2"

abbrev pub place_text : List ℕ
place_text = codes "SELECT C FROM CELL WHERE TAB = ?1 AND K = ?2 AND C = ?3"

abbrev pub metas_text : List ℕ
metas_text = codes "SELECT K, V FROM META"

abbrev pub owners_text : List ℕ
owners_text = codes "SELECT TAB FROM CELL"

abbrev pub meta_ids_text : List ℕ
meta_ids_text = codes "SELECT rowid FROM META ORDER BY rowid"

abbrev pub tab_ids_text : List ℕ
tab_ids_text = codes "SELECT rowid FROM TAB ORDER BY rowid"

abbrev pub cell_ids_text : List ℕ
cell_ids_text = codes "SELECT rowid FROM CELL ORDER BY rowid"

-- a query for the rows of one tree that pass the tests, in an order
abbrev pub selection : ℕ → List Term → List Term → List (Term × Key) → Query
selection tree tests shown order = record {
  from = inner tree end;
  filter = tests;
  group = None;
  project = shown;
  distinct = false;
  collations = [];
  order = order;
  limit = lit (Int (negsuc 0));
  offset = lit (Int (pos 0));
}

-- the second row of a pair has the rowid of the first
abbrev pub by_number : Term
by_number = op2 (Compare Eq Binary) (col 2 0) (col 1 0)

-- the rows of one tree that pass the tests, each with the row of the same rowid, in an order
abbrev pub pairing : ℕ → List Term → List Term → List (Term × Key) → Query
pairing tree tests shown order = record (selection tree (by_number ∷ tests) shown order) { from = inner tree (inner tree end) }

abbrev pub selects : Query → List (List ℕ) → Command
selects q names = Select (record { lets = []; body = q }) names

-- a column of the row equals a parameter
abbrev pub is_given : ℕ → ℕ → Term
is_given column param = op2 (Compare Eq Binary) (col 1 column) (col 0 param)

abbrev pub by_column : ℕ → Term × Key
by_column at = (col 1 at, ascending Binary)

abbrev pub tabs_query : Query
tabs_query = selection tab_tree [] (col 1 0 ∷ col 1 2 ∷ col 1 3 ∷ []) (by_column 0 ∷ [])

abbrev pub row_query : Query
row_query = selection cell_tree (is_given 1 0 ∷ is_given 2 1 ∷ []) (col 1 3 ∷ col 1 4 ∷ []) (by_column 3 ∷ [])

abbrev pub span_query : Query
span_query = selection cell_tree (is_given 1 0 ∷ is_given 2 1 ∷ op2 (Compare Ge Binary) (col 1 3) (col 0 2) ∷ op2 (Compare Le Binary) (col 1 3) (col 0 3) ∷ []) (col 1 3 ∷ col 1 4 ∷ []) (by_column 3 ∷ [])

abbrev pub table_query : Query
table_query = selection cell_tree (is_given 1 0 ∷ []) (col 1 2 ∷ col 1 3 ∷ col 1 4 ∷ []) (by_column 2 ∷ by_column 3 ∷ [])

abbrev pub spans_query : Query
spans_query = pairing cell_tree (is_given 1 0 ∷ op2 (Compare Le Binary) (col 1 3) (col 0 2) ∷ op2 (Compare Ge Binary) (col 1 3) (col 0 1) ∷ []) (col 1 2 ∷ col 1 3 ∷ col 2 4 ∷ []) (by_column 2 ∷ by_column 3 ∷ [])

abbrev pub keys_query : Query
keys_query = selection cell_tree (is_given 1 0 ∷ is_given 3 1 ∷ []) (col 1 2 ∷ []) []

abbrev pub place_query : Query
place_query = selection cell_tree (is_given 1 0 ∷ is_given 2 1 ∷ is_given 3 2 ∷ []) (col 1 3 ∷ []) []

abbrev pub metas_query : Query
metas_query = selection meta_tree [] (col 1 1 ∷ col 1 2 ∷ []) []

abbrev pub owners_query : Query
owners_query = selection cell_tree [] (col 1 1 ∷ []) []

abbrev pub ids_query : ℕ → Query
ids_query tree = selection tree [] (col 1 0 ∷ []) (by_column 0 ∷ [])

-- a text is that of a SELECT, whatever objects the schema lists after the three tables; it lists no schema, and has no
-- RETURNING
pub record IsSelect (text : List ℕ) (query : Query) (names : List (List ℕ)) : Type 0 where
  pub command : (more : List Table) (indexes : List Index) (views : List View) → command_of (understood (beside more indexes views) text) ≡ selects query names
  pub plain : (more : List Table) (indexes : List Index) (views : List View) → IsPlain (understood (beside more indexes views) text)
  pub unlisted : (more : List Table) (indexes : List Index) (views : List View) → reads_listing (beside more indexes views) text ≡ false
  pub bare : IsBareRead (first text)

-- such a text writes nothing
pub reads : {text : List ℕ} {query : Query} {names : List (List ℕ)} → IsSelect text query names → IsReading text
reads it = is_reading _ it.bare

-- rows that begin an answer are the first rows of a whole one
pub selecting : {text : List ℕ} {query : Query} {names : List (List ℕ)} → IsSelect text query names → IsSelecting text
selecting it = record { reads = reads it; selects = λ more indexes views c is. (_, _, ap command_of (sym is) ∙ it.command more indexes views) }

pub tabs_select : IsSelect tabs_text tabs_query (codes "ID" ∷ codes "NAME" ∷ codes "DDL" ∷ [])
unfolding understood everything
tabs_select = record { command = λ _ _ _. refl; plain = λ _ _ _. (refl, refl); unlisted = λ _ _ _. refl; bare = λ _ _. refl }

pub row_select : IsSelect row_text row_query (codes "C" ∷ codes "V" ∷ [])
unfolding understood everything
row_select = record { command = λ _ _ _. refl; plain = λ _ _ _. (refl, refl); unlisted = λ _ _ _. refl; bare = λ _ _. refl }

pub span_select : IsSelect span_text span_query (codes "C" ∷ codes "V" ∷ [])
unfolding understood everything
span_select = record { command = λ _ _ _. refl; plain = λ _ _ _. (refl, refl); unlisted = λ _ _ _. refl; bare = λ _ _. refl }

pub table_select : IsSelect table_text table_query (codes "K" ∷ codes "C" ∷ codes "V" ∷ [])
unfolding understood everything
table_select = record { command = λ _ _ _. refl; plain = λ _ _ _. (refl, refl); unlisted = λ _ _ _. refl; bare = λ _ _. refl }

pub spans_select : IsSelect spans_text spans_query (codes "K" ∷ codes "C" ∷ codes "V" ∷ [])
unfolding understood everything
spans_select = record { command = λ _ _ _. refl; plain = λ _ _ _. (refl, refl); unlisted = λ _ _ _. refl; bare = λ _ _. refl }

pub keys_select : IsSelect keys_text keys_query (codes "K" ∷ [])
unfolding understood everything
keys_select = record { command = λ _ _ _. refl; plain = λ _ _ _. (refl, refl); unlisted = λ _ _ _. refl; bare = λ _ _. refl }

pub place_select : IsSelect place_text place_query (codes "C" ∷ [])
unfolding understood everything
place_select = record { command = λ _ _ _. refl; plain = λ _ _ _. (refl, refl); unlisted = λ _ _ _. refl; bare = λ _ _. refl }

pub metas_select : IsSelect metas_text metas_query (codes "K" ∷ codes "V" ∷ [])
unfolding understood everything
metas_select = record { command = λ _ _ _. refl; plain = λ _ _ _. (refl, refl); unlisted = λ _ _ _. refl; bare = λ _ _. refl }

pub owners_select : IsSelect owners_text owners_query (codes "TAB" ∷ [])
unfolding understood everything
owners_select = record { command = λ _ _ _. refl; plain = λ _ _ _. (refl, refl); unlisted = λ _ _ _. refl; bare = λ _ _. refl }

pub meta_ids_select : IsSelect meta_ids_text (ids_query meta_tree) (codes "rowid" ∷ [])
unfolding understood everything
meta_ids_select = record { command = λ _ _ _. refl; plain = λ _ _ _. (refl, refl); unlisted = λ _ _ _. refl; bare = λ _ _. refl }

pub tab_ids_select : IsSelect tab_ids_text (ids_query tab_tree) (codes "ID" ∷ [])
unfolding understood everything
tab_ids_select = record { command = λ _ _ _. refl; plain = λ _ _ _. (refl, refl); unlisted = λ _ _ _. refl; bare = λ _ _. refl }

pub cell_ids_select : IsSelect cell_ids_text (ids_query cell_tree) (codes "rowid" ∷ [])
unfolding understood everything
cell_ids_select = record { command = λ _ _ _. refl; plain = λ _ _ _. (refl, refl); unlisted = λ _ _ _. refl; bare = λ _ _. refl }
