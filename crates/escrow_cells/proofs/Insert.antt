-- What the two INSERTs of a step write.
use Rattle.std.proofs.Common.{◌≡◌, ◌+◌, ◌/◌, ℕ, ℤ, Bool, true, false, cond, List, [], ◌∷◌, ◌++◌, map, drop, fold, length, codes, Ok, IsPermutation, refl, sym, ap, ap₂, ◌∙◌, subst}
use Rattle.std.proofs.lemmas.List.{map-append}
use Rattle.std.proofs.lemmas.List.Sorted.{IsPermutation-map, IsPermutation-middle, IsPermutation-refl, IsPermutation-trans}
use Rattle.sqlite_value.specs.declared.value.Value.{Value}
use Rattle.sqlite_value.specs.declared.value.Value.TheVariants.{Null, Int, Text}
use Rattle.sqlite_value.specs.Order.{Row}
use Rattle.sqlite_trees.specs.Tree.{Trees, put_row}
use Rattle.sqlite_sql.specs.Term.{Term, lit, col}
use Rattle.sqlite_schema.specs.declared.schema.Kind.TheVariants.{Integer}
use Rattle.sqlite_schema.specs.declared.schema.Table.{Table}
use Rattle.sqlite_schema.specs.declared.command.Source.TheVariants.{Values}
use Rattle.sqlite_schema.specs.declared.command.Command.TheVariants.{Insert}
use Rattle.sqlite_rules.specs.declared.error.Rowids.TheVariants.{Chosen}
use Rattle.sqlite_rules.specs.Cast.{cast, cast_row}
use Rattle.sqlite_rules.specs.Edit.{edit_of, numbered, with_rowid}
use Rattle.sqlite_tied.specs.Compute.{everything}
use Rattle.sqlite.specs.Listing.{understood}
use Rattle.sqlite.specs.Effect.{Database, value_rows}
use Rattle.sqlite.specs.Rows.{stamped}
use Rattle.sqlite.specs.State.{State, Executes}
use Rattle.escrow_cells.specs.declared.new_cell.NewCell.{NewCell}
use Rattle.escrow_cells.specs.Tables.{tab, cell}
use Rattle.escrow_cells.specs.Store.{IsStore, tabs, cells}
use Rattle.escrow_cells.specs.Step.{Contents, contents, done, kept, HoldsContents, Does}
use Rattle.escrow_cells.specs.NewCell.{step_of}
use Rattle.escrow_cells.proofs.Inside.{Edits, IsStatement, inserts, wrote_by}
use Rattle.escrow_cells.proofs.Columns.{cast_held}
use Rattle.escrow_cells.proofs.Leaves.{cell_of, tab_of, holds_cells, holds_tabs}
use Rattle.escrow_cells.proofs.Makes.{put_beside}

abbrev pub cell_insert : List ℕ
cell_insert = codes "INSERT INTO CELL VALUES (?1, ?2, ?3, ?4)"

abbrev pub two_insert : List ℕ
two_insert = codes "INSERT INTO CELL VALUES (?1, ?2, ?3, ?4), (?5, ?6, ?7, ?8)"

abbrev pub three_insert : List ℕ
three_insert = codes "INSERT INTO CELL VALUES (?1, ?2, ?3, ?4), (?5, ?6, ?7, ?8), (?9, ?10, ?11, ?12)"

abbrev pub four_insert : List ℕ
four_insert = codes "INSERT INTO CELL VALUES (?1, ?2, ?3, ?4), (?5, ?6, ?7, ?8), (?9, ?10, ?11, ?12), (?13, ?14, ?15, ?16)"

abbrev pub tab_insert : List ℕ
tab_insert = codes "INSERT INTO TAB VALUES (?1, ?2, ?3)"

-- the values given for a cell, from a parameter on
abbrev terms_from : ℕ → List Term
terms_from at = lit Null ∷ col 0 at ∷ col 0 (at + 1) ∷ col 0 (at + 2) ∷ col 0 (at + 3) ∷ []

abbrev two_terms : List Term
two_terms = terms_from 0 ++ terms_from 4

abbrev three_terms : List Term
three_terms = two_terms ++ terms_from 8

abbrev four_terms : List Term
four_terms = three_terms ++ terms_from 12

abbrev tab_terms : List Term
tab_terms = col 0 0 ∷ lit Null ∷ col 0 1 ∷ col 0 2 ∷ []

abbrev PutsCells : List ℕ → List Term → Type 0
PutsCells text terms = IsStatement text (Insert 2 (Values terms 5))

cell_statements : PutsCells cell_insert (terms_from 0) × PutsCells two_insert two_terms × PutsCells three_insert three_terms × PutsCells four_insert four_terms
unfolding understood everything
cell_statements = (
  record { is = λ _ _ _. refl; plain = λ _ _ _. (refl, refl) },
  record { is = λ _ _ _. refl; plain = λ _ _ _. (refl, refl) },
  record { is = λ _ _ _. refl; plain = λ _ _ _. (refl, refl) },
  record { is = λ _ _ _. refl; plain = λ _ _ _. (refl, refl) },
)

tab_statement : IsStatement tab_insert (Insert 1 (Values tab_terms 4))
unfolding understood everything
tab_statement = record { is = λ _ _ _. refl; plain = λ _ _ _. (refl, refl) }

-- ---- the row that is added

-- the row that an INSERT makes from the values it is given
abbrev pub made : Trees → Table → Row → Row
made db table values = with_rowid Chosen (db table.tree) (cast_row table values)

-- a tree after an INSERT of one row
pub added : (old new : Database) (table : Table) (values : Row) → Edits old new (edit_of old.trees table [] Chosen 0 (values ∷ [])) → IsPermutation (made old.trees table values ∷ old.trees table.tree) (new.trees table.tree)
added old new table values e = rw e.applies.rows (put_beside (made old.trees table values ∷ []) (old.trees table.tree) e.applies.fresh)

same_rest : (b : Bool) (x y : Value) (values : Row) → cell_of (cond b (x ∷ values) (y ∷ values)) ≡ cell_of (y ∷ values)
same_rest true x y values = refl
same_rest false x y values = refl

made_cell : (rows : List Row) (t p : ℤ) (k v : Value) → cell_of (with_rowid Chosen rows (cast_row cell (Null ∷ Int t ∷ k ∷ Int p ∷ v ∷ []))) ≡ Int t ∷ k ∷ Int p ∷ v ∷ []
made_cell rows t p k v = same_rest _ _ (cast Integer Null) (cast Integer (Int t) ∷ k ∷ cast Integer (Int p) ∷ v ∷ []) ∙ rw (cast_held (Int t) refl, cast_held (Int p) refl)

made_tab : (db : Trees) (id : ℤ) (name text : List ℕ) → tab_of (made db tab (Int id ∷ Null ∷ Text name ∷ Text text ∷ [])) ≡ Int id ∷ Text name ∷ Text text ∷ []
made_tab db id name text = rw (cast_held (Int id) refl)

-- ---- cells that are added

-- the values that an INSERT is given for a cell
abbrev pub given_of : NewCell → Row
given_of c = Int c.table ∷ kept c.key ∷ Int c.place ∷ kept c.value ∷ []

abbrev rows_of : List NewCell → List Row
rows_of news = map (λ c. Null ∷ given_of c) news

-- the rows made from cells have these values
made_cells : (rows : List Row) (news : List NewCell) → map cell_of (numbered Chosen rows (map (λ s. cast_row cell (drop 0 s)) (rows_of news))) ≡ map given_of news
made_cells rows [] = refl
made_cells rows (c ∷ news) =
    let row = with_rowid Chosen rows (cast_row cell (Null ∷ given_of c)) in
    ap₂ ◌∷◌ (made_cell rows c.table c.place (kept c.key) (kept c.value)) (made_cells (put_row row rows) news)

-- the steps that add cells leave them beside the other cells
beside_others : (news : List NewCell) (c : Contents) → IsPermutation (fold done c (map step_of news)).cells (map given_of news ++ c.cells)
beside_others [] c = IsPermutation-refl c.cells
beside_others (new ∷ news) c = IsPermutation-trans _ _ _ (beside_others news (done c (step_of new))) (IsPermutation-middle (map given_of news) (given_of new) c.cells)

-- an INSERT of these cells does the same
inserted : (old new : Database) (news : List NewCell) → Edits old new (edit_of old.trees cell [] Chosen 0 (rows_of news)) → IsPermutation (fold done (contents old) (map step_of news)).cells (cells new)
inserted old new news e =
    let rows = old.trees cell.tree in
    let mades = numbered Chosen rows (map (λ s. cast_row cell (drop 0 s)) (rows_of news)) in
    let put : IsPermutation (mades ++ rows) (new.trees cell.tree) = rw e.applies.rows (put_beside mades rows e.applies.fresh) in
    let shown : map cell_of (mades ++ rows) ≡ map given_of news ++ cells old = map-append cell_of mades rows ∙ ap (λ l. l ++ cells old) (made_cells rows news) in
    IsPermutation-trans _ _ _ (beside_others news (contents old)) (subst (λ l. IsPermutation l (cells new)) shown (IsPermutation-map cell_of _ _ put))

-- TAB is unchanged
tabs_stay : (news : List NewCell) (c : Contents) → fold done c (map step_of news) ≡ record { cells = (fold done c (map step_of news)).cells; tabs = c.tabs }
tabs_stay [] c = refl
tabs_stay (new ∷ news) c = tabs_stay news (done c (step_of new))

-- ---- the statements

inserts_cells : {text : List ℕ} {terms : List Term} → PutsCells text terms → (old new : State) (news : List NewCell) (params : Row)
    → value_rows (stamped cell params) 5 (length terms / 5) terms ≡ rows_of news → (count : ℕ) → Executes text params old new (Ok count) → Does (map step_of news) old.now new.now
inserts_cells {terms = terms} statement old new news params shown count h it =
    let has = it.tables.is in
    let w = wrote_by statement params old new it.tables count h in
    let given = inserts old new cell 2 (rw has refl) it.no_keys _ params count (Values terms 5) refl w in
    let edits = subst (λ rows. Edits old.now new.now (edit_of old.now.trees cell [] Chosen 0 rows)) (given.1.1 ∙ shown) given.2 in
    subst (λ c. HoldsContents c old.now new.now) (sym (tabs_stay news (contents old.now))) (holds_cells old.now new.now _ it edits refl _ (inserted old.now new.now news edits))

pub inserts_cell : (old new : State) (a : NewCell) (count : ℕ) → Executes cell_insert (given_of a) old new (Ok count) → Does (step_of a ∷ []) old.now new.now
inserts_cell old new a = inserts_cells cell_statements.0 old new (a ∷ []) (given_of a) refl

pub inserts_two : (old new : State) (a b : NewCell) (count : ℕ) → Executes two_insert (given_of a ++ given_of b) old new (Ok count) → Does (step_of a ∷ step_of b ∷ []) old.now new.now
inserts_two old new a b = inserts_cells cell_statements.1 old new (a ∷ b ∷ []) (given_of a ++ given_of b) refl

pub inserts_three : (old new : State) (a b c : NewCell) (count : ℕ) → Executes three_insert (given_of a ++ given_of b ++ given_of c) old new (Ok count)
    → Does (step_of a ∷ step_of b ∷ step_of c ∷ []) old.now new.now
inserts_three old new a b c = inserts_cells cell_statements.2 old new (a ∷ b ∷ c ∷ []) (given_of a ++ given_of b ++ given_of c) refl

pub inserts_four : (old new : State) (a b c d : NewCell) (count : ℕ) → Executes four_insert (given_of a ++ given_of b ++ given_of c ++ given_of d) old new (Ok count)
    → Does (step_of a ∷ step_of b ∷ step_of c ∷ step_of d ∷ []) old.now new.now
inserts_four old new a b c d = inserts_cells cell_statements.3 old new (a ∷ b ∷ c ∷ d ∷ []) (given_of a ++ given_of b ++ given_of c ++ given_of d) refl

pub inserts_tab : (old new : State) (id : ℤ) (name ddl : List ℕ) (count : ℕ) → Executes tab_insert (Int id ∷ Text name ∷ Text ddl ∷ []) old new (Ok count)
    → IsStore old.now → HoldsContents (record { cells = cells old.now; tabs = (Int id ∷ Text name ∷ Text ddl ∷ []) ∷ tabs old.now }) old.now new.now
inserts_tab old new id name ddl count h it =
    let has = it.tables.is in
    let params = Int id ∷ Text name ∷ Text ddl ∷ [] in
    let w = wrote_by tab_statement params old new it.tables count h in
    let given = inserts old new tab 1 (rw has refl) it.no_keys _ params count (Values tab_terms 4) refl w in
    let edits = subst (λ rows. Edits old.now new.now (edit_of old.now.trees tab [] Chosen 0 rows)) given.1.1 given.2 in
    let more = IsPermutation-map tab_of _ _ (added old.now new.now tab (Int id ∷ Null ∷ Text name ∷ Text ddl ∷ []) edits) in
    holds_tabs old.now new.now _ it edits refl (params ∷ tabs old.now) (subst (λ r. IsPermutation (r ∷ tabs old.now) (tabs new.now)) (made_tab old.now.trees id name ddl) more)
