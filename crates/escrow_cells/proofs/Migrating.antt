-- What UPDATE does to META.
use Rattle.std.proofs.Common.{◌≡◌, ℕ, true, not, ◌&&◌, List, [], ◌∷◌, ◌++◌, map, filter, drop, codes, slice_get, Some, Ok, IsPermutation, refl, ap, ap₂, ◌∙◌, subst}
use Rattle.std.specs.Ordering.{is_eq}
use Rattle.sqlite_value.specs.declared.value.Value.{Value}
use Rattle.sqlite_value.specs.declared.value.Value.TheVariants.{Int, Text}
use Rattle.sqlite_value.specs.declared.keys.Collation.TheVariants.{Binary}
use Rattle.sqlite_value.specs.Order.{Row, column}
use Rattle.sqlite_sql.specs.declared.ops.CompareOp.TheVariants.{Eq}
use Rattle.sqlite_sql.specs.declared.ops.BinaryOp.TheVariants.{Compare}
use Rattle.sqlite_value.proofs.OrderLemmas.{value_cmp-Text}
use Rattle.sqlite_sql.specs.Term.{Term, lit, col, op2, eval_all}
use Rattle.sqlite_schema.specs.declared.schema.Schema.{Schema}
use Rattle.sqlite_schema.specs.declared.command.Command.TheVariants.{Update}
use Rattle.sqlite_rules.specs.declared.error.Rowids.TheVariants.{Given}
use Rattle.sqlite_rules.specs.Cast.{cast_row}
use Rattle.sqlite_rules.specs.Edit.{put_all, are_fresh, without_all, numbered}
use Rattle.sqlite_rules.specs.Calls.{ids_of}
use Rattle.sqlite_rules.proofs.PlaceLemmas.{given}
use Rattle.sqlite_tied.specs.Compute.{everything}
use Rattle.sqlite.specs.Listing.{understood}
use Rattle.sqlite.specs.Ops.{binary, is_true, from_truth}
use Rattle.sqlite.specs.State.{State, Executes}
use Rattle.sqlite.proofs.Callers.{one_permutation}
use Rattle.escrow_cells.specs.declared.formats.TheConstants.{FORMAT}
use Rattle.escrow_cells.specs.Tables.{meta}
use Rattle.escrow_cells.specs.Store.{NumbersDiffer, Migrates}
use Rattle.escrow_cells.specs.Step.{same}
use Rattle.escrow_cells.proofs.Columns.{cast_held}
use Rattle.escrow_cells.proofs.FormatRow.{meta_of}
use Rattle.escrow_cells.proofs.Inside.{IsStatement, updates, wrote_by}
use Rattle.escrow_cells.proofs.Leaves.{has_migrated}
use Rattle.escrow_cells.proofs.Makes.{put_beside, left_is}
use Rattle.escrow_cells.proofs.Matches.{plain_query, passes, matched}

abbrev pub format_update : List ℕ
format_update = codes "UPDATE META SET V = 2 WHERE K = 'format'"

abbrev format_name : Value
format_name = Text (codes "format")

abbrev format_tests : List Term
format_tests = op2 (Compare Eq Binary) (col 1 1) (lit format_name) ∷ []

-- the rowid, followed by the row with the known format
abbrev format_terms : List Term
format_terms = col 1 0 ∷ col 1 0 ∷ col 1 1 ∷ lit (Int FORMAT) ∷ []

format_statement : IsStatement format_update (Update 0 (record { lets = []; body = plain_query 0 format_tests format_terms }))
unfolding understood everything
format_statement = record { is = λ _ _ _. refl; plain = λ _ _ _. (refl, refl) }

-- if only one row is shown, there is only one row
one_row : (rows : List Row) (told : Row) → map meta_of rows ≡ told ∷ [] → (r : Row) × (rows ≡ r ∷ []) × (meta_of r ≡ told)
one_row [] told e = absurd (cc)
one_row (r ∷ []) told e = (r, refl, cc)
one_row (r ∷ s ∷ rows) told e = absurd (cc)

abbrev found_by : Row → Row
found_by r = eval_all format_terms ([] ∷ r ∷ [])

abbrev set_row : Row → Row
set_row r = cast_row meta (drop 1 (found_by r))

itself : same format_name format_name ≡ true
unfolding binary
itself = ap (λ o. is_true (from_truth (Some (is_eq o)))) (value_cmp-Text (codes "format") (codes "format"))

-- the row of the format is found
is_found : (r : Row) → column r 1 ≡ format_name → passes format_tests [] r ≡ true
is_found r name = ap (λ v. same v format_name && true) name ∙ ap (λ b. b && true) itself

-- afterwards, the row names the known format
says_known : (r : Row) → column r 1 ≡ format_name → meta_of (set_row r) ≡ format_name ∷ Int FORMAT ∷ []
says_known r name = rw name (ap (λ v. format_name ∷ v ∷ []) (cast_held (Int FORMAT) refl))

module _ (rows found : List Row) (r : Row) (one : rows ≡ r ∷ []) (name : column r 1 ≡ format_name) (numbered_rows : NumbersDiffer rows)
    (same_rows : IsPermutation (map found_by (filter (passes format_tests []) rows)) found) where
  abbrev left : List Row
  left = without_all rows (ids_of found)

  abbrev news : List Row
  news = numbered Given left (map (λ s. cast_row meta (drop 1 s)) found)

  found_is : found ≡ found_by r ∷ []
  found_is = one_permutation (found_by r) found (rw (is_found r name) at (subst (λ rs. IsPermutation (map found_by (filter (passes format_tests []) rs)) found) one same_rows))

  none_left : left ≡ []
  none_left = left_is (passes format_tests []) found_by rows found (λ r. refl) numbered_rows same_rows ∙ ap (filter (λ r. not (passes format_tests [] r))) one ∙ rw (is_found r name) refl

  news_are : news ≡ set_row r ∷ []
  news_are = given left _ ∙ ap (map (λ s. cast_row meta (drop 1 s))) found_is

  set_rows : are_fresh left news ≡ true → put_all left news ≡ set_row r ∷ []
  set_rows fresh =
      one_permutation (set_row r) (put_all left news) (subst (λ rows. IsPermutation rows (put_all left news)) (ap₂ ◌++◌ news_are none_left) (put_beside news left fresh))

-- UPDATE replaces another format by the known one
pub updates_format : (old new : State) (n : ℕ) → Executes format_update [] old new (Ok n) → Migrates old.now new.now
updates_format old new n ran number store is =
    let t = store.tables in
    let row = one_row (old.now.trees 0) (format_name ∷ Int number ∷ []) is in
    let name : column row.0 1 ≡ format_name = ap (λ told. column told 0) row.2 in
    let w = wrote_by format_statement [] old new t n ran in
    let u = updates old new meta 0 (ap (λ (s : Schema). slice_get s.tables 0) t.is) store.no_keys _ [] n _ w in
    let found = matched old.now [] 0 format_tests format_terms u.0 u.1 in
    let now = u.2.applies.rows ∙ set_rows (old.now.trees 0) u.0 row.0 row.1 name store.metas_numbered found u.2.applies.fresh in
    has_migrated old.now new.now _ store u.2 refl (ap (map meta_of) now ∙ ap (λ told. told ∷ []) (says_known row.0 name))
