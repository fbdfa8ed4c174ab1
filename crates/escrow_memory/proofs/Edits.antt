-- From an edit at the place that a search finds to the terms of the contracts.
use Rattle.std.proofs.Common.{◌≡◌, ◌∙◌, ℕ, zero, suc, ◌<◌, ◌≤◌, Bool, true, false, not, inl, inr, eq-or-lt_of_le, List, [], ◌∷◌, filter, length, get_or, set, insert, refl, sym, ap, subst, arith, Ordering, Less, Equal, Greater, is_lt, is_eq, true≢false}
use Rattle.std.specs.Cmp.{IsTotalOrder}
use Rattle.std.specs.Ordering.{ordering_reverse}
use Rattle.std.specs.Borrow.{Bor}
use Rattle.std.specs.Prelude.{Result, Ok, Err, OnOk, OnErr, Option, Some, None, IfSome}
use Rattle.std.proofs.Math.Nat.{suc-add, add-zero}
use Rattle.std.proofs.Math.Seq.{append_snoc}
use Rattle.std.proofs.lemmas.Cmp.{alike_right}
use mir.Val.{bool_byte}
use Rattle.sqlite_value.specs.declared.value.Value.{Value}
use Rattle.sqlite_value.specs.Order.{Row, value_cmp}
use Rattle.sqlite_record.specs.Record.{decode}
use Rattle.sqlite_trees.specs.declared.store.Shape.{Shape}
use Rattle.sqlite_trees.specs.declared.store.Shape.TheVariants.{Absent, Table, Index, Pageless, FrozenTable, FrozenIndex}
use Rattle.sqlite_trees.specs.Probe.{IsPlaceOf, IsTestAt}
use Rattle.sqlite_trees.specs.Tree.{rowid, IsAscending, IsTable, put_row}
use Rattle.sqlite_trees.specs.View.{IsShaped}
use Rattle.sqlite_trees.proofs.ListLemmas.{all_weaker, ascending-get_or, ascending_weaker, filter_all}
use Rattle.sqlite_trees.proofs.MemoryLemmas.{shaped, set-put_row, insert-put_row}
use Rattle.escrow_memory.specs.declared.tree.Tree.{Tree}
use Rattle.escrow_memory.specs.Rows.{spliced, IsCut}

-- a tree's rows are in the order that its shape requires
pub shaped_as : (tree : Tree) (shape : Shape) → tree.shape ≡ shape → IsShaped shape tree.rows
shaped_as tree shape is = subst (λ shape. IsShaped shape tree.rows) is (shaped tree.shape tree.rows tree.ordered)

-- the rows of a table are in ascending order of rowid
pub table_rises : (tree : Tree) → tree.shape ≡ Table → IsTable tree.rows
table_rises tree is = (shaped_as tree Table is).0

-- an edit after the first row leaves that row unchanged
spliced_behind : (at cut : ℕ) (new : List Row) (x : Row) (rows : List Row) → spliced (suc at) cut new (x ∷ rows) ≡ x ∷ spliced at cut new rows
spliced_behind at cut new x rows = rw suc-add refl

-- a new row replaces one row
spliced_as_set : (new : Row) (rows : List Row) (at : ℕ) → at < length rows → spliced at 1 (new ∷ []) rows ≡ set rows at new
spliced_as_set new [] at within = absurd (omega arith)
spliced_as_set new (x ∷ rows) zero within = refl
spliced_as_set new (x ∷ rows) (suc at) within = spliced_behind at 1 (new ∷ []) x rows ∙ ap (λ l. x ∷ l) (spliced_as_set new rows at (omega arith))

-- a new row is inserted between two rows
pub spliced_as_insert : (new : Row) (rows : List Row) (at : ℕ) → spliced at 0 (new ∷ []) rows ≡ insert rows at new
spliced_as_insert new rows at = rw (append_snoc, add-zero) refl

-- writing a row replaces the row with the same rowid, if there is one
pub spliced_as_put : (new : Row) (id : Value) (rows : List Row) (at : ℕ) (found : Bool) → id ≡ rowid new → IsPlaceOf (λ row. is_lt (value_cmp (rowid row) id)) rows at
    → IsTestAt (λ row. is_eq (value_cmp (rowid row) id)) rows at found → spliced at (bool_byte found) (new ∷ []) rows ≡ put_row new rows
spliced_as_put new id rows at true same place test =
    let here = rw same at test.1 in
    spliced_as_set new rows at test.0 ∙ set-put_row new rows at (rw same at place) test.0 here
spliced_as_put new id rows at false same place other =
    spliced_as_insert new rows at ∙ insert-put_row new rows at (rw same at place) (rw same at other)

-- a test of the entry that a search returns is a test of the row at its place
pub tested_at : (test : Row → Bool) (rows : List Row) (at : ℕ) (found : Option (Bor (List ℕ))) (result : Bool) → IfSome found (λ entry. (at < length rows) × (decode entry.now ≡ get_or rows at [])) → (found ≡ None → length rows ≤ at)
    → IfSome found (λ entry. result ≡ test (decode entry.now)) → (found ≡ None → result ≡ false) → IsTestAt test rows at result
tested_at test rows at None result some none same other = rw (other refl) (λ within. absurd (omega (arith, none refl)))
tested_at test rows at (Some entry) true (within, reads) none same other = (within, rw (← reads) (sym same))
tested_at test rows at (Some entry) false (within, reads) none same other = λ h. rw (← reads) (sym same)

-- a test for `Less`, as an equation
less : (o : Ordering) → is_lt o ≡ true → o ≡ Less
less Less h = refl
less Equal h = absurd (true≢false (sym h))
less Greater h = absurd (true≢false (sym h))

-- a test for `Equal`, as an equation
equal : (o : Ordering) → is_eq o ≡ true → o ≡ Equal
equal Less h = absurd (true≢false (sym h))
equal Equal h = refl
equal Greater h = absurd (true≢false (sym h))

-- Rows ascending by key, and a key to look for: tables ascend by rowid, and indexes by whole entries.
module _ {K : Type 0} (cmp : K → K → Ordering) (total : IsTotalOrder cmp) (key : Row → K) (k : K) where
  -- each row is below the later rows
  abbrev Rises : List Row → Type 0
  Rises = IsAscending (λ a b. cmp (key a) (key b) ≡ Less)

  -- the place after the rows that are below the key
  abbrev IsKeyPlace : List Row → ℕ → Type 0
  IsKeyPlace = IsPlaceOf (λ row. is_lt (cmp (key row) k))

  abbrev has_key : Row → Bool
  has_key row = is_eq (cmp (key row) k)

  -- the rows without those that have the key
  abbrev without_key : List Row → List Row
  without_key = filter (λ row. not (has_key row))

  -- a row before one that is below the key is also below it
  pub cut_below : (rows : List Row) → Rises rows → IsCut (λ row. is_lt (cmp (key row) k)) rows
  cut_below = ascending_weaker _ _ (λ a b up below. ap is_lt (total.trans _ _ k up (less _ below)))

  -- a row after one that is not below the key does not have the key
  beyond : (a b : Row) → is_lt (cmp (key a) k) ≡ false → cmp (key a) (key b) ≡ Less → (o : Ordering) → cmp (key b) k ≡ o → not (is_eq o) ≡ true
  beyond a b over up Less e = refl
  beyond a b over up Greater e = refl
  beyond a b over up Equal e = absurd (true≢false (sym (ap is_lt (sym (alike_right total _ _ (key a) e) ∙ up)) ∙ over))

  -- a row that has the key is at its place
  pub place_of_own : (rows : List Row) (at : ℕ) → Rises rows → at < length rows → has_key (get_or rows at []) ≡ true → IsKeyPlace rows at
  place_of_own rows at up inside own =
      let here = key (get_or rows at []) in
      let same : cmp here k ≡ Equal = equal _ own in
      record {
        within = omega arith;
        before = λ i below. ap is_lt (sym (alike_right total here k _ same) ∙ ascending-get_or _ rows i at [] up below inside);
        after = λ i from within. elim (eq-or-lt_of_le from) [
          | inl is ↦ rw (← is) (ap is_lt same)
          | inr above ↦ ap is_lt (total.antisymm _ k ∙ ap ordering_reverse (sym (total.congr here k _ same) ∙ ascending-get_or _ rows at i [] up above within))
        ];
      }

  -- none of these rows is filtered out
  none_behind : (x : Row) (rows : List Row) → is_lt (cmp (key x) k) ≡ false → Rises (x ∷ rows) → without_key rows ≡ rows
  none_behind x rows over up = filter_all _ rows (all_weaker _ _ (λ row above. beyond x row over above (cmp (key row) k) refl) rows up.0)

  -- the place among the rows after the first
  tail_place : (x : Row) (rows : List Row) (at : ℕ) → IsKeyPlace (x ∷ rows) (suc at) → IsKeyPlace rows at
  tail_place x rows at place = record {
    within = omega (arith, place.within);
    before = λ i h. place.before (suc i) (omega arith);
    after = λ i h q. place.after (suc i) (omega arith) (omega arith);
  }

  -- the row at the place is the only one with the key, if it has the key
  pub spliced_as_without : (rows : List Row) (at : ℕ) → Rises rows → IsKeyPlace rows at → IsTestAt has_key rows at true → spliced at 1 [] rows ≡ without_key rows
  spliced_as_without [] at up place test = absurd (omega (arith, test.0))
  spliced_as_without (x ∷ rows) zero up place test = rw test.1 (sym (none_behind x rows (place.after 0 (omega arith) (omega arith)) up))
  spliced_as_without (x ∷ rows) (suc at) up place test =
      spliced_behind at 1 [] x rows ∙ rw (less _ (place.before 0 (omega arith))) (ap (λ l. x ∷ l) (spliced_as_without rows at up.1 (tail_place x rows at place) (omega (arith, test.0), test.1)))

  -- if that row does not have the key, no row has it
  pub same_without : (rows : List Row) (at : ℕ) → Rises rows → IsKeyPlace rows at → IsTestAt has_key rows at false → rows ≡ without_key rows
  same_without [] at up place other = refl
  same_without (x ∷ rows) zero up place other =
      rw (other (omega arith)) (ap (λ l. x ∷ l) (sym (none_behind x rows (place.after 0 (omega arith) (omega arith)) up)))
  same_without (x ∷ rows) (suc at) up place other =
      rw (less _ (place.before 0 (omega arith))) (ap (λ l. x ∷ l) (same_without rows at up.1 (tail_place x rows at place) (λ h. other (omega arith))))

-- an empty list of rows is a tree of any shape
shaped_empty : (shape : Shape) → IsShaped shape []
shaped_empty Absent = refl
shaped_empty Pageless = refl
shaped_empty FrozenTable = (tt, tt)
shaped_empty (FrozenIndex order) = tt
shaped_empty Table = (tt, tt)
shaped_empty (Index order) = tt

-- an edit leaves a tree of its shape: the edited rows, or none if the edit fails
pub shaped_after : {T E : Type 0} (result : Result T E) (shape : Shape) (made new : List Row) → IsShaped shape made → OnOk result (new ≡ made) → OnErr result (new ≡ []) → ∥ IsShaped shape new ∥₁
shaped_after (Ok x) shape made new kept ok err = rw ok (∣ kept ∣₁)
shaped_after (Err e) shape made new kept ok err = rw err (∣ shaped_empty shape ∣₁)
