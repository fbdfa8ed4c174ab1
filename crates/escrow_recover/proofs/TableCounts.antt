-- Tables whose rows are counted, one table after another.
use Rattle.std.proofs.Common.{◌≡◌, List, [], ◌∷◌, ◌++◌, sym, subst, IsTrue}
use Rattle.std.specs.List.{AllByRecursion}
use Rattle.sqlite_trees.proofs.ListLemmas.{all-append}
use Rattle.sqlite.specs.Effect.{Database}
use Rattle.sqlite.specs.State.{State, HasCleanDisk}
use Rattle.escrow_num.specs.declared.row.Row.{Row}
use Rattle.escrow_cells.specs.Store.{IsStore}
use Rattle.escrow_schema.specs.declared.stored.StoredTable.{StoredTable}
use Rattle.escrow_rows.specs.Answers.{IsUsable, OnlyReads}
use Rattle.escrow_schema.specs.declared.counted_table.CountedTable.{CountedTable}
use Rattle.escrow_recover.specs.Inside.{AreRowsIn, HasRows, HaveRows}

-- what holds of all items holds of each one of them
pub all_middle : {A : Type 0} (P : A → Type 0) (xs ys zs : List A) (x : A) → xs ++ x ∷ ys ≡ zs → AllByRecursion P zs → P x
all_middle {A} P xs ys zs x e h = at xs (subst (AllByRecursion P) (sym e) h)
  where
    at : (ws : List A) → AllByRecursion P (ws ++ x ∷ ys) → P x
    at [] k = k.0
    at (w ∷ ws) k = at ws k.1

-- if the store can be used, the counted tables have their rows in it
abbrev pub HaveTheirRows : State → State → List CountedTable → Type 0
HaveTheirRows first now counted = HasCleanDisk now → IsTrue first.is_open → IsTrue now.is_open × (IsStore first.now → AllByRecursion (HasRows first.now) counted)

-- no table is counted yet
pub counts_none : (s : State) → HaveTheirRows s s []
counts_none s clean was = (was, λ store. tt)

-- one more table
pub counts_more : (first mid new : State) (counted : List CountedTable) (c : CountedTable) → OnlyReads first mid → OnlyReads mid new → HaveTheirRows first mid counted
    → (HasCleanDisk new → IsTrue new.is_open × (IsStore mid.now → HasRows mid.now c)) → HaveTheirRows first new (counted ++ c ∷ [])
counts_more first mid new counted c one two so_far more clean was =
    let now = more clean in
    let usable = two.usable (clean, now.0) in
    let same = one.same usable in
    (now.0, λ store. all-append (HasRows first.now) counted (c ∷ []) ((so_far usable.0 was).1 store) (subst (λ (db : Database). HasRows db c) same (now.1 (subst IsStore (sym same) store)), tt))

-- a table has no such rows
pub none_have : (first mid new : State) (tables done left : List StoredTable) (s : StoredTable) → OnlyReads first mid → OnlyReads mid new → done ++ s ∷ left ≡ tables → IsUsable new
    → (IsStore mid.now → (rows : List Row) → AreRowsIn s rows mid.now → ⊥) → IsStore first.now → HaveRows first.now tables → ⊥
none_have first mid new tables done left s one two is usable none store have =
    let same = one.same (two.usable usable) in
    let mine = all_middle (λ (t : StoredTable). (rows : List Row) × AreRowsIn t rows first.now) done left tables s is have in
    none (subst IsStore (sym same) store) mine.0 (subst (AreRowsIn s mine.0) (sym same) mine.1)
