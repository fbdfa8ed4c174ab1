-- What a store shows after a write.
use Rattle.std.proofs.Common.{Result, Ok, Err, IfErr, ◌≡◌, ◌≢◌, ℕ, ◌^◌, ◌<◌, true, false, List, [], ◌∷◌, map, get_or, set, cond, eqb, unwrap_or, refl, sym, ap, ◌∙◌, arith, eq-eqb, ne_eqb, inl, inr}
use Rattle.std.proofs.lemmas.Bool.{cases_eq}
use Rattle.std.proofs.lemmas.List.{map-set, length-map}
use mathlib.Core.Path.{fun_ext}
use Rattle.sqlite_value.specs.Order.{Row}
use Rattle.sqlite_trees.specs.declared.error.StoreError.{StoreError}
use Rattle.sqlite_trees.specs.declared.error.StoreError.TheVariants.{OutOfMemory, Io, Corrupt, Full, Broken, Unstorable}
use Rattle.sqlite_trees.specs.declared.schema.Object.{Object}
use Rattle.sqlite_trees.specs.declared.store.Shape.{Shape}
use Rattle.sqlite_trees.specs.declared.store.Shape.TheVariants.{Absent, Table}
use Rattle.sqlite_record.specs.Refusal.{IsRefusal}
use Rattle.sqlite_trees.specs.Tree.{Trees, with_tree, put_row}
use Rattle.sqlite_trees.specs.View.{View, SetsTree, OnlyWrites, IsFailure, HasCause}
use Rattle.sqlite_trees.specs.Objects.{catalog_tree, version_tree, with_version, description, set_at, SetsObject, object_row, Relists}
use Rattle.sqlite_trees.specs.Listing.{Heading, no_heading, objects_from, shape_in, reals_in, reals_unless_absent, objects_from-set}
use Rattle.sqlite_trees.proofs.StoreLemmas.{named, under_version, versioned_edit, versioned_object, get_or-set_cases, present_reals}
use Rattle.escrow_memory.specs.declared.store.BlockStore.{BlockStore}
use Rattle.escrow_memory.specs.declared.forest.Forest.{Forest}
use Rattle.escrow_memory.specs.Held.{Held, headings, rows_of, shape_of, objects_of, forest, shapes, reals, all_shapes, all_reals}
use Rattle.escrow_memory.specs.Store.{trees_of, snapshot_of, current, block_view, IsReplaced}
use Rattle.escrow_memory.proofs.Forests.{rows_set, forest_edited}

-- two sound stores with the same base and savepoints differ only in what the transaction sees
pub written : (old new : BlockStore) (trees : Trees) (kinds : ℕ → Shape) (bits : ℕ → ℕ) → new.base ≡ old.base → new.marks ≡ old.marks → old.is_broken ≡ false → new.is_broken ≡ false
    → (snapshot_of (current new)).trees ≡ trees → (snapshot_of (current new)).shape ≡ kinds → (snapshot_of (current new)).reals ≡ bits
    → block_view new ≡ record (block_view old) { trees = trees; shape = kinds; reals = bits; cursors = (block_view new).cursors }
written old new trees kinds bits base marks was now a b c = λ i. record (block_view new) {
  trees = a i;
  shape = b i;
  reals = c i;
  committed = (snapshot_of (base i)).trees;
  committed_shape = (snapshot_of (base i)).shape;
  committed_reals = (snapshot_of (base i)).reals;
  marks = map (λ mark. snapshot_of (unwrap_or mark (base i))) (marks i).items;
  is_broken = (now ∙ sym was) i;
}

set_turned : {X : Type 0} (f : ℕ → X) (t : ℕ) (x y : X) → t < 2 ^ 32 → set_at (set_at f t x) catalog_tree y ≡ set_at (set_at f catalog_tree y) t x
set_turned f t x y low = fun_ext (λ k. elim (cases_eq k t) [ inl same ↦ rw (same, named t low, eq-eqb t t refl) | inr other ↦ rw (ne_eqb k t other) ])

over_catalog : (db : Trees) (t : ℕ) (rows first second : List Row)
    → with_tree (with_tree (with_tree db catalog_tree first) t rows) catalog_tree second ≡ with_tree (with_tree db t rows) catalog_tree second
over_catalog db t rows first second = fun_ext (λ k. elim (cases_eq k catalog_tree) [ inl same ↦ rw same | inr other ↦ rw (ne_eqb k catalog_tree other) ])

set_same : {X : Type 0} (f : ℕ → X) (t : ℕ) → set_at f t (f t) ≡ f
set_same f t = fun_ext (λ k. elim (cases_eq k t) [ inl same ↦ rw (eq-eqb k t same, same) | inr other ↦ rw (ne_eqb k t other) ])

module _ (old new : BlockStore) (tree : ℕ) (it : Held) (low : tree < 2 ^ 32) (made : IsReplaced old new tree it) where
  named_so : headings (trees_of (current new)) ≡ set (headings made.trees.room) tree it.0
  named_so = ap headings made.trees.is ∙ map-set (λ (x : Held). x.0) made.trees.room tree it

  at : (k : ℕ) → get_or (headings (trees_of (current new))) k no_heading ≡ cond (eqb k tree) it.0 (get_or (headings made.trees.room) k no_heading)
  at k = ap (λ l. get_or l k no_heading) named_so ∙ get_or-set_cases _ tree _ no_heading (rw length-map made.trees.within) k

  set_in : (edit : List Row → List Row) → objects_from 0 (set (headings made.trees.room) tree it.0) ≡ edit (objects_of made.trees.room) → block_view new ≡ record (block_view old) {
    trees = with_tree (with_tree (block_view old).trees tree it.1) catalog_tree (edit (objects_of (trees_of (current old))));
    shape = set_at (all_shapes (trees_of (current old))) tree it.0.0;
    reals = set_at (all_reals (trees_of (current old))) tree (reals_unless_absent it.0.0 it.0.1);
    cursors = (block_view new).cursors;
  }
  set_in edit listed =
      let rows : rows_of (trees_of (current new)) ≡ with_tree (rows_of made.trees.room) tree it.1 = ap rows_of made.trees.is ∙ rows_set made.trees.room tree it made.trees.within in
      let trees : forest (trees_of (current new)) ≡ with_tree (with_tree (forest (trees_of (current old))) tree it.1) catalog_tree (edit (objects_of (trees_of (current old)))) =
      rw (named_so, listed, over_catalog (rows_of (trees_of (current old))) tree it.1 (objects_of (trees_of (current old))) (edit (objects_of (trees_of (current old)))), ← made.trees.alike.rows, ← made.trees.alike.objects, rows) in
      let kinds : shapes (trees_of (current new)) ≡ set_at (shapes (trees_of (current old))) tree it.0.0 =
      rw (← made.trees.alike.shapes, ← set_turned (shape_of made.trees.room) tree it.0.0 Table low) (fun_ext (λ k. ap (λ (x : Heading). cond (eqb k catalog_tree) Table x.0) (at k) ∙ (elim (eqb k tree) as (λ b. cond (eqb k catalog_tree) Table (cond b it.0 (get_or (headings made.trees.room) k no_heading)).0 ≡ cond (eqb k catalog_tree) Table (cond b it.0.0 (shape_of made.trees.room k))) [ true ↦ refl | false ↦ refl ]))) in
      let real : reals (trees_of (current new)) ≡ set_at (reals (trees_of (current old))) tree (reals_unless_absent it.0.0 it.0.1) =
      rw (← made.trees.alike.reals, ← set_turned (reals_in (headings made.trees.room)) tree (reals_unless_absent it.0.0 it.0.1) 0 low) (fun_ext (λ k. ap (λ (x : Heading). cond (eqb k catalog_tree) 0 (reals_unless_absent x.0 x.1)) (at k) ∙ (elim (eqb k tree) as (λ b. cond (eqb k catalog_tree) 0 (reals_unless_absent (cond b it.0 (get_or (headings made.trees.room) k no_heading)).0 (cond b it.0 (get_or (headings made.trees.room) k no_heading)).1) ≡ cond (eqb k catalog_tree) 0 (cond b (reals_unless_absent it.0.0 it.0.1) (reals_in (headings made.trees.room) k))) [ true ↦ refl | false ↦ refl ]))) in
      written old new _ _ _ made.base made.marks made.was_sound made.sound (rw made.version (versioned_object (forest (trees_of (current old))) _ tree (current old).version it.1 edit (omega arith) trees))
      (rw kinds (under_version (shapes (trees_of (current old))) tree _ _ (omega arith))) (rw real (under_version (reals (trees_of (current old))) tree _ _ (omega arith)))

  -- a tree that is created or dropped
  pub replaced : it.1 ≡ [] → (edit : List Row → List Row) → objects_from 0 (set (headings made.trees.room) tree it.0) ≡ edit (objects_of made.trees.room)
      → SetsObject (block_view old) (block_view new) tree it.0.0 (reals_unless_absent it.0.0 it.0.1) edit
  replaced empty edit listed = record {
    sound = made.was_sound;
    is = set_in edit listed ∙ (λ i. record (block_view old) {
      trees = with_tree (with_tree (block_view old).trees tree (empty i)) catalog_tree (edit (objects_of (trees_of (current old))));
      shape = set_at (all_shapes (trees_of (current old))) tree it.0.0;
      reals = set_at (all_reals (trees_of (current old))) tree (reals_unless_absent it.0.0 it.0.1);
      cursors = (block_view new).cursors;
    });
  }

  -- a tree that keeps its rows and is listed as another object
  pub relabelled : (o : Object) → it.0 ≡ (o.shape, o.reals, description o) → o.shape ≢ Absent → all_shapes (trees_of (current old)) tree ≡ o.shape → it.1 ≡ (block_view old).trees tree
      → Relists (block_view old) (block_view new) ((tree, o) ∷ [])
  relabelled o is there shaped rows =
      let shape : it.0.0 ≡ o.shape = ap (λ (x : Heading). x.0) is in
      let bits : it.0.1 ≡ o.reals = ap (λ (x : Heading). x.1) is in
      let listed : objects_from 0 (set (headings made.trees.room) tree it.0) ≡ put_row (object_row tree o) (objects_of made.trees.room) =
      rw is (objects_from-set (headings made.trees.room) 0 tree tree (o.shape, o.reals, description o) (omega arith) (rw length-map made.trees.within) there) in
      let objects = put_row (object_row tree o) (objects_of (trees_of (current old))) in
      let trees : with_tree (with_tree (block_view old).trees tree it.1) catalog_tree objects ≡ with_tree (block_view old).trees catalog_tree objects =
      ap (λ (db : Trees). with_tree db catalog_tree objects) (ap (with_tree (block_view old).trees tree) rows ∙ set_same (block_view old).trees tree) in
      let kinds : set_at (all_shapes (trees_of (current old))) tree it.0.0 ≡ all_shapes (trees_of (current old)) = ap (set_at (all_shapes (trees_of (current old))) tree) (shape ∙ sym shaped) ∙ set_same (all_shapes (trees_of (current old))) tree in
      let real : reals_unless_absent it.0.0 it.0.1 ≡ o.reals = rw (shape, bits) (present_reals o.shape o.reals there) in
      record {
        sound = made.was_sound;
        is = set_in (put_row (object_row tree o)) listed
            ∙ (λ i. record (block_view old) { trees = trees i; shape = kinds i; reals = set_at (all_reals (trees_of (current old))) tree (real i); cursors = (block_view new).cursors });
      }

-- a write changes only trees and cursors
pub write_frame : (old new : View) (tree : ℕ) (edit : List Row → List Row) → SetsTree old new tree edit → OnlyWrites old new
write_frame old new tree edit h = λ i. record (h.is i) { trees = new.trees; cursors = new.cursors }

-- what the transaction sees after one of its trees was edited
pub edit_shown : (s : BlockStore) (made done : Forest) (t : ℕ) (edit : List Row → List Row) → t < 2 ^ 32
    → trees_of made ≡ trees_of (current s) → made.version ≡ (current s).version
    → headings (trees_of done) ≡ headings (trees_of made) → rows_of (trees_of done) ≡ with_tree (rows_of (trees_of made)) t (edit (rows_of (trees_of made) t)) → done.version ≡ made.version
    → snapshot_of done ≡ record { trees = with_tree (block_view s).trees t (edit ((block_view s).trees t)); shape = (block_view s).shape; reals = (block_view s).reals }
edit_shown s made done t edit low seen number same rows kept =
    let now = trees_of (current s) in
    let heads : headings (trees_of done) ≡ headings now = same ∙ ap headings seen in
    let edited : rows_of (trees_of done) ≡ with_tree (rows_of now) t (edit (rows_of now t)) = rows ∙ ap (λ l. with_tree (rows_of l) t (edit (rows_of l t))) seen in
    let trees = ap (with_version (forest (trees_of done))) (kept ∙ number) ∙ versioned_edit (forest now) (forest (trees_of done)) t (current s).version edit (omega arith) (forest_edited now (trees_of done) t edit low heads edited) in
    λ i. record {
      trees = trees i;
      shape = set_at (set_at (shape_in (heads i)) catalog_tree Table) version_tree Table;
      reals = set_at (set_at (reals_in (heads i)) catalog_tree 0) version_tree 0;
    }

-- a row that cannot be encoded gives a cause
pub cause_of : (old : View) (Fits : Type 0) (e : StoreError) → IsRefusal Fits e → HasCause old ⊥ (¬ Fits) e
cause_of old Fits e (inl memory) = rw memory tt
cause_of old Fits e (inr refused) = rw refused.0 refused.1

-- a call that failed and changed only cursors
pub failed : {X : Type 0} (r : Result X StoreError) (old new : View) → new ≡ record old { cursors = new.cursors } → IfErr r (IsFailure old new)
failed (Ok x) old new same = tt
failed (Err e) old new same = record {
  kept = record {
    shape = ap (λ (v : View). v.shape) same;
    reals = ap (λ (v : View). v.reals) same;
    committed_shape = ap (λ (v : View). v.committed_shape) same;
    committed_reals = ap (λ (v : View). v.committed_reals) same;
    numbered = ap (λ (v : View). v.is_numbered) same;
    was_open = λ h. sym (ap (λ (v : View). v.is_open) same) ∙ h;
    committed = λ _. ap (λ (v : View). v.committed) same;
    marks = λ _. ap (λ (v : View). v.marks) same;
  };
  unchanged = λ _. same;
  refused = λ _ _. same;
}

-- two forests with the same trees and version look the same
pub same_snapshot : (a b : Forest) → trees_of a ≡ trees_of b → a.version ≡ b.version → snapshot_of a ≡ snapshot_of b
same_snapshot a b trees version = λ i. record {
  trees = with_version (forest (trees i)) (version i);
  shape = all_shapes (trees i);
  reals = all_reals (trees i);
}

-- the cause of a failure may be replaced by a weaker one
pub cause_weaker : {X : Type 0} (r : Result X StoreError) (old : View) (Fault Why Whence : Type 0) → (Why → Whence) → IfErr r (HasCause old ⊥ Why) → IfErr r (HasCause old Fault Whence)
cause_weaker (Ok x) old Fault Why Whence so h = tt
cause_weaker (Err OutOfMemory) old Fault Why Whence so h = tt
cause_weaker (Err Io) old Fault Why Whence so h = absurd h
cause_weaker (Err Corrupt) old Fault Why Whence so h = absurd h
cause_weaker (Err Full) old Fault Why Whence so h = absurd h
cause_weaker (Err Broken) old Fault Why Whence so h = h
cause_weaker (Err Unstorable) old Fault Why Whence so h = so h
