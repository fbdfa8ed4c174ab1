-- Trees by their numbers.
use Rattle.std.proofs.Common.{◌≡◌, ◌≢◌, ℕ, zero, suc, ◌^◌, ◌<◌, List, [], ◌∷◌, ◌++◌, map, length, get_or, set, slice_get, Some, None, refl, sym, ap, ◌∙◌, arith, eq-eqb, ne_eqb, inl, inr}
use Rattle.std.proofs.lemmas.Bool.{cases_eq}
use Rattle.std.proofs.lemmas.List.{map-set, map-append, length-map, set-get_or}
use mathlib.Core.Path.{fun_ext}
use Rattle.sqlite_value.specs.Order.{Row}
use Rattle.sqlite_trees.specs.declared.store.Shape.{Shape}
use Rattle.sqlite_trees.specs.declared.store.Shape.TheVariants.{Absent, Table}
use Rattle.sqlite_trees.specs.Tree.{Trees, with_tree}
use Rattle.sqlite_trees.specs.Objects.{catalog_tree, with_version, set_at}
use Rattle.sqlite_trees.specs.Listing.{no_heading, reals_in, reals_unless_absent, objects_from, objects_from-push}
use Rattle.sqlite_trees.proofs.StoreLemmas.{named, unnumbered, get_or-set_cases}
use Rattle.escrow_memory.specs.declared.shared.Shared.{Shared}
use Rattle.escrow_memory.specs.Held.{Held, headings, rows_of, shape_of, forest, all_shapes, all_reals, AreAlike}
use Rattle.escrow_memory.specs.declared.tree.Edit.{Edit}
use Rattle.escrow_memory.specs.declared.tree.Edit.TheVariants.{Put, Delete, Insert, Remove}
use Rattle.escrow_memory.specs.Edit.{Fits}
use Rattle.escrow_memory.specs.Trees.{heading, all_held}

-- a number that names a tree is in range
pub present : (trees : List Held) (t : ℕ) → shape_of trees t ≢ Absent → t < length trees
present [] t there = absurd (there refl)
present (x ∷ trees) zero there = omega arith
present (x ∷ trees) (suc t) there = omega (arith, present trees t there)

-- the tree with a number is shown under that number
pub tree_at : (trees : List Shared) (t : ℕ) (x : Shared) → t < length trees → x ≡ get_or trees t x
    → (shape_of (all_held trees) t ≡ x.tree.value.shape) × (rows_of (all_held trees) t ≡ x.tree.value.rows)
tree_at [] t x within is = absurd (omega arith)
tree_at (y ∷ trees) zero x within is = (ap (λ z. z.tree.value.shape) (sym is), ap (λ z. z.tree.value.rows) (sym is))
tree_at (y ∷ trees) (suc t) x within is = tree_at trees t x (omega arith) is

pub heading_at : (trees : List Shared) (t : ℕ) (x : Shared) → t < length trees → x ≡ get_or trees t x → get_or (headings (all_held trees)) t no_heading ≡ heading x.tree.value
heading_at [] t x within is = absurd (omega arith)
heading_at (y ∷ trees) zero x within is = ap (λ z. heading z.tree.value) (sym is)
heading_at (y ∷ trees) (suc t) x within is = heading_at trees t x (omega arith) is

-- a tree with the same heading leaves the headings unchanged
pub headings_kept : (trees : List Held) (t : ℕ) (x : Held) → x.0 ≡ get_or (headings trees) t no_heading → headings (set trees t x) ≡ headings trees
headings_kept trees t x same = rw (map-set, same) (set-get_or (headings trees) t no_heading)

pub rows_set : (trees : List Held) (t : ℕ) (x : Held) → t < length trees → rows_of (set trees t x) ≡ with_tree (rows_of trees) t x.1
rows_set trees t x within =
    fun_ext (λ k. ap (λ l. get_or l k []) (map-set (λ (y : Held). y.1) trees t x) ∙ get_or-set_cases _ t _ [] (rw length-map within) k)

get_or-push_default : {X : Type 0} (xs : List X) (d : X) (k : ℕ) → get_or (xs ++ d ∷ []) k d ≡ get_or xs k d
get_or-push_default [] d zero = refl
get_or-push_default [] d (suc k) = refl
get_or-push_default (x ∷ xs) d zero = refl
get_or-push_default (x ∷ xs) d (suc k) = get_or-push_default xs d k

-- a placeholder for no tree shows nothing
pub alike_push : (old mid : List Held) → AreAlike old mid → AreAlike old (mid ++ (no_heading, []) ∷ [])
alike_push old mid h =
    let longer : headings (mid ++ (no_heading, []) ∷ []) ≡ headings mid ++ no_heading ∷ [] = map-append (λ (y : Held). y.0) mid _ in
    let same = λ (t : ℕ). ap (λ l. get_or l t no_heading) longer ∙ get_or-push_default (headings mid) no_heading t in
    record {
      rows = fun_ext (λ t. ap (λ l. get_or l t []) (map-append (λ (y : Held). y.1) mid _) ∙ get_or-push_default (map (λ (y : Held). y.1) mid) [] t) ∙ h.rows;
      shapes = (λ i. set_at (λ t. (same t i).0) catalog_tree Table) ∙ h.shapes;
      reals = (λ i. set_at (λ t. reals_unless_absent (same t i).0 (same t i).1) catalog_tree 0) ∙ h.reals;
      objects = ap (objects_from 0) longer ∙ objects_from-push (headings mid) 0 ∙ h.objects;
    }

pub alike_same : (trees : List Held) → AreAlike trees trees
alike_same trees = record { rows = refl; shapes = refl; reals = refl; objects = refl }

-- an edit of a tree that a call can name commutes with the list of objects
with_tree_turned : (db : Trees) (t : ℕ) (rows objects : List Row) → t < 2 ^ 32
    → with_tree (with_tree db t rows) catalog_tree objects ≡ with_tree (with_tree db catalog_tree objects) t rows
with_tree_turned db t rows objects low =
    fun_ext (λ k. elim (cases_eq k t) [ inl same ↦ rw (same, named t low, eq-eqb t t refl) | inr other ↦ rw (ne_eqb k t other) ])

-- the trees after one of them was edited
pub forest_edited : (old new : List Held) (t : ℕ) (edit : List Row → List Row) → t < 2 ^ 32 → headings new ≡ headings old
    → rows_of new ≡ with_tree (rows_of old) t (edit (rows_of old t)) → forest new ≡ with_tree (forest old) t (edit (forest old t))
forest_edited old new t edit low same rows = rw (same, rows, named t low) (with_tree_turned (rows_of old) t _ _ low)

pub shape_named : (trees : List Held) (t : ℕ) → t < 2 ^ 32 → all_shapes trees t ≡ shape_of trees t
shape_named trees t low = rw (named t low, unnumbered t low)

-- a write fits only an existing tree
pub fits_present : (edit : Edit) (shape : Shape) → Fits edit shape → shape ≢ Absent
fits_present (Put row) shape fits none = let is = fits.0 in cc
fits_present (Delete id) shape fits none = cc
fits_present (Insert order entry) shape fits none = cc
fits_present (Remove order entry) shape fits none = cc

-- a tree that is found is shown under its number
pub found_there : (trees : List Held) (t : ℕ) (x : Held) → slice_get trees t ≡ Some x
    → (shape_of trees t ≡ x.0.0) × (rows_of trees t ≡ x.1) × (reals_in (headings trees) t ≡ reals_unless_absent x.0.0 x.0.1)
found_there [] t x is = cc
found_there (y ∷ trees) zero x is = let same : y ≡ x = cc in rw same (refl, refl, refl)
found_there (y ∷ trees) (suc t) x is = found_there trees t x is

-- if no tree is found, none is shown
pub none_there : (trees : List Held) (t : ℕ) → slice_get trees t ≡ None → (shape_of trees t ≡ Absent) × (rows_of trees t ≡ []) × (reals_in (headings trees) t ≡ 0)
none_there [] t is = (refl, refl, refl)
none_there (y ∷ trees) zero is = cc
none_there (y ∷ trees) (suc t) is = none_there trees t is

pub reals_named : (trees : List Held) (t : ℕ) → t < 2 ^ 32 → all_reals trees t ≡ reals_in (headings trees) t
reals_named trees t low = rw (named t low, unnumbered t low)

pub rows_named : (trees : List Held) (version t : ℕ) → t < 2 ^ 32 → with_version (forest trees) version t ≡ rows_of trees t
rows_named trees version t low = rw (named t low, unnumbered t low)
