-- Believed: what a list of trees shows: for each, its heading and its rows.
use Rattle.std.specs.Prelude.{◌≡◌, ℕ, ◌<◌, List, [], map, length, slice_set, slice_index_or}
use Rattle.sqlite_value.specs.Order.{Row}
use Rattle.sqlite_trees.specs.declared.store.Shape.{Shape}
use Rattle.sqlite_trees.specs.declared.store.Shape.TheVariants.{Table}
use Rattle.sqlite_trees.specs.Tree.{Trees, with_tree}
use Rattle.sqlite_trees.specs.Objects.{catalog_tree, version_tree, set_at}
use Rattle.sqlite_trees.specs.Listing.{Heading, shape_in, reals_in, objects_from}

-- what is seen of a tree: its heading (shape, REAL columns and description), and its rows
abbrev pub Held : Type 0
Held = Heading × List Row

-- the headings of trees, by number
abbrev pub headings : List Held → List Heading
headings = map (λ held. held.0)

-- the rows at each number, none where there is no tree
abbrev pub rows_of : List Held → Trees
rows_of trees t = slice_index_or (map (λ held. held.1) trees) t []

-- the shape at each number
abbrev pub shape_of : List Held → ℕ → Shape
shape_of trees = shape_in (headings trees)

-- the list of the trees, which is a tree too
abbrev pub objects_of : List Held → List Row
objects_of trees = objects_from 0 (headings trees)

-- the trees, and the list of them
abbrev pub forest : List Held → Trees
forest trees = with_tree (rows_of trees) catalog_tree (objects_of trees)

-- the shape at each number; the list of the trees is a table
abbrev pub shapes : List Held → ℕ → Shape
shapes trees = set_at (shape_of trees) catalog_tree Table

-- the REAL columns at each number; the list of the trees has none
abbrev pub reals : List Held → ℕ → ℕ
reals trees = set_at (reals_in (headings trees)) catalog_tree 0

-- the shape at each number, including those of the list of the trees and of the version, which are both tables
abbrev pub all_shapes : List Held → ℕ → Shape
all_shapes trees = set_at (shapes trees) version_tree Table

-- the REAL columns at each number; neither the list of the trees nor the version has any
abbrev pub all_reals : List Held → ℕ → ℕ
all_reals trees = set_at (reals trees) version_tree 0

-- the two lists show the same
pub record AreAlike (old new : List Held) : Type 0 where
  pub rows : rows_of new ≡ rows_of old
  pub shapes : shapes new ≡ shapes old
  pub reals : reals new ≡ reals old
  pub objects : objects_of new ≡ objects_of old

-- the tree with this number is the new one, in a list that is long enough
pub record Replaces (old new : List Held) (tree : ℕ) (it : Held) : Type 0 where
  pub room : List Held
  pub alike : AreAlike old room
  pub within : tree < length room
  pub is : new ≡ slice_set room tree it
