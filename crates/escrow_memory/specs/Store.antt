-- Believed: what a store in memory shows.
use Rattle.std.specs.Prelude.{◌≡◌, ℕ, true, false, if◌then◌else◌, ◌==◌, List, [], ◌∷◌, map, take, drop, reverse, slice_index_or, Option, Some, None, option_map, unwrap_or}
use Rattle.sqlite_value.specs.Order.{Row}
use Rattle.sqlite_trees.specs.declared.store.Direction.{Direction}
use Rattle.sqlite_trees.specs.declared.store.Direction.TheVariants.{Forward, Backward}
use Rattle.sqlite_trees.specs.declared.store.Store.{Ghosts}
use Rattle.sqlite_trees.specs.View.{Snapshot, View}
use Rattle.sqlite_trees.specs.Objects.{with_version}
use Rattle.escrow_memory.specs.declared.cursor.Cursor.{Cursor}
use Rattle.escrow_memory.specs.declared.forest.Forest.{Forest}
use Rattle.escrow_memory.specs.declared.store.BlockStore.{BlockStore}
use Rattle.escrow_memory.specs.Held.{Held, Replaces, rows_of, forest, all_shapes, all_reals}
use Rattle.escrow_memory.specs.Trees.{all_held}

-- what trees of a forest show, by number
abbrev pub trees_of : Forest → List Held
trees_of it = all_held it.trees.items

-- what a forest shows: rows, shape and REAL columns at each number, with the list of the trees and SQLite's user
-- version as trees of their own
abbrev pub snapshot_of : Forest → Snapshot
snapshot_of it = record {
  trees = with_version (forest (trees_of it)) it.version;
  shape = all_shapes (trees_of it);
  reals = all_reals (trees_of it);
}

-- the forest that the transaction sees: its own once it has written, else that of the last commit
abbrev pub current : BlockStore → Forest
current s = unwrap_or s.changed s.base

-- the rows that are left from a place: forward, those there and after; backward, those before it, the last first
abbrev pub left_from : Direction → ℕ → List Row → List Row
left_from Forward at rows = drop at rows
left_from Backward at rows = reverse (take at rows)

-- the rows that a cursor has left
abbrev pub left_of : List Held → Cursor → List Row
left_of trees cursor = left_from cursor.direction cursor.at (rows_of trees cursor.tree)

-- the cursor of a number is this one, and all others are as they were
abbrev pub SetsCursor : List (Option Cursor) → List (Option Cursor) → ℕ → Cursor → Type 0
SetsCursor old new at cursor =
    (c : ℕ) → slice_index_or new c None ≡ (if c == at then Some cursor else slice_index_or old c None)

-- the cursor after this one returned a row, or none at its end
abbrev pub Steps : List Held → Cursor → Row → Option Cursor → Type 0
Steps trees cursor row None = left_of trees cursor ≡ []
Steps trees cursor row (Some moved) = left_of trees cursor ≡ row ∷ left_of trees moved

-- WHAT THE STORE SHOWS, in the terms of the kit's trait: the trees that the transaction sees and those of the last
-- commit, what each cursor has left, the savepoints, and whether the transaction can only be rolled back. It is always
-- open and clean
abbrev pub block_view : BlockStore → View
block_view s = record {
  trees = (snapshot_of (current s)).trees;
  committed = (snapshot_of s.base).trees;
  cursors = λ c. option_map (left_of (trees_of (current s))) (slice_index_or s.cursors.items c None);
  shape = (snapshot_of (current s)).shape;
  reals = (snapshot_of (current s)).reals;
  committed_shape = (snapshot_of s.base).shape;
  committed_reals = (snapshot_of s.base).reals;
  marks = map (λ mark. snapshot_of (unwrap_or mark s.base)) s.marks.items;
  is_numbered = true;
  has_sums = false;
  is_open = true;
  is_broken = s.is_broken;
  is_clean = true;
}

-- the tree with this number is the new one, and nothing else has changed
pub record IsReplaced (old new : BlockStore) (tree : ℕ) (it : Held) : Type 0 where
  pub trees : Replaces (trees_of (current old)) (trees_of (current new)) tree it
  pub version : (current new).version ≡ (current old).version
  pub base : new.base ≡ old.base
  pub marks : new.marks ≡ old.marks
  pub was_sound : old.is_broken ≡ false
  pub sound : new.is_broken ≡ false

-- the store's view, as the kit's SQLite uses it
abbrev pub over_blocks : Ghosts BlockStore
over_blocks =
    record {
      view = block_view;
      faults = λ _. 0;
      recovers = λ s db. db ≡ (block_view s).committed;
      is_shielded = λ _.
          Unit {0};
      is_step = λ _ _ _. Unit {0};
      blamed = λ _. None;
      names = λ _ _ _. Unit {0};
    }
