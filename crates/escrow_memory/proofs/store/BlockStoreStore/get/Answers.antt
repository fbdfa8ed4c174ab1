use Rattle.std.proofs.Common.{◌≡◌, ◌∙◌, sym, arith, true, refl, to_z-of_z}
use Rattle.sqlite_trees.specs.declared.store.Shape.TheVariants.{Table}
use Rattle.sqlite_trees.proofs.Doubt.{no_doubt}
use Rattle.escrow_memory.specs.Held.{shape_of}
use Rattle.escrow_memory.specs.Store.{trees_of, current}
use Rattle.escrow_memory.proofs.Forests.{found_there, none_there, shape_named, rows_named}
use Rattle.escrow_memory.proofs.store.BlockStoreStore.get.Goals as goal

pub get-requires : goal.get-requires
get-requires c =
    let trees = trees_of (current c.args.self.now) in
    let (shape, _, _) = found_there trees c.args.table _ (rw c.current.ensures at c.in-Some.ensures.some) in
    let table : shape_of trees c.args.table ≡ Table = sym (shape_named trees c.args.table (omega arith)) ∙ c.requires (no_doubt true refl) in
    sym shape ∙ table

pub returns-in_ok-get-in-Some-clause-ok : goal.returns-in_ok-get-in-Some-clause-ok
returns-in_ok-get-in-Some-clause-ok c _ =
    let s = current c.args.self.now in
    let (_, rows, _) = found_there (trees_of s) c.args.table _ (rw c.current.ensures at c.in-Some.ensures.some) in
    let fits = c.ranges.id in
    rw (rows_named (trees_of s) s.version c.args.table (omega arith), rows) (simp to_z-of_z at c.in_ok-get-in-Some.ensures)

pub returns-in-None-clause-ok : goal.returns-in-None-clause-ok
returns-in-None-clause-ok c _ =
    let s = current c.args.self.now in
    let (_, rows, _) = none_there (trees_of s) c.args.table (rw c.current.ensures at (c.tree.ensures.none c.in-None.is)) in
    rw (rows_named (trees_of s) s.version c.args.table (omega arith), rows) refl
