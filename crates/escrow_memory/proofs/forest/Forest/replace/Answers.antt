use Rattle.std.proofs.Common.{◌≡◌, ◌++◌, [], ◌∷◌, arith}
use Rattle.std.proofs.lemmas.List.{length-map, map-append, map-set}
use Rattle.sqlite_trees.specs.Listing.{no_heading}
use Rattle.escrow_memory.specs.Trees.{all_held}
use Rattle.escrow_memory.proofs.Forests.{alike_push}
use Rattle.escrow_memory.proofs.forest.Forest.replace.Goals as goal

pub loop-alloc-preserved : goal.loop-alloc-preserved
loop-alloc-preserved c =
    let alike = c.loop-alloc.invariant.0 in
    let pushed : all_held c.push.new.self.items ≡ all_held c.loop-alloc.self.trees.items ++ (no_heading, []) ∷ [] =
    rw (c.in_ok-push.ensures.items, map-append, c.in_ok-of.ensures, c.in_ok-absent.ensures.heading, c.in_ok-absent.ensures.rows) in
    (rw pushed (alike_push _ _ alike), c.loop-alloc.invariant.1)

pub returns-clause-ok : goal.returns-clause-ok
returns-clause-ok c =
    let alike = c.loop-alloc.invariant.0 in
    record {
      room = all_held c.loop-alloc.self.trees.items;
      alike = alike;
      within = rw length-map (omega arith);
      is = rw (map-set, c.in_ok-new.ensures);
    }
