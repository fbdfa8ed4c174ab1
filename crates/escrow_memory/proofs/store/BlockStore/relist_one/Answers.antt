use Rattle.std.proofs.Common.{◌≡◌, ◌<◌, length, sym, ap, ◌∙◌, rules}
use Rattle.std.proofs.lemmas.List.{length-map}
use Rattle.std.proofs.lemmas.Result.{on_ok_weaker}
use Rattle.escrow_memory.specs.Held.{Held}
use Rattle.escrow_memory.specs.Trees.{held}
use Rattle.escrow_memory.specs.Store.{trees_of, current}
use Rattle.escrow_memory.proofs.Forests.{present, tree_at, shape_named, rows_named}
use Rattle.escrow_memory.proofs.Views.{relabelled}
use Rattle.escrow_memory.proofs.store.BlockStore.relist_one.Goals as goal

pub returns-clause-ok : goal.returns-clause-ok
returns-clause-ok c =
    let s = current c.args.self.now in
    let tree = c.args.change.now.0 in
    let low : tree < 4294967296 = search rules in
    let shaped = shape_named (trees_of s) tree low in
    let within : tree < length (trees_of s) = present (trees_of s) tree (λ none. c.requires.present (sym c.requires.shaped ∙ shaped ∙ none)) in
    let (shape, rows) = tree_at s.trees.items tree c.index.result.now (rw length-map at within) (rw c.current.ensures at c.index.ensures) in
    let copied = c.in_ok-new.ensures ∙ ap held c.deref.ensures in
    let same : c.in_ok-new.new.shape ≡ c.args.change.now.1.shape = ap (λ (x : Held). x.0.0) copied ∙ sym shape ∙ sym shaped ∙ c.requires.shaped in
    on_ok_weaker c.replace.result (λ made. relabelled c.args.self.now c.replace.new.self tree _ low made c.args.change.now.1
    (rw (same, c.in_ok-new-2.ensures.ok, c.in_ok-describe.ensures)) c.requires.present c.requires.shaped (ap (λ (x : Held). x.1) copied ∙ sym rows ∙ sym (rows_named (trees_of s) s.version tree low))) c.replace.ensures.ok
