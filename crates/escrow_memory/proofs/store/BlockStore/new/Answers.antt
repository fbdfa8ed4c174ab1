use Rattle.std.proofs.Common.{◌≡◌, ℕ, ◌+◌, ◌<◌, ◌++◌, ◌∷◌, List, [], length, take, get_or, map, ne_eqb}
use Rattle.sqlite_trees.specs.declared.schema.Object.{Object}
use Rattle.sqlite_trees.specs.Listing.{Heading}
use Rattle.std.proofs.lemmas.List.{map-append, take_more, take_all}
use Rattle.std.proofs.lemmas.List.Elements.{All-push}
use Rattle.sqlite_value.specs.Order.{Row}
use Rattle.sqlite_trees.specs.declared.store.Shape.TheVariants.{Table}
use Rattle.sqlite_trees.specs.Objects.{catalog_tree, version_tree, set_at, description}
use Rattle.sqlite_trees.proofs.StoreLemmas.{shapes_given, reals_given}
use Rattle.escrow_memory.specs.Trees.{held, all_held}
use Rattle.escrow_memory.proofs.store.BlockStore.new.Goals as goal

-- the heading that an object gives its tree
abbrev given : Object → Heading
given o = (o.shape, o.reals, description o)

-- one more object gives one more heading
heads_more : (schema : List Object) (i : ℕ) (d : Object) (made : List Heading) → i < length schema → made ≡ map given (take i schema)
    → made ++ given (get_or schema i d) ∷ [] ≡ map given (take (i + 1) schema)
heads_more schema i d made within is = rw (is, take_more schema i d within, map-append)

pub loop-object-preserved : goal.loop-object-preserved
loop-object-preserved c =
    let was = c.loop-object.invariant in
    let made : all_held c.push.new.self.items ≡ all_held c.loop-object.trees.items ++ held c.in_ok-new.field-0 ∷ [] =
    rw (c.in_ok-push.ensures.items, map-append, c.in_ok-of.ensures) in (
      rw (made, map-append, c.in_ok-new.ensures.heading) (heads_more c.args.schema.now c.loop-object.object-index _ _ c.loop-object-test.true was.0),
      rw (made, map-append) (All-push (λ (rows : List Row). rows ≡ []) _ _ was.1 c.in_ok-new.ensures.rows),
    )

pub returns-clause-shape : goal.returns-clause-shape
returns-clause-shape c =
    let all = rw (take_all _ _ c.loop-object-test.false) at c.loop-object.invariant.0 in
    rw all (λ i. set_at (set_at (λ t. shapes_given c.args.schema.now t i) catalog_tree Table) version_tree Table)

pub returns-clause-reals : goal.returns-clause-reals
returns-clause-reals c t other apart present =
    let all = rw (take_all _ _ c.loop-object-test.false) at c.loop-object.invariant.0 in
    rw (all, ne_eqb t catalog_tree other, ne_eqb t version_tree apart) (reals_given c.args.schema.now t present)
