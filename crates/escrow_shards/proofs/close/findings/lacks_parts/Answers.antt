use Rattle.std.proofs.Common.{◌≡◌, ℕ, Some, true, below_more}
use Rattle.std.specs.List.{slice_get}
use Rattle.std.proofs.lemmas.Option.{slice_get_within}
use Rattle.escrow_shards.specs.Closed.{Closed}
use Rattle.escrow_shards.specs.Found.{IsSettled}
use Rattle.escrow_shards.proofs.Places.{there, at_place, below_end}
use Rattle.escrow_shards.proofs.close.findings.lacks_parts.Goals as goal

pub returns-then-not-has_all_parts-clause-some : goal.returns-then-not-has_all_parts-clause-some
returns-then-not-has_all_parts-clause-some g c = (
  (λ d x below found. (c.loop-database.invariant d x below found).whole),
  (
    c.index-closed-database.result,
    (
      there c.args.closed.now c.loop-database.database c.index-closed-database.result c.loop-database-test.true c.index-closed-database.is,
      λ all. let has : c.has_all_parts.result ≡ true = c.has_all_parts.ensures.whole.1 all in cc,
    ),
  ),
)

pub loop-database-preserved : goal.loop-database-preserved
loop-database-preserved g c = λ d x below found.
    below_more (λ (i : ℕ). (y : Closed _) → slice_get c.args.closed.now i ≡ Some y → IsSettled g.S.Store i c.args.parts.now y) c.loop-database.database
    (λ i b y at. c.loop-database.invariant i y b at)
    (at_place (IsSettled g.S.Store c.loop-database.database c.args.parts.now) c.args.closed.now c.loop-database.database c.index-closed-database.result c.loop-database-test.true c.index-closed-database.is
    (record { whole = c.has_all_parts.ensures.whole.0 c.if-not-has_all_parts.false; sound = c.has_all_parts.ensures.sound c.if-not-has_all_parts.false; begun = c.has_all_parts.ensures.begun; kept = c.has_all_parts.ensures.kept }))
    d below x found

pub returns-clause-none : goal.returns-clause-none
returns-clause-none g c = λ d x found. c.loop-database.invariant d x (below_end d _ c.loop-database.database (slice_get_within c.args.closed.now d x found) c.loop-database-test.false) found
