use Rattle.std.proofs.Common.{◌≡◌, ℕ, Some, below_more}
use Rattle.std.specs.List.{AllByRecursion, slice_get}
use Rattle.std.proofs.lemmas.Option.{slice_get_within}
use Rattle.escrow_shards.specs.Closed.{Closed, all_entries}
use Rattle.escrow_shards.specs.Whole.{IsOfSessions}
use Rattle.escrow_shards.proofs.Places.{there, at_place, below_end}
use Rattle.escrow_shards.proofs.close.beyond.lacks_pass.Goals as goal

pub returns-in-Some-clause-some : goal.returns-in-Some-clause-some
returns-in-Some-clause-some g c =
    let ended = c.index-closed-database.result in (
      c.in-Some.ensures.some.0,
      (
        ended,
        (
          there c.args.closed.now c.loop-database.database ended c.loop-database-test.true c.index-closed-database.is,
          c.in-Some.ensures.some.1,
        ),
      ),
    )

pub loop-database-preserved : goal.loop-database-preserved
loop-database-preserved g c = λ d x below found.
    below_more (λ (i : ℕ). (y : Closed _) → slice_get c.args.closed.now i ≡ Some y → AllByRecursion (IsOfSessions c.args.sessions) (all_entries i c.args.parts.now y))
    c.loop-database.database
    (λ i b y at. c.loop-database.invariant i y b at)
    (at_place (λ (y : Closed _). AllByRecursion (IsOfSessions c.args.sessions) (all_entries c.loop-database.database c.args.parts.now y)) c.args.closed.now
    c.loop-database.database c.index-closed-database.result c.loop-database-test.true c.index-closed-database.is c.in_default.ensures.none)
    d below x found

pub returns-clause-none : goal.returns-clause-none
returns-clause-none g c = λ d x found. c.loop-database.invariant d x (below_end d _ c.loop-database.database (slice_get_within c.args.closed.now d x found) c.loop-database-test.false) found
