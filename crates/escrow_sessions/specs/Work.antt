-- Helps: what a worker did with the requests of its source.
use Rattle.std.specs.Prelude.{◌≡◌, ◌⊎◌, List, [], length, Option, None}
use Rattle.std.specs.Iterator.{Yields, YieldsThen, YieldsFirst}
use Rattle.std.specs.Vec.Iter.{into_iter_items}
use Rattle.escrow_statement.specs.declared.statement.Request.{Request}
use Rattle.escrow_shards.specs.Pass.{Pass}
use Rattle.escrow_sessions.specs.Serving.{Serves, IsDone}
use Rattle.escrow_sessions.specs.declared.feed.Done.{Done}
use Rattle.escrow_sessions.specs.declared.feed.Ended.TheVariants.{NotStarted}
use Rattle.escrow_sessions.specs.declared.feed.Given.{Given}
use Rattle.escrow_sessions.specs.declared.feed.Feed.{Feed}
use Rattle.escrow_sessions.specs.declared.source.Listed.{Listed}
use Rattle.escrow_sessions.specs.declared.team.Worked.{Worked}
use Rattle.escrow_sessions.specs.declared.team.Worker.{Worker}
use Rattle.escrow_sessions.specs.declared.team.Worker.TheVariants.{Started, Absent}

-- nothing was served
pub record IsAbsent (seat : Pass) (d : Done) : Type 0 where
  pub pass : d.pass ≡ seat
  pub answers : d.answers.items ≡ []
  pub ended : d.ended ≡ NotStarted

-- a list returns its first request
abbrev pub gives_listed : Listed → Option Request → Listed → Type 0
gives_listed = YieldsFirst (λ l. into_iter_items l.left)

module _ {Q : Type 0} (gives : Q → Option Request → Q → Type 0) where
  -- a source returned requests, and each has its answer
  pub record IsServedSoFar (seat : Pass) (old : Q) (answers : List Given) (now : Pass) (new : Q) : Type 0 where
    pub requests : List Request
    pub given : Yields gives old requests new
    pub serves : Serves seat requests answers now
    pub each : length answers ≡ length requests

  -- a source returned requests up to its end, and this is what was done with them
  pub record IsServed (seat : Pass) (old : Q) (d : Done) (new : Q) : Type 0 where
    pub requests : List Request
    pub drained : YieldsThen gives old requests None new
    pub done : IsDone seat requests d

  -- what a worker returns: it served all requests of its source, or none at all
  abbrev pub IsWorked : Pass → Q → Worked Q → Type 0
  IsWorked seat old w = IsServed seat old w.done w.source ⊎ (IsAbsent seat w.done × (w.source ≡ old))

  -- what a worker will return, or has returned
  abbrev pub IsWorker : Pass → Q → Worker Q → Type 0
  IsWorker seat old (Started h) = (h.promise.pass.value ≡ seat) × (h.promise.source.value ≡ old)
  IsWorker seat old (Absent w) = IsWorked seat old w

-- the worker of a feed
abbrev pub IsWorkerOf : Feed → Worker Listed → Type 0
IsWorkerOf f w =
    (source : Listed) × (into_iter_items source.left ≡ f.requests.items) × IsWorker gives_listed f.pass source w

-- what a worker did, whichever feed it had
abbrev pub CameOf : Worker Listed → Done → Type 0
CameOf w d = (f : Feed) → IsWorkerOf f w → IsDone f.pass f.requests.items d
