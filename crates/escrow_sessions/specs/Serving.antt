-- Believed: how a worker serves its requests.
use Rattle.std.specs.Prelude.{◌≡◌, ℕ, ◌<◌, List, [], ◌∷◌, map, length}
use Rattle.std.specs.List.{AllZip}
use Rattle.escrow_statement.specs.declared.statement.Request.{Request}
use Rattle.escrow_statement.specs.declared.statement.Request.TheVariants as request
use Rattle.escrow_machine.specs.declared.reply.Reply.{Reply}
use Rattle.escrow_stats.specs.Tally.{tally_of}
use Rattle.escrow_stats.specs.declared.tally.Tally.{Tally}
use Rattle.escrow_shards.specs.Answer.{IsAnswered}
use Rattle.escrow_shards.specs.Pass.{Pass}
use Rattle.escrow_shards.specs.Shared.{Shared, HasPass}
use Rattle.escrow_shards.specs.declared.pass.Receipt.{Receipt}
use Rattle.escrow_sessions.specs.declared.feed.Done.{Done}
use Rattle.escrow_sessions.specs.declared.feed.Ended.{Ended}
use Rattle.escrow_sessions.specs.declared.feed.Ended.TheVariants.{All, Stopped, NotStarted}
use Rattle.escrow_sessions.specs.declared.feed.Given.{Given}
use Rattle.escrow_sessions.specs.declared.feed.Given.TheVariants as given
use Rattle.escrow_sessions.specs.declared.feed.Feed.{Feed}

-- the replies of receipts
abbrev pub replies_of : List Receipt → List Reply
replies_of receipts = map (λ r. r.reply) receipts

-- the totals of a session's replies so far: those of its receipts
abbrev pub totals_of : Pass → Tally
totals_of seat = tally_of (replies_of seat.receipts)

-- ONE REQUEST. A statement has the answer of a call. SHOW STATISTICS shows the totals so far, and changes nothing.
abbrev pub IsGiven : Request → Given → Pass → Pass → Type 0
IsGiven (request.Statement asked) (given.Reply answer) old new = IsAnswered answer asked old new
IsGiven request.Statistics (given.Totals totals) old new = (totals ≡ totals_of old) × (new ≡ old)
IsGiven (request.Statement asked) (given.Totals totals) old new = ⊥
IsGiven request.Statistics (given.Reply answer) old new = ⊥

-- REQUESTS IN ORDER. The first requests have one answer each, which lead from a pass to a pass.
abbrev pub Serves : Pass → List Request → List Given → Pass → Type 0
Serves old requests [] new = new ≡ old
Serves old [] (g ∷ gs) new = ⊥
Serves old (r ∷ rs) (g ∷ gs) new = (next : Pass) × (IsGiven r g old next × Serves next rs gs new)

-- how a worker ended, by how many answers there are: all, fewer, or none
abbrev pub HasEnded : Ended → ℕ → ℕ → Type 0
HasEnded All requests answers = answers ≡ requests
HasEnded Stopped requests answers = answers < requests
HasEnded NotStarted requests answers = answers ≡ 0

-- WHAT A WORKER DID with its pass and its requests
pub record IsDone (seat : Pass) (requests : List Request) (d : Done) : Type 0 where
  pub serves : Serves seat requests d.answers.items d.pass
  pub ended : HasEnded d.ended (length requests) (length d.answers.items)

-- each of the workers did this, in the order of their feeds
abbrev pub AreDone : List Feed → List Done → Type 0
AreDone feeds done = AllZip (λ f d. IsDone f.pass f.requests.items d) feeds done

-- a feed's pass is for one of the databases and sessions
abbrev pub HasItsPass : {S : Type 0} → Shared S → Feed → Type 0
HasItsPass sharing f = HasPass sharing f.pass
