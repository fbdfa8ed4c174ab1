use Rattle.std.proofs.Common.{◌≡◌, ◌-◌, ◌+◌, ℕ, [], get_or, vec_len}
use Rattle.escrow_stats.specs.Tally.{tally_of}
use Rattle.escrow_serve.proofs.totals.Totals.reach.Given as goal

-- what was added is totals of no replies
abbrev pub invariant-loop-self : goal.invariant-loop-self
invariant-loop-self l = (place : ℕ) → get_or l.self.tallies.items place (tally_of []) ≡ get_or l.fn.self.tallies.items place (tally_of [])

abbrev pub decreases-loop-self : goal.decreases-loop-self
decreases-loop-self l = (l.place + 1) - vec_len l.self.tallies
