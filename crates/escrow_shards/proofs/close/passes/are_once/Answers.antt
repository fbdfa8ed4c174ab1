use Rattle.std.proofs.Common.{◌≡◌, ◌∙◌, ℕ, ◌≤◌, sym, below_more}
use Rattle.escrow_shards.specs.Pass.{passes_at}
use Rattle.escrow_shards.proofs.close.passes.are_once.Goals as goal

pub loop-session-preserved : goal.loop-session-preserved
loop-session-preserved c = λ k low below.
    below_more (λ (j : ℕ). 1 ≤ j → passes_at c.args.database j c.args.passes.now ≡ 1) c.loop-session.session
    (λ j b l. c.loop-session.invariant j l b) (λ l. sym c.count_at.ensures ∙ c.if-count_at-ne1.false) k below low
