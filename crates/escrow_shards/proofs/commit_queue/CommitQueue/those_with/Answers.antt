use Rattle.std.proofs.Common.{rules, ◌≡◌, ◌∷◌, ◌≤◌, IfSome, arith}
use Rattle.std.specs.Prelude.{sum_by}
use Rattle.escrow_shards.specs.CommitPlaces.{waits_in}
use Rattle.escrow_shards.specs.CommitQueue.{asking}
use Rattle.escrow_shards.proofs.Waiting.{two_or_more}
use Rattle.escrow_shards.proofs.commit_queue.CommitQueue.those_with.Goals as goal

pub returns-clause-some : goal.returns-clause-some
returns-clause-some c =
    let all : IfSome c.ok.result (λ v. v.items ≡ c.args.first ∷ asking 0 c.args.self.now.places) = search rules in
    let some : 1 ≤ c.self.inside.count = omega (arith, c.if-self-eq0.false) in
    let counted : c.self.inside.count ≡ sum_by waits_in c.args.self.now.places = rw (← c.self.view_is) c.self.invariant.counted in
    two_or_more c.ok.result c.args.first c.args.self.now.places c.self.inside.count some counted all
