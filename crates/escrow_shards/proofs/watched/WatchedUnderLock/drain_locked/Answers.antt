use Rattle.std.proofs.Common.{◌≡◌}
use Rattle.escrow_shards.proofs.Showing.{drained_shown}
use Rattle.escrow_shards.proofs.watched.WatchedUnderLock.drain_locked.Goals as goal

pub invariant_of-self : goal.invariant_of-self
invariant_of-self g c =
    let e = c.drain.ensures in
    drained_shown g.S.Store c.drain.result c.self.inside.locked.audited c.drain.new.self.audited c.self.inside.board (λ p. c.drain.new.self.parts ≡ p.number) (c.drain.new.self.parts ≡ c.self.inside.locked.parts) c.self.invariant e.begun e.counts e.state e.refused e.clean
