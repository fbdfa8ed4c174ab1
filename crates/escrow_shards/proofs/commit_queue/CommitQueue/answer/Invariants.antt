use Rattle.std.proofs.Common.{◌≡◌}
use Rattle.escrow_history.specs.Commits.{NameTheirs}
use Rattle.escrow_shards.specs.CommitPlaces.{answered}
use Rattle.escrow_shards.proofs.commit_queue.CommitQueue.answer.Given as goal

abbrev pub invariant-loop-session : goal.invariant-loop-session
invariant-loop-session l = record {
  named : NameTheirs l.session-iterator.a.rest.now l.session-iterator.b.rest.now;
  left : answered l.session-iterator.a.rest.now l.session-iterator.b.rest.now l.self ≡ answered l.sessions l.outcomes l.initial.self;
}
