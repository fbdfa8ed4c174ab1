use Rattle.escrow_sessions.specs.Kept.{AreKept}
use Rattle.escrow_sessions.specs.Serving.{replies_of}
use Rattle.escrow_sessions.specs.Work.{IsServedSoFar}
use Rattle.escrow_sessions.proofs.worker.serve.Given as goal

abbrev pub invariant-loop : goal.invariant-loop
invariant-loop g l = record {
  can_next : (goal.iterator-loop g).can_next l.iterator';
  finite : (goal.iterator-loop g).is_finite l.iterator';
  seat : g.H.Service.has_pass l.service l.pass;
  kept : AreKept l.totals (replies_of l.pass.receipts);
  so_far : IsServedSoFar g.Q.Source.gives l.initial.pass l.initial.source l.answers.items l.pass l.source;
}
