use Rattle.escrow_shards.proofs.Closings.{whole_of, true_of}
use Rattle.escrow_shards.proofs.shared.Shared.close.Goals as goal

pub returns-in-None-clause-whole : goal.returns-in-None-clause-whole
returns-in-None-clause-whole g c =
    whole_of g.S.Store c.args.self c.self.inside.shards.items c.self.inside.sessions c.args.passes.items c.deref-2.result.now c.args.parts.items c.deref-3.result.now
    c.out_of_locks-closed.result.items c.deref.result.now
    c.deref.ensures.value c.deref-2.ensures.value c.deref-3.ensures.value c.self.view_is c.out_of_locks-closed.ensures c.in-None.ensures.none

pub returns-in-Some-clause-cause : goal.returns-in-Some-clause-cause
returns-in-Some-clause-cause g c =
    true_of g.S.Store c.args.self c.self.inside.shards.items c.self.inside.sessions c.args.passes.items c.deref-2.result.now c.args.parts.items c.deref-3.result.now
    c.out_of_locks-closed.result.items c.deref.result.now
    c.deref.ensures.value c.deref-2.ensures.value c.deref-3.ensures.value c.self.view_is c.in-Some.cause c.in-Some.ensures.some
