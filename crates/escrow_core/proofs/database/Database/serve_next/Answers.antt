use Rattle.std.proofs.Common.{◌++◌, ◌∷◌, []}
use Rattle.sqlite.specs.Held.{state}
use Rattle.escrow_core.proofs.Leaving.{batch_settles, none_wait, one_joins, serves_more, still_waits}
use Rattle.escrow_core.proofs.database.Database.serve_next.Goals as goal

pub returns-in-Some-clause-batch : goal.returns-in-Some-clause-batch
returns-in-Some-clause-batch g c = λ first s events before batch.
    let beside = c.serve_beside.new in
    let joins = rw (c.len.ensures, c.args.replies.now.ok.0) at c.in-Some.ensures.joins in
    rw c.keep.ensures.items
    (one_joins (state g.S.Store first) (state g.S.Store c.args.self.now.store) (state g.S.Store beside.self.store) s events before c.args.replies.now.items c.args.held.now c.args.self.now.state batch
    c.serve_beside.ensures.usable c.serve_beside.ensures.survives c.args.event.now c.in-Some.reply beside.held beside.self.state joins)

pub returns-in-None-clause-batch : goal.returns-in-None-clause-batch
returns-in-None-clause-batch g c = λ first s events before batch.
    let same = c.in-None.ensures.refused in
    let old = state g.S.Store c.args.self.now.store in
    let beside = c.serve_beside.new in
    let mid = c.settle_all.new in
    let new = c.serve-reply.new in
    let waits =
    still_waits (state g.S.Store first) old (state g.S.Store beside.self.store) s events before c.args.replies.now.items c.args.held.now c.args.self.now.state batch c.serve_beside.ensures.usable c.serve_beside.ensures.survives in
    let settled = rw (c.plan.ensures, c.places.ensures.value, same.0, same.1) at c.settle_all.ensures.settled in
    let served =
    batch_settles (state g.S.Store first) (state g.S.Store beside.self.store) (state g.S.Store mid.self.store) s events before c.args.replies.now.items c.args.held.now c.args.self.now.state mid.self.state mid.replies.items
    waits c.settle_all.ensures.usable settled in
    let after =
    serves_more (state g.S.Store first) (state g.S.Store mid.self.store) (state g.S.Store new.self.store) s events before mid.replies.items mid.self.state c.args.event.now c.serve-reply.result new.self.state
    served c.serve-reply.ensures.usable c.serve-reply.ensures.served c.serve-reply.ensures.crash c.serve-reply.ensures.durable in
    rw (c.clear.ensures, c.keep-in-None.ensures.items)
    (none_wait (state g.S.Store first) (state g.S.Store new.self.store) s (events ++ c.args.event.now ∷ []) before (mid.replies.items ++ c.serve-reply.result ∷ []) new.self.state after)
