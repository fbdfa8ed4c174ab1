use Rattle.std.proofs.Common.{ap, subst, sym}
use Rattle.escrow_free.specs.Dealing.{AreDealt}
use Rattle.escrow_free.proofs.Dealt.{dealt_seats, dealt_served, dealt_unserved}
use Rattle.escrow_free.proofs.phase.serve_passes.Goals as goal

pub run_sessions-requires-after_bounds : goal.run_sessions-requires-after_bounds
run_sessions-requires-after_bounds g c κs within =
    dealt_seats c.args.shared.now c.args.passes.items c.args.items.items c.in_ok-feeds.feeds.items c.requires.seats c.in_ok-feeds.ensures

pub returns-in_ok-served_outboxes-in-Ok : goal.returns-in_ok-served_outboxes-in-Ok
returns-in_ok-served_outboxes-in-Ok g c =
    dealt_served c.args.passes.items c.args.items.items c.in_ok-feeds.feeds.items c.in-Ok.done.items c.in_ok-served_outboxes-in-Ok.field-0.items c.in_ok-feeds.ensures c.in-Ok.ensures.done
    c.in_ok-served_outboxes-in-Ok.ensures

pub returns-in_ok-unserved_outboxes-in-Memory : goal.returns-in_ok-unserved_outboxes-in-Memory
returns-in_ok-unserved_outboxes-in-Memory g c =
    let passes = c.args.passes.items in
    let items = c.args.items.items in
    let back = subst (AreDealt passes items) (sym (ap (λ v. v.items) c.in-Err.ensures.back)) c.in_ok-feeds.ensures in
    dealt_unserved passes items c.in-Err.field-0.feeds.items c.in_ok-unserved_outboxes-in-Memory.field-0.items back c.in_ok-unserved_outboxes-in-Memory.ensures
