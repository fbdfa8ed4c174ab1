use Rattle.std.proofs.Common.{length}
use Rattle.escrow_free.proofs.Closing.{are_histories, serves_each}
use Rattle.escrow_free.proofs.Outboxes.{fits_new, new_long}
use Rattle.escrow_free.proofs.serve.serve_stage.Goals as goal

pub serve_phases-requires-clause-seats : goal.serve_phases-requires-clause-seats
serve_phases-requires-clause-seats g c κs within =
    let stage = c.args.stage in
    record {
      sessions = c.requires.sessions;
      count = new_long (length stage.shared.openings) stage.passes.items c.in_ok-outboxes.outboxes.items c.requires.passes c.in_ok-outboxes.ensures;
    }

pub serve_phases-requires-clause-fits : goal.serve_phases-requires-clause-fits
serve_phases-requires-clause-fits g c κs within = fits_new (length c.args.stage.shared.openings) c.args.stage.passes.items c.in_ok-outboxes.outboxes.items c.requires.passes c.in_ok-outboxes.ensures

pub returns-clause-legal : goal.returns-clause-legal
returns-clause-legal g c databases read =
    are_histories g.S.Store databases c.args.stage.shared c.in_ok-passes.passes.items c.in_ok-audit.audit.parts.items c.in_ok-audit.audit.closed.items read c.in_ok-audit.ensures

pub returns-clause-output : goal.returns-clause-output
returns-clause-output g c =
    serves_each g.S.Store c.args.stage.shared c.in_ok-audit.audit.parts.items c.in_ok-audit.audit.closed.items (g.C.Client.remaining c.args.client.now)
    c.in_ok-served.served.outboxes.items c.in_ok-passes.passes.items _ _ c.requires.sessions c.in_ok-passes.ensures c.in_ok-audit.ensures c.in_ok-served.ensures.served

pub returns-clause-end : goal.returns-clause-end
returns-clause-end g c = c.in_ok-served.ensures.end
