use Rattle.std.proofs.Common.{sym, ◌∙◌}
use Rattle.escrow_sessions.proofs.Meeting.{worked_on, unfed_absent}
use Rattle.escrow_sessions.proofs.slot.Slot.start_fed.Goals as goal

pub meet-requires : goal.meet-requires
meet-requires g c = worked_on c.args.pass c.in-Ok.receiver c.in-Absent.field-0 c.in-Absent.ensures ∙ c.in-Ok.ensures.channel

pub returns-in-Absent : goal.returns-in-Absent
returns-in-Absent g c =
    let met = c.meet.ensures in
    unfed_absent c.args.pass c.in-Ok.receiver c.in-Absent.field-0 c.in-Absent.ensures c.in-Ok.ensures.taken met.0 (sym c.in-Ok.ensures.sent ∙ met.1)
