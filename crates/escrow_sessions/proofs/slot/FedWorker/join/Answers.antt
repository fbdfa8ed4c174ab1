use Rattle.std.proofs.Common.{sym, ◌∙◌}
use Rattle.escrow_sessions.proofs.Meeting.{worked_on, fed_done}
use Rattle.escrow_sessions.proofs.slot.FedWorker.join.Goals as goal

pub meet-requires : goal.meet-requires
meet-requires g c =
    let began = c.args.self.thread.promise in
    worked_on began.pass.value began.source.value c.join-done.result c.join-done.ensures ∙ c.args.self.channel

pub returns : goal.returns
returns g c requests sent =
    let began = c.args.self.thread.promise in let met = c.meet.ensures in
    fed_done began.pass.value began.source.value c.join-done.result requests c.join-done.ensures c.args.self.began met.0 (sym sent ∙ met.1)
