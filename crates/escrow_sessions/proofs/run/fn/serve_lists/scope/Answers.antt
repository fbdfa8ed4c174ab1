use Rattle.std.proofs.Common.{sym, ◌∙◌}
use Rattle.escrow_sessions.specs.Work.{IsWorkerOf}
use Rattle.escrow_sessions.proofs.AtOnce.{all_done}
use Rattle.escrow_sessions.proofs.Places.{zip_long}
use Rattle.escrow_sessions.proofs.run.fn.serve_lists.scope.Goals as goal

pub join_all-requires : goal.join_all-requires
join_all-requires g c =
    let feeds = c.captures.feeds in
    let workers = c.start_all-workers.result in
    let long = workers.ok.0 ∙ sym (zip_long IsWorkerOf feeds.items workers.items c.start_all-workers.ensures) ∙ sym feeds.ok.0 in
    record {
      empty = c.requires.none_done;
      room = rw long c.requires.done_fit;
    }

pub returns : goal.returns
returns g c = all_done c.captures.feeds.items c.start_all-workers.result.items c.join_all.result.items c.start_all-workers.ensures c.join_all.ensures
