use Rattle.std.proofs.Common.{◌≡◌, ◌∙◌, IsTrue, refl, rules}
use Rattle.sqlite.specs.Held.{state}
use Rattle.sqlite.specs.State.{HasCleanDisk}
use Rattle.sqlite.specs.Values.{bound}
use Rattle.escrow_cells.proofs.Resting.{moved_kept, refused_leaves_idle}
use Rattle.escrow_cells.proofs.Streaming.{IsTaking, begins_taking, takes_more, ends_taking, stopped_leaves_idle, stops_taking, taking_leaves_idle}
use Rattle.escrow_cells.proofs.read.read_each.Goals as goal

pub rows-init : goal.rows-init
rows-init g c = (refl, begins_taking _ _ _ _ c.requires.reads _ _ _ c.in-Ok.ensures.begun c.in-Ok.ensures.mode c.in-Ok.ensures.survives)

pub returns-in-Err-clause-leaves_idle : goal.returns-in-Err-clause-leaves_idle
returns-in-Err-clause-leaves_idle g c outside =
    let old = state g.S.Store c.args.conn.now in
    let settled : IsTrue old.is_open → old.now ≡ old.committed = search rules in
    refused_leaves_idle _ _ _ c.requires.reads c.args.conn.now c.query.follows.lender-at-none _ settled (rw c.in-Err.is at c.query.follows.holds-at-none) outside

pub returns-in-Err-next-clause-leaves_idle : goal.returns-in-Err-next-clause-leaves_idle
returns-in-Err-next-clause-leaves_idle g c outside =
    let old = state g.S.Store c.args.conn.now in
    let settled : IsTrue old.is_open → old.now ≡ old.committed = search rules in
    let moved = c.next.follows.holds-at-none in
    let now = c.next.follows.lender-at-none.conn.now in
    let all = taking_leaves_idle g.S.Store g.K.Sink.has_taken _ _ c.requires.reads c.args.conn.now c.args.sink.now c.rows.rows.conn.now now c.rows.sink c.rows.invariant.1 moved.survives settled moved.mode
    (λ clean. moved_kept _ _ _ (rw c.in-Err-next.is at (moved.kept clean))) outside in
    search rules

pub returns-in_default-clause-taken : goal.returns-in_default-clause-taken
returns-in_default-clause-taken g c clean _ =
    let moved = c.next.follows.holds-at-none in
    let now = c.next.follows.lender-at-none.conn.now in
    let late : HasCleanDisk (state g.S.Store now) = search rules in
    let all = ends_taking g.S.Store g.K.Sink.has_taken _ _ c.requires.reads c.args.conn.now c.args.sink.now c.rows.rows.conn.now now c.rows.sink c.rows.invariant.1 moved.survives late (rw (c.in-Ok-next.is, c.in_default.is) at (moved.ok late)) in
    search rules

pub rows-preserved : goal.rows-preserved
rows-preserved g c =
    let moved = c.next.follows.holds-at-none in
    let now = c.next.follows.lender-at-none.conn.now in (
      moved.same_reference ∙ c.rows.invariant.0,
      takes_more g.S.Store g.K.Sink.has_taken _ _ c.requires.reads c.args.conn.now c.args.sink.now c.rows.rows.conn.now now c.rows.sink c.rows.invariant.1 moved.survives c.in-Some.row.now c.take.new.self moved.mode
          (λ clean. rw c.in-Ok-next.is at (moved.same clean)) (λ clean. rw (c.in-Ok-next.is, c.in-Some.is) at (moved.ok clean)) c.in_ok-take.ensures,
    )

pub returns-then-is_done-clause-taken : goal.returns-then-is_done-clause-taken
returns-then-is_done-clause-taken g c clean has =
    let moved = c.next.follows.holds-at-none in
    let now = c.next.follows.lender-at-none.conn.now in
    let late : HasCleanDisk (state g.S.Store now) = search rules in
    let taking : IsTaking g.S.Store g.K.Sink.has_taken c.args.sql.now (bound c.args.params.now) c.args.conn.now c.args.sink.now now c.take.new.self =
    takes_more g.S.Store g.K.Sink.has_taken _ _ c.requires.reads c.args.conn.now c.args.sink.now c.rows.rows.conn.now now c.rows.sink c.rows.invariant.1 moved.survives c.in-Some.row.now c.take.new.self moved.mode
    (λ clean. rw c.in-Ok-next.is at (moved.same clean)) (λ clean. rw (c.in-Ok-next.is, c.in-Some.is) at (moved.ok clean)) c.in_ok-take.ensures in
    let all = stops_taking g.S.Store g.K.Sink.has_taken _ _ c.requires.reads c.args.conn.now c.args.sink.now c.requires.selects has now c.take.new.self taking late (taking.unchanged late).0.is_open (c.is_done.ensures c.if-is_done.true) in
    search rules

pub returns-then-is_done-clause-leaves_idle : goal.returns-then-is_done-clause-leaves_idle
returns-then-is_done-clause-leaves_idle g c outside =
    let old = state g.S.Store c.args.conn.now in
    let settled : IsTrue old.is_open → old.now ≡ old.committed = search rules in
    let moved = c.next.follows.holds-at-none in
    let now = c.next.follows.lender-at-none.conn.now in
    let taking : IsTaking g.S.Store g.K.Sink.has_taken c.args.sql.now (bound c.args.params.now) c.args.conn.now c.args.sink.now now c.take.new.self =
    takes_more g.S.Store g.K.Sink.has_taken _ _ c.requires.reads c.args.conn.now c.args.sink.now c.rows.rows.conn.now now c.rows.sink c.rows.invariant.1 moved.survives c.in-Some.row.now c.take.new.self moved.mode
    (λ clean. rw c.in-Ok-next.is at (moved.same clean)) (λ clean. rw (c.in-Ok-next.is, c.in-Some.is) at (moved.ok clean)) c.in_ok-take.ensures in
    let all = stopped_leaves_idle g.S.Store g.K.Sink.has_taken _ _ c.requires.reads c.args.conn.now c.args.sink.now now c.take.new.self taking settled outside in
    search rules
