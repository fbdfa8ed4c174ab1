use Rattle.std.proofs.Common.{◌≡◌, IsTrue, inl, rules}
use Rattle.sqlite.specs.Held.{state}
use Rattle.escrow_cells.proofs.Resting.{survives_reading, shown_unchanged, failed_kept, idle_from}
use Rattle.escrow_cells.proofs.read.read_all.Goals as goal

pub returns-in-Err-clause-leaves_idle : goal.returns-in-Err-clause-leaves_idle
returns-in-Err-clause-leaves_idle g c outside =
    let old = state g.S.Store c.args.conn.now in
    let settled : IsTrue old.is_open → old.now ≡ old.committed = search rules in
    idle_from g.S.Store c.args.conn.now c.query_all.new.self settled (c.query_all.ensures.mode outside) (survives_reading _ _ _ _ c.requires c.query_all.ensures.survives)
    (λ clean. failed_kept _ _ _ _ c.requires _ (c.in-Err.ensures.err clean))

pub returns-in-Ok-clause-leaves_idle : goal.returns-in-Ok-clause-leaves_idle
returns-in-Ok-clause-leaves_idle g c outside =
    let old = state g.S.Store c.args.conn.now in
    let settled : IsTrue old.is_open → old.now ≡ old.committed = search rules in
    idle_from g.S.Store c.args.conn.now c.query_all.new.self settled (c.query_all.ensures.mode outside) (survives_reading _ _ _ _ c.requires c.query_all.ensures.survives)
    (λ clean. inl (shown_unchanged _ _ _ _ c.requires _ (c.in-Ok.ensures.ok clean)))

pub returns-in-Ok-clause-is_open : goal.returns-in-Ok-clause-is_open
returns-in-Ok-clause-is_open g c clean = (shown_unchanged _ _ _ _ c.requires _ (c.in-Ok.ensures.ok clean)).0.is_open
