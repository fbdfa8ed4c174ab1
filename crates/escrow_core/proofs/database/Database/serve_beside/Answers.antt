use Rattle.std.proofs.Common.{sym}
use Rattle.sqlite.specs.Held.{state}
use Rattle.sqlite.specs.State.{HasCleanDisk}
use Rattle.escrow_core.proofs.Joining.{beside_joins, held_joins}
use Rattle.escrow_core.proofs.database.Database.serve_beside.Goals as goal
use Rattle.escrow_core.proofs.database.Database.serve_beside.Goals.{in-Commit, in_default-matches}

pub returns-then-matches-clause-joins : goal.returns-then-matches-clause-joins
returns-then-matches-clause-joins g c =
    let session = c.in-Statement.session in
    let count = c.count_open-count.result in
    rw (c.in_ok-push.ensures.held, c.in-Statement.is)
    (elim c.match-matches.branch [
      | in-Commit w ↦
          rw w.in-Commit.is
          (held_joins (HasCleanDisk (state g.S.Store c.args.self.now.store)) session count c.args.place c.args.held.now c.args.self.now.state (sym c.if-names.ensures)
          c.count_open-count.ensures.kept.orderly.savepoint_order c.count_open-count.ensures.count c.if-count-gt0.true)
      | in_default-matches w ↦ absurd (cc (w.matches-is, c.if-matches.true))
    ])

pub returns-clause-joins : goal.returns-clause-joins
returns-clause-joins g c =
    rw c.in-Statement.is
    (beside_joins (HasCleanDisk (state g.S.Store c.pass.new.self.store)) c.in-Statement.session c.in-Statement.statement c.args.place c.args.held.now c.args.self.now.state c.pass.new.self.state
    c.pass.result (sym c.if-names.ensures) c.count_open-count.ensures.kept.orderly.savepoint_order c.pass.ensures.beside)
