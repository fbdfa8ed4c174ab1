use Rattle.std.proofs.Common.{sym}
use Rattle.sqlite.specs.Held.{state}
use Rattle.escrow_cells.specs.Store.{cells}
use Rattle.escrow_cells.proofs.Steps.{finds_rest}
use Rattle.escrow_cells.proofs.statement.do_finding.Goals as goal

pub returns-in_ok-do_step-in_default-clause-found : goal.returns-in_ok-do_step-in_default-clause-found
returns-in_ok-do_step-in_default-clause-found g c = λ clean inside store.
    sym (finds_rest c.args.step.now (cells (state g.S.Store c.args.tx.now.conn.now).now) c.in_default.not-SetCell c.in_default.not-DeleteRow)
