use Rattle.std.proofs.Common.{ℕ, subst}
use Rattle.escrow_serve.specs.Task.{IsTask}
use Rattle.escrow_serve.proofs.serve.serve_line.Goals as goal

pub serve_task-requires-clause-asked : goal.serve_task-requires-clause-asked
serve_task-requires-clause-asked g c = (c.args.sessions, c.args.line.now, subst (λ (n : ℕ). IsTask c.args.sessions n c.args.line.now c.read_task-task.result) c.len.ensures c.read_task-task.ensures)

pub returns-clause-served : goal.returns-clause-served
returns-clause-served g c =
    let one = c.serve_task.ensures.served in
    (one.0, one.1, λ used. one.2 used c.args.sessions c.args.line.now (subst (λ (n : ℕ). IsTask c.args.sessions n c.args.line.now c.read_task-task.result) c.len.ensures c.read_task-task.ensures))

pub returns-clause-ran : goal.returns-clause-ran
returns-clause-ran g c =
    let one = c.serve_task.ensures.ran in
    (one.0, one.1, one.2 c.args.sessions c.args.line.now (subst (λ (n : ℕ). IsTask c.args.sessions n c.args.line.now c.read_task-task.result) c.len.ensures c.read_task-task.ensures))
