use Rattle.std.proofs.Common.{◌≡◌, is_ok, ◌∷◌, [], true, false, None, ap, ◌∙◌, Ok, rules}
use Rattle.sqlite.specs.Held.{state}
use Rattle.escrow_cells.specs.declared.step.Step.TheVariants as step
use Rattle.escrow_cells.specs.Inside.{ActsBy}
use Rattle.escrow_cells.proofs.AllOrNone.{acts_after_none, acts_none}
use Rattle.escrow_cells.proofs.statement.set_cell_hinted.Goals as goal
use Rattle.escrow_cells.proofs.statement.set_cell_hinted.Goals.{in-Some+in_ok-set_cell_at+else-branch, in_default}

pub returns-in_err-set_cell-clause-acts : goal.returns-in_err-set_cell-clause-acts
returns-in_err-set_cell-clause-acts g c =
    let steps = step.SetCell c.args.table c.args.key c.args.place c.args.value c.args.hint ∷ [] in
    let set : ActsBy (state g.S.Store c.match-hint.tx.conn.now) (state g.S.Store c.set_cell.new.tx.conn.now) false (step.SetCell c.args.table c.args.key c.args.place c.args.value None ∷ []) = search (rules, c.in_err-set_cell.ensures.acts) in
    let failed : is_ok c.from_residual-in_err-set_cell.result ≡ false = search rules in
    elim c.match-hint.branch [
      | in-Some+in_ok-set_cell_at+else-branch w ↦
          let none = w.set_cell_at.ensures.left (w.in_ok-set_cell_at.was ∙ ap Ok w.if-branch.false) in
          let it : ActsBy (state g.S.Store c.args.tx.now.conn.now) (state g.S.Store c.set_cell.new.tx.conn.now) false steps = acts_after_none steps _ _ _ _ (rw w.tx-is none) set in
          rw failed it
      | in_default w ↦
          let it : ActsBy (state g.S.Store c.args.tx.now.conn.now) (state g.S.Store c.set_cell.new.tx.conn.now) false steps = acts_after_none steps _ _ _ _ (rw w.tx-is (acts_none (state g.S.Store c.args.tx.now.conn.now))) set in
          rw failed it
    ]

pub returns-clause-acts : goal.returns-clause-acts
returns-clause-acts g c =
    let steps = step.SetCell c.args.table c.args.key c.args.place c.args.value c.args.hint ∷ [] in
    let set : ActsBy (state g.S.Store c.match-hint.tx.conn.now) (state g.S.Store c.set_cell.new.tx.conn.now) true (step.SetCell c.args.table c.args.key c.args.place c.args.value None ∷ []) = search (rules, c.in_ok-set_cell.ensures.acts) in
    elim c.match-hint.branch [
      | in-Some+in_ok-set_cell_at+else-branch w ↦
          let none = w.set_cell_at.ensures.left (w.in_ok-set_cell_at.was ∙ ap Ok w.if-branch.false) in
          acts_after_none steps _ _ _ _ (rw w.tx-is none) set
      | in_default w ↦ acts_after_none steps _ _ _ _ (rw w.tx-is (acts_none (state g.S.Store c.args.tx.now.conn.now))) set
    ]
