use Rattle.std.proofs.lemmas.Bool.{both_ways}
use Rattle.sqlite.specs.Held.{state}
use Rattle.escrow_recover.proofs.Owners.{all_known}
use Rattle.escrow_recover.proofs.cells.check_cells.Goals as goal

pub returns-then-owners-clause-found : goal.returns-then-owners-clause-found
returns-then-owners-clause-found g c = λ clean.
    let read = c.in_ok-cell_tables.ensures.rows clean in
    (read.0, λ has. (all_known (state g.S.Store c.args.store.now).now c.args.tables c.cell_tables.new.sink (read.1 has)).0 c.if-owners.true)

pub returns-else-owners-clause-foreign : goal.returns-else-owners-clause-foreign
returns-else-owners-clause-foreign g c = λ usable same has all.
    let read = c.in_ok-cell_tables.ensures.rows usable.0 in
    both_ways _ c.if-owners.false ((all_known (state g.S.Store c.args.store.now).now c.args.tables c.cell_tables.new.sink (read.1 has)).1 all)
