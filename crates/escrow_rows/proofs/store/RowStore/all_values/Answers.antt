use Rattle.sqlite.specs.Held.{state}
use Rattle.escrow_rows.proofs.AllValues.{all_told}
use Rattle.escrow_rows.proofs.store.RowStore.all_values.Goals as goal

pub returns-in-Some-clause-told : goal.returns-in-Some-clause-told
returns-in-Some-clause-told g c = λ clean.
    let read = rw c.in-Some.is at c.in_ok-rows.ensures.read clean in
    (read.0, all_told c.args.table.now (state g.S.Store c.args.self.now).now c.new.result c.in-Some.rows c.new.ensures read.1)
