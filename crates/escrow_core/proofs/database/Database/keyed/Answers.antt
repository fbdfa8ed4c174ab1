use Rattle.escrow_schema.specs.Catalog.{table_named}
use Rattle.escrow_machine.specs.Asked.{named_by}
use Rattle.escrow_core.proofs.Shown.{one_shown}
use Rattle.escrow_core.proofs.database.Database.keyed.Goals as goal

pub returns-clause-told : goal.returns-clause-told
returns-clause-told g c = λ u.
    let text = c.args.text.now in
    let s = c.args.self.now.state in
    let told = rw c.in_ok-name.ensures at c.in_ok-found.ensures.told u in
    rw c.in_ok-listed.ensures (one_shown (table_named s.catalog text.table) s.rows (named_by s.catalog text.table c.args.row.now) c.in_ok-found.found (c.in_ok-found.ensures.order u) told)
