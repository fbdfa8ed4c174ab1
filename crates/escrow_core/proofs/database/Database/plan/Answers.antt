use Rattle.std.proofs.Common.{◌≡◌, Err, Some, sym, ap}
use Rattle.escrow_schema.specs.Catalog.{table_named}
use Rattle.escrow_core.specs.Inside.{database_of}
use Rattle.escrow_core.specs.Database.{Database}
use Rattle.escrow_machine.specs.State.{State}
use Rattle.escrow_core.proofs.Planned.{plans_in_place, unplanned}
use Rattle.escrow_core.proofs.database.Database.plan.Goals as goal

pub returns-in-Err-clause-refused : goal.returns-in-Err-clause-refused
returns-in-Err-clause-refused g c = λ session.
    let s : State = (database_of c.self.inside.tables c.self.inside.reserved.txns).state in
    let same : s ≡ c.args.self.now.state = ap (λ (d : Database _). d.state) c.self.view_is in
    let text = c.args.text.now in
    let table = c.table.result.now in
    let named : table_named s.catalog text.table ≡ Some table = c.table.ensures.named text.table (sym c.in-Some.ensures.place) in
    rw (← same) (unplanned s session text table (Err c.in-Err.refusal) named c.in-Err.ensures.only c.in-Err.ensures.memory)

pub returns-in-Err-clause-in_place : goal.returns-in-Err-clause-in_place
returns-in-Err-clause-in_place g c = λ asked is free.
    let s : State = (database_of c.self.inside.tables c.self.inside.reserved.txns).state in
    let text = c.args.text.now in
    let table = c.table.result.now in
    let named : table_named s.catalog text.table ≡ Some table = c.table.ensures.named text.table (sym c.in-Some.ensures.place) in
    let whole = plans_in_place s text table (Err c.in-Err.refusal) named c.in-Err.ensures.in_place asked (rw (← c.self.view_is) at is) free in
    absurd (cc)
