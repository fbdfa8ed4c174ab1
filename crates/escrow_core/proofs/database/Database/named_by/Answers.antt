use Rattle.std.proofs.Common.{◌≡◌, Some}
use Rattle.escrow_schema.specs.Catalog.{table_named}
use Rattle.escrow_core.specs.Inside.{database_of}
use Rattle.escrow_core.proofs.Keyed.{literal_there, row_of_key}
use Rattle.escrow_core.proofs.database.Database.named_by.Goals as goal

pub truncated_value-requires : goal.truncated_value-requires
truncated_value-requires g c =
    let s = (database_of c.self.inside.tables c.self.inside.reserved.txns).state in
    let table = c.table.result.now in
    let named : table_named s.catalog c.args.table ≡ Some table = c.table.ensures.named c.args.table (rw (← c.self.view_is) at c.requires.place) in
    rw c.key_scale-scale.ensures (literal_there s c.args.table table c.args.row.now named (rw (← c.self.view_is) at c.requires.row))

pub returns : goal.returns
returns g c =
    let s = (database_of c.self.inside.tables c.self.inside.reserved.txns).state in
    let table = c.table.result.now in
    let named : table_named s.catalog c.args.table ≡ Some table = c.table.ensures.named c.args.table (rw (← c.self.view_is) at c.requires.place) in
    rw (← c.self.view_is, c.in_ok-key.ensures.value, c.key_scale-scale.ensures) (row_of_key s c.args.table table c.args.row.now named)
