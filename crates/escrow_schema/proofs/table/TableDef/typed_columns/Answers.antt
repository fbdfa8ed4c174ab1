use Rattle.escrow_schema.proofs.RuleLemmas.{typed_columns, key_among}
use Rattle.escrow_schema.proofs.table.TableDef.typed_columns.Goals as goal

pub returns-clause-typed : goal.returns-clause-typed
returns-clause-typed c = typed_columns c.args.self.now c.requires _ c.as_slice.ensures

pub returns-clause-key : goal.returns-clause-key
returns-clause-key c = key_among c.args.self.now c.requires _ c.as_slice.ensures
