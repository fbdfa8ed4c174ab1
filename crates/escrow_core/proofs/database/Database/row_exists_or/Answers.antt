use Rattle.std.proofs.Common.{inl, inr, rules}
use Rattle.escrow_schema.specs.Rows.{row_named}
use Rattle.escrow_core.proofs.Inserting.{other_then, stands_first}
use Rattle.escrow_core.proofs.database.Database.row_exists_or.Goals as goal

pub returns-in-Ok-Some-clause-told : goal.returns-in-Ok-Some-clause-told
returns-in-Ok-Some-clause-told g c = inr (λ u. stands_first (row_named c.args.self.now.state.rows c.args.name.now) c.args.other c.in-Ok-Some.field-0-0 (search (rules, c.in-Ok-Some.ensures.told u)))

pub returns-in-Ok-None-clause-told : goal.returns-in-Ok-None-clause-told
returns-in-Ok-None-clause-told g c = inr (λ u. other_then (row_named c.args.self.now.state.rows c.args.name.now) c.args.other (search (rules, c.in-Ok-None.ensures.told u)))

pub returns-clause-told : goal.returns-clause-told
returns-clause-told g c = inl (c.in-Err.failure, c.from.ensures)
