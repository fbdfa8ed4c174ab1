use Rattle.std.proofs.Common.{◌∙◌, sym}
use Rattle.escrow_schema.proofs.RuleLemmas.{written_typed}
use Rattle.escrow_schema.proofs.definition.definition_of.Goals as goal

pub table_of-requires : goal.table_of-requires
table_of-requires c = written_typed c.as_slice-items.result.now c.in-Some.columns (sym c.in_ok-columns.ensures ∙ c.in-Some.is)
