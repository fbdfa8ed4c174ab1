use Rattle.std.specs.Prelude.{not, bytes_eq}
use Rattle.std.proofs.Common.{rules}
use Rattle.escrow_num.specs.declared.reservation.Savepoint.{Savepoint}
use Rattle.escrow_journal.proofs.Filters.{filter_from_retain}
use Rattle.escrow_journal.proofs.lists.drop_named.Goals as goal

pub returns-clause-items : goal.returns-clause-items
returns-clause-items c = filter_from_retain _ (λ (p : Savepoint). not (bytes_eq p.name c.args.name)) _ (λ x b f y k. search rules) _ _ c.retain.ensures.filtered
