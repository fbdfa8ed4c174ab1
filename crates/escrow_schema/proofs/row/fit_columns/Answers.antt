use Rattle.std.proofs.Common.{arith}
use Rattle.escrow_schema.proofs.BackLemmas.{as_many_fit}
use Rattle.escrow_schema.proofs.row.fit_columns.Goals as goal

pub returns-then-columns-values : goal.returns-then-columns-values
returns-then-columns-values c = (λ e. absurd (cc), λ fit. absurd (let same = as_many_fit c.args.columns.now c.args.values.now fit in omega arith))
