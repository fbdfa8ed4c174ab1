use Rattle.std.proofs.Common.{refl, ap, arith, rules}
use Rattle.std.proofs.lemmas.List.{drop_all}
use Rattle.escrow_schema.specs.Column.{reservables}
use Rattle.escrow_tables.proofs.judged.columns_to_read.Goals as goal

pub returns-clause-has : goal.returns-clause-has
returns-clause-has c =
    record {
      within = omega arith;
      few = search rules;
      before = refl;
      behind = ap reservables (drop_all _ c.args.columns.now (omega arith));
    }
