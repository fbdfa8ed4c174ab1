use Rattle.escrow_sql.proofs.ClassLemmas.{bare_kind, bare_sort}
use Rattle.escrow_sql.proofs.lexeme.Sort.bare.Goals as goal

pub invariant_of-result-2 : goal.invariant_of-result-2
invariant_of-result-2 c = rw c.class.ensures (bare_sort c.args.kind.now c.requires)

pub returns : goal.returns
returns c = rw c.class.ensures (bare_kind c.args.kind.now c.requires)
