use Rattle.std.proofs.Common.{sym, ◌∙◌}
use Rattle.escrow_recover.proofs.OpenedLemmas.{is_foreign, is_other_format, opening}
use Rattle.escrow_recover.proofs.open.unopened.Goals as goal

pub returns-clause-foreign : goal.returns-clause-foreign
returns-clause-foreign g c = λ same. is_foreign c.args.why (sym c.from.ensures ∙ same)

pub returns-clause-version : goal.returns-clause-version
returns-clause-version g c = λ same. is_other_format c.args.why (sym c.from.ensures ∙ same)

pub returns-clause-only : goal.returns-clause-only
returns-clause-only g c = rw c.from.ensures (opening c.args.why)
