use Rattle.std.proofs.Common.{sym, ◌∙◌}
use Rattle.escrow_core.proofs.Altering.{more_checks}
use Rattle.escrow_core.proofs.database.Database.plan_add.Goals as goal

pub new-requires-clause-more : goal.new-requires-clause-more
new-requires-clause-more g c =
    more_checks c.table-old.result.now c.args.text.now c.in-Some.made c.table-old.ensures.table (sym c.in_ok-made.ensures.made ∙ c.in-Some.is)
