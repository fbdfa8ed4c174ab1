use Rattle.std.proofs.Common.{◌∙◌}
use Rattle.escrow_reserved.proofs.reserved.Reserved.find.Goals as goal

pub returns-clause-found : goal.returns-clause-found
returns-clause-found c =
    let placed = rw (← c.self.view_is) at c.requires in
    rw (← c.self.view_is) (c.find.ensures.found ∙ placed c.args.row.now)
