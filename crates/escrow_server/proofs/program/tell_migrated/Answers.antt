use Rattle.std.proofs.Common.{inl, inr, refl, ◌∙◌}
use Rattle.std.specs.Prelude.{codes}
use Rattle.escrow_server.proofs.program.tell_migrated.Goals as goal

pub returns-in-Ok : goal.returns-in-Ok
returns-in-Ok g c =
    let lines = c.in-Ok.ensures in
    (c.as_str.result.now, inl (lines.0, c.as_str.ensures.value ∙ lines.1), c.print.ensures)

-- there is no memory for the name of a file
pub returns-in-Err : goal.returns-in-Err
returns-in-Err g c = (codes "escrowd: a store was migrated from format 1 to format 2\n", inr refl, c.print-in-Err.ensures)
