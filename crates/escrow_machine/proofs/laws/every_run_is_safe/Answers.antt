use Rattle.escrow_machine.proofs.LawsRows.{every_run_is_safe}
use Rattle.escrow_machine.proofs.laws.every_run_is_safe.Goals as goal

pub returns : goal.returns
returns c = every_run_is_safe
