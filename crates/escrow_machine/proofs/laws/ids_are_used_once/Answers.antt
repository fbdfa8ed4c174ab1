use Rattle.escrow_machine.proofs.LawsIds.{ids_are_used_once}
use Rattle.escrow_machine.proofs.laws.ids_are_used_once.Goals as goal

pub returns : goal.returns
returns c = ids_are_used_once
