use Rattle.escrow_machine.proofs.LawsMemory.{shown_stays}
use Rattle.escrow_machine.proofs.laws.shown_stays.Goals as goal

pub returns : goal.returns
returns c = shown_stays
