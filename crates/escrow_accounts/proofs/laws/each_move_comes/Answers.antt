use Rattle.escrow_accounts.proofs.Example.{each_move_comes}
use Rattle.escrow_accounts.proofs.laws.each_move_comes.Goals as goal

pub returns : goal.returns
returns c = each_move_comes
