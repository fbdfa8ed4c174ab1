use Rattle.escrow_accounts.proofs.Reached.{no_move_is_left_out}
use Rattle.escrow_accounts.proofs.laws.no_move_is_left_out.Goals as goal

pub returns : goal.returns
returns c = no_move_is_left_out
