use Rattle.escrow_sql.proofs.Pieces.{each_lexed, lexed_once}
use Rattle.escrow_sql.proofs.laws.each_is_lexed_once.Goals as goal

pub returns : goal.returns
returns c = record { lexed = each_lexed; once = lexed_once }
