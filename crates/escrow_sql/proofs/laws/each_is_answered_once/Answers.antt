use Rattle.escrow_sql.proofs.Answered.{some_answer, one_column, not_both}
use Rattle.escrow_sql.proofs.ParseLemmas.{asks_once}
use Rattle.escrow_sql.proofs.laws.each_is_answered_once.Goals as goal

pub returns : goal.returns
returns c = record { answered = some_answer; one_request = asks_once; one_column = one_column; not_both = not_both }
