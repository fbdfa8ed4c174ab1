use Rattle.escrow_sql.proofs.Spelled.{pointed_read, whole_read}
use Rattle.escrow_sql.proofs.laws.numbers_are_read_as_spelled.Goals as goal

pub returns : goal.returns
returns c = record { whole = whole_read; pointed = pointed_read }
