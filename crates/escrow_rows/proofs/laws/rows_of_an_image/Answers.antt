use Rattle.escrow_rows.proofs.ViewLemmas.{rows_are}
use Rattle.escrow_rows.proofs.laws.rows_of_an_image.Goals as goal

pub returns : goal.returns
returns c = rows_are
