use Rattle.escrow_changes.proofs.Shown.{select_shows_rows}
use Rattle.escrow_changes.proofs.laws.select_shows_rows.Goals as goal

pub returns : goal.returns
returns c = select_shows_rows
