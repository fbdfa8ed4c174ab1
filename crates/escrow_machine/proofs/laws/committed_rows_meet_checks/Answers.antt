use Rattle.escrow_machine.proofs.Safe.{committed_rows_meet_checks}
use Rattle.escrow_machine.proofs.laws.committed_rows_meet_checks.Goals as goal

pub returns : goal.returns
returns c = committed_rows_meet_checks
