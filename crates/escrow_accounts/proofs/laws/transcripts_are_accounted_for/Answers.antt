use Rattle.escrow_accounts.proofs.Reached.{transcripts_are_accounted_for}
use Rattle.escrow_accounts.proofs.laws.transcripts_are_accounted_for.Goals as goal

pub returns : goal.returns
returns c = transcripts_are_accounted_for
