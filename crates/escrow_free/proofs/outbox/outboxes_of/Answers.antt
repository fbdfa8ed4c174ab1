use Rattle.std.proofs.Common.{rules}
use Rattle.escrow_script.proofs.OutcomeLemmas.{at_ok}
use Rattle.escrow_free.specs.Outboxes.{IsNewOutbox}
use Rattle.escrow_free.proofs.Marking.{zip_as}
use Rattle.escrow_free.proofs.outbox.outboxes_of.Goals as goal

pub returns : goal.returns
returns c = at_ok _ _ c.each_of.result (λ outboxes made. zip_as _ IsNewOutbox (λ x y one. search rules) c.args.passes.items outboxes.items made) c.each_of.ensures
