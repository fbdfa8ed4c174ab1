use Rattle.std.proofs.Common.{rules}
use Rattle.escrow_script.proofs.OutcomeLemmas.{at_ok}
use Rattle.escrow_free.specs.Outboxes.{IsDoneOutbox}
use Rattle.escrow_free.proofs.Marking.{zip_as}
use Rattle.escrow_free.proofs.outbox.served_outboxes.Goals as goal

pub returns : goal.returns
returns c = at_ok _ _ c.each_of.result (λ outboxes made. zip_as _ IsDoneOutbox (λ x y one. search rules) c.args.workers.items outboxes.items made) c.each_of.ensures
