use Rattle.std.proofs.Common.{rules}
use Rattle.escrow_script.proofs.OutcomeLemmas.{at_ok}
use Rattle.escrow_free.specs.Outboxes.{IsUnservedOutbox}
use Rattle.escrow_free.proofs.Marking.{zip_as}
use Rattle.escrow_free.proofs.outbox.unserved_outboxes.Goals as goal

pub returns : goal.returns
returns c = at_ok _ _ c.each_of.result (λ outboxes made. zip_as _ IsUnservedOutbox (λ x y one. search rules) c.args.feeds.items outboxes.items made) c.each_of.ensures
