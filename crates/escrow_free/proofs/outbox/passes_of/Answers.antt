use Rattle.std.proofs.Common.{◌≡◌, rules}
use Rattle.std.proofs.lemmas.Slice.Zip.{AllZip-map}
use Rattle.escrow_script.proofs.OutcomeLemmas.{at_ok}
use Rattle.escrow_free.specs.Outboxes.{pass_of}
use Rattle.escrow_free.proofs.Marking.{zip_as}
use Rattle.escrow_free.proofs.outbox.passes_of.Goals as goal

pub returns : goal.returns
returns c = at_ok _ _ c.each_of.result (λ passes made.
    AllZip-map pass_of c.args.outboxes.items passes.items (zip_as _ (λ d p. p ≡ pass_of d) (λ x y one. search rules) c.args.outboxes.items passes.items made)) c.each_of.ensures
