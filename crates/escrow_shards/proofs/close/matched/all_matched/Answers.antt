use Rattle.std.proofs.Common.{[], ◌∙◌, sym}
use Rattle.std.proofs.lemmas.List.{append-nil}
use Rattle.escrow_shards.specs.Part.{parts_of}
use Rattle.escrow_shards.specs.Receipts.{receipts_of}
use Rattle.escrow_shards.proofs.Matching.{last_fits}
use Rattle.escrow_shards.proofs.Rest.{is_false}
use Rattle.escrow_shards.proofs.close.matched.all_matched.Goals as goal

pub returns-in_default-matched : goal.returns-in_default-matched
returns-in_default-matched g c = is_false (λ all.
    c.in_default-matched.ensures.none []
    (last_fits c.args.session c.args.receipts.now _ (parts_of c.args.database c.args.parts.now) c.args.last.now c.in-Some.ensures.some.1 all
    ∙ sym (append-nil (receipts_of c.args.session c.args.last.now))))
