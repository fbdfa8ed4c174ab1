use Rattle.std.proofs.Common.{rules}
use Rattle.escrow_script.proofs.OutcomeLemmas.{at_ok}
use Rattle.escrow_free.specs.Dealing.{IsNewFeed}
use Rattle.escrow_free.proofs.Dealt.{dealt_none}
use Rattle.escrow_free.proofs.Marking.{zip_as}
use Rattle.escrow_free.proofs.dealing.new_feeds.Goals as goal

pub returns : goal.returns
returns c = at_ok _ _ c.each_of.result (λ feeds made.
    dealt_none c.args.passes.items feeds.items (zip_as _ IsNewFeed (λ x y one. search rules) c.args.passes.items feeds.items made)) c.each_of.ensures
