-- Helps: totals that are kept between requests.
use Rattle.std.specs.Prelude.{◌≡◌, List, [], ◌∷◌, Option, IfSome}
use Rattle.escrow_machine.specs.declared.reply.Reply.{Reply}
use Rattle.escrow_stats.specs.Tally.{tally_of}
use Rattle.escrow_stats.specs.declared.tally.Tally.{Tally}
use Rattle.escrow_shards.specs.declared.pass.Answer.{Answer}
use Rattle.escrow_shards.specs.declared.pass.Answer.TheVariants.{Served, Unserved}

-- the reply in an answer, if the statement was served
abbrev pub reply_of : Answer → List Reply
reply_of (Served reply) = reply ∷ []
reply_of (Unserved r) = []

-- the totals, if they are kept, are those of the replies
abbrev pub AreKept : Option Tally → List Reply → Type 0
AreKept totals replies = IfSome totals (λ t. t ≡ tally_of replies)
