-- Believed: the statements of the laws in src/laws.rt.
use Rattle.std.specs.Prelude.{◌≡◌, List, [], ◌∷◌, ◌++◌, map}
use Rattle.escrow_statement.specs.declared.statement.Request.{Request}
use Rattle.escrow_statement.specs.declared.statement.Request.TheVariants as request
use Rattle.escrow_statement.specs.declared.statement.Statement.{Statement}
use Rattle.escrow_machine.specs.declared.reply.Reply.{Reply}
use Rattle.escrow_shards.specs.Pass.{Pass}
use Rattle.escrow_shards.specs.declared.pass.Answer.TheVariants.{Served}
use Rattle.escrow_shards.specs.declared.pass.Receipt.{Receipt}
use Rattle.escrow_sessions.specs.declared.feed.Given.{Given}
use Rattle.escrow_sessions.specs.declared.feed.Given.TheVariants as given
use Rattle.escrow_sessions.specs.declared.feed.TheConstants.{MAX_WORKERS}
use Rattle.escrow_sessions.specs.declared.channel.TheConstants.{MAX_WAITING}
use Rattle.escrow_sessions.specs.Serving.{Serves}

-- the limits of this layer, as numbers
abbrev pub Limits : Type 0
Limits = (MAX_WORKERS ≡ 64) × (MAX_WAITING ≡ 16)

-- for each receipt, its statement and its reply
abbrev pub calls_in : List Receipt → List (Statement × Reply)
calls_in receipts = map (λ r. (r.statement, r.reply)) receipts

-- from requests and their answers, the statements that were served, each with its reply
abbrev pub served_in : List Request → List Given → List (Statement × Reply)
served_in (request.Statement asked ∷ rs) (given.Reply (Served reply) ∷ gs) = (asked, reply) ∷ served_in rs gs
served_in (r ∷ rs) (g ∷ gs) = served_in rs gs
served_in rs [] = []
served_in [] gs = []

-- what a pass gained is what was served: a receipt for each of these statements with its reply, in order, and no others
pub record Gained (old new : Pass) (served : List (Statement × Reply)) : Type 0 where
  pub database : new.database ≡ old.database
  pub session : new.session ≡ old.session
  pub calls : calls_in new.receipts ≡ calls_in old.receipts ++ served

-- if requests have answers (Serves), the pass gains exactly the receipts of those that were served
abbrev pub ReceiptsAreServed : Type 0
ReceiptsAreServed =
    (old new : Pass) (requests : List Request) (answers : List Given) → Serves old requests answers new
    → Gained old new (served_in requests answers)
