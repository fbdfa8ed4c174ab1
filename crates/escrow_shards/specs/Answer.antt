-- Believed: how a call changes its pass.
use Rattle.std.specs.Prelude.{◌≡◌, ◌⊎◌, ℕ, ◌∷◌, [], ◌++◌}
use Rattle.escrow_num.specs.declared.refusal.Refusal.{Refusal}
use Rattle.escrow_num.specs.declared.refusal.Refusal.TheVariants as refusal
use Rattle.escrow_statement.specs.declared.statement.Statement.{Statement}
use Rattle.escrow_history.specs.Calls.{IsAnswer, IsFailed}
use Rattle.escrow_shards.specs.declared.pass.Answer.{Answer}
use Rattle.escrow_shards.specs.declared.pass.Answer.TheVariants.{Served, Unserved}
use Rattle.escrow_shards.specs.Pass.{Pass}

-- why a statement isn't served: 51, 52 or 60
abbrev pub IsUnserved : Refusal → Type 0
IsUnserved r = (r ≡ refusal.TranscriptFull) ⊎ IsFailed r

-- The answer to a statement. If the statement was served, the reply is none of 51, 52 and 60, and the pass has one more
-- receipt, with the statement and this reply. Otherwise the pass is unchanged.
abbrev pub IsAnswered : Answer → Statement → Pass → Pass → Type 0
IsAnswered (Served reply) asked old new =
    IsAnswer reply
    × ((number : ℕ) × (new ≡ record old
    { receipts = old.receipts ++ (record { number = number; statement = asked; reply = reply }) ∷ [] }))
IsAnswered (Unserved r) asked old new = IsUnserved r × (new ≡ old)
