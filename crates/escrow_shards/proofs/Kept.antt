-- A pass with one more receipt.
use Rattle.std.proofs.Common.{◌≡◌, ℕ, List, [], ◌∷◌, ◌++◌, refl, inl, inr}
use Rattle.escrow_statement.specs.declared.statement.Statement.{Statement}
use Rattle.escrow_machine.specs.declared.reply.Reply.{Reply}
use Rattle.escrow_history.specs.declared.served.Unserved.{Unserved}
use Rattle.escrow_history.specs.declared.served.Unserved.TheVariants.{Full, Failed}
use Rattle.escrow_history.specs.Calls.{unserved_as}
use Rattle.escrow_history.proofs.Kept.{failed_is}
use Rattle.escrow_shards.specs.declared.pass.Receipt.{Receipt}
use Rattle.escrow_shards.specs.Answer.{IsUnserved}

-- the receipts that the pass then has
pub kept_last : (number : ℕ) (old room new : List Receipt) (asked kept : Statement) (reply copy : Reply)
    → new ≡ room ++ (record { number = number; statement = kept; reply = copy }) ∷ [] → room ≡ old → kept ≡ asked → copy ≡ reply
    → new ≡ old ++ (record { number = number; statement = asked; reply = reply }) ∷ []
kept_last number old room new asked kept reply copy is same asked_is reply_is = rw (is, same, asked_is, reply_is) refl

-- a statement that is not served is refused with 51, 52 or 60
pub unserved_is : (u : Unserved) → IsUnserved (unserved_as u)
unserved_is Full = inl refl
unserved_is (Failed failure) = inr (failed_is failure)
