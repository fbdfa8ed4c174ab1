-- What a crash can leave while a store is opened.
use Rattle.sqlite.specs.Effect.{Database}
use Rattle.sqlite.specs.State.{State, Survives}
use Rattle.sqlite.proofs.StateLemmas.{survives_weaker}
use Rattle.escrow_rows.specs.Answers.{OnlyReads}
use Rattle.escrow_recover.specs.Found.{IsFounded}

-- a crash while reading leaves nothing new
pub reading_survives : (was : Database) (old new : State) → OnlyReads old new → Survives old new (IsFounded was)
reading_survives was old new only_reads = survives_weaker old new _ _ (λ _ _ none. absurd none) only_reads.survives
