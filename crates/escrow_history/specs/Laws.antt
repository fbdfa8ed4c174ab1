-- Believed: the statements of the laws in src/laws.rt.
use Rattle.std.specs.Prelude.{List}
use Rattle.std.specs.List.{AllByRecursion}
use Rattle.escrow_machine.specs.State.{State}
use Rattle.escrow_transcript.specs.declared.base.Base.{Base}
use Rattle.escrow_transcript.specs.declared.entry.Entry.{Entry}
use Rattle.escrow_transcript.specs.Legal.{IsLegal}
use Rattle.escrow_history.specs.Calls.{IsAnswer}

-- no entry of a legal transcript has the reply 51, 52 or 60
abbrev pub EntriesAreAnswers : Type 0
EntriesAreAnswers =
    (base : Base) (entries : List Entry) (end : State) → IsLegal base entries end
    → AllByRecursion (λ e. IsAnswer e.reply) entries
