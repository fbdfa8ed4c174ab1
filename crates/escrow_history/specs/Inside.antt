-- Helps: what the fields of a database with its transcript hold.
use Rattle.std.specs.Prelude.{◌≡◌, ◌⊎◌, ℕ, ◌-◌, min, true, Some, Vec, vec_len, vec_capacity}
use Rattle.escrow_num.specs.declared.failure.Failure.{Failure}
use Rattle.escrow_num.specs.declared.failure.Failure.TheVariants as failure
use Rattle.escrow_num.specs.declared.refusal.Refusal.TheVariants as refusal
use Rattle.escrow_machine.specs.declared.reply.Reply.{Reply}
use Rattle.escrow_machine.specs.declared.reply.Reply.TheVariants as reply
use Rattle.escrow_machine.specs.Reply.{failure_of, holds_memory}
use Rattle.escrow_core.specs.Database.{Database}
use Rattle.escrow_transcript.specs.declared.base.Base.{Base}
use Rattle.escrow_transcript.specs.declared.entry.Entry.{Entry}
use Rattle.escrow_transcript.specs.declared.transcript.TheConstants.Transcript.{MAX_ENTRIES}
use Rattle.escrow_history.specs.Audited.{Audited}

-- for how many more entries a list has room: as many as it can take without growing, and a transcript may have
abbrev pub room_of : {Z : Type 0} → Vec Entry Z → ℕ
room_of entries = min (vec_capacity entries) MAX_ENTRIES - vec_len entries

-- the history of a database, a base and entries
abbrev pub audited_of : {S Z : Type 0} → Database S → Base → Vec Entry Z → Audited S
audited_of d base entries =
    record { store = d.store; state = d.state; base = base; entries = entries.items; room = room_of entries }

-- why a reply is no answer: it reports a failure, or only a transcript gives it, which counts as the store's failure
abbrev pub IsNoAnswer : Reply → Failure → Type 0
IsNoAnswer answer f =
    (failure_of answer ≡ Some f) ⊎ ((answer ≡ reply.Refused refusal.TranscriptFull) × (f ≡ failure.Store))

-- why a reply isn't kept: it is no answer, or a copy of it takes memory, which is refused
abbrev pub IsNotKept : Reply → Failure → Type 0
IsNotKept answer f = IsNoAnswer answer f ⊎ ((holds_memory answer ≡ true) × (f ≡ failure.Memory))
