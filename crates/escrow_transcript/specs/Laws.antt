-- Believed: the statements of the laws in src/laws.rt.
use Rattle.std.specs.Prelude.{◌≡◌, ℕ, ◌+◌, false, Some, None, List, [], ◌∷◌, ◌++◌, length, map, slice_get}
use Rattle.std.specs.List.{AllByRecursion}
use Rattle.escrow_num.specs.Session.{IsSession}
use Rattle.escrow_statement.specs.declared.statement.Statement.{Statement}
use Rattle.escrow_machine.specs.declared.event.Event.{Event}
use Rattle.escrow_machine.specs.declared.event.Event.TheVariants as event
use Rattle.escrow_machine.specs.Reply.{failure_of}
use Rattle.escrow_machine.specs.State.{State, has_open}
use Rattle.escrow_machine.specs.Step.{IsStep, IsRun}
use Rattle.escrow_machine.specs.Valid.{IsValid}
use Rattle.escrow_transcript.specs.declared.base.Base.{Base}
use Rattle.escrow_transcript.specs.declared.entry.Entry.{Entry}
use Rattle.escrow_transcript.specs.declared.image.Image.{Image}
use Rattle.escrow_transcript.specs.declared.transcript.TheConstants.Transcript.{MAX_ENTRIES, MAX_NUMBER}
use Rattle.escrow_transcript.specs.Image.{image_of, started}
use Rattle.escrow_transcript.specs.Legal.{AreSteps, IsLegal}

-- the limits of this layer, as numbers
pub record Limits : Type 0 where
  pub entries : MAX_ENTRIES ≡ 65536
  pub numbers : MAX_NUMBER ≡ 999999999999999

-- IMAGES

-- if nothing is open in a state, its image starts that state; and the state that an image starts has that image
pub record ImagesAreWhole : Type 0 where
  pub of_states : (s : State) → has_open s ≡ false → started (image_of s) ≡ s
  pub of_starts : (image : Image) → image_of (started image) ≡ image

-- WHAT IS LEGAL

-- an empty transcript is legal, up to the state that its base starts
abbrev pub NothingIsLegal : Type 0
NothingIsLegal = (base : Base) → IsLegal base [] (started base.image)

-- a legal transcript stays legal with one more entry, which is a step of the machine and has the next number
abbrev pub OneMoreIsLegal : Type 0
OneMoreIsLegal = (base : Base) (entries : List Entry) (mid end : State) (e : Entry) → IsLegal base entries mid
    → failure_of e.reply ≡ None → IsStep mid e.session e.statement e.reply end
    → e.number ≡ base.before + length entries + 1
    → IsLegal base (entries ++ e ∷ []) end

-- two legal transcripts are one, if the second begins at the state and the number where the first ends
abbrev pub LegalsJoin : Type 0
LegalsJoin = (base next : Base) (entries more : List Entry) (end : State)
    → IsLegal base entries (started next.image) → next.before ≡ base.before + length entries → IsLegal next more end
    → IsLegal base (entries ++ more) end

-- wherever a legal transcript is cut, its front is legal up to some state, and the rest is the machine's steps from
-- there
abbrev pub LegalsPart : Type 0
LegalsPart = (base : Base) (front rest : List Entry) (end : State) → IsLegal base (front ++ rest) end
    → (mid : State) × (IsLegal base front mid × AreSteps mid rest end)

-- WHAT A LEGAL TRANSCRIPT DETERMINES

-- the entry at each place has the number of that place
abbrev pub NumbersTellPlaces : Type 0
NumbersTellPlaces = (base : Base) (entries : List Entry) (end : State) (i : ℕ) (e : Entry) → IsLegal base entries end
    → slice_get entries i ≡ Some e → e.number ≡ base.before + i + 1

-- the statement of an entry, as an event of the machine
abbrev pub event_of : Entry → Event
event_of e = event.Statement e.session e.statement

-- its entries are a run of the machine: the events are its statements, and the answers its replies
abbrev pub LegalsAreRuns : Type 0
LegalsAreRuns = (base : Base) (entries : List Entry) (end : State) → IsLegal base entries end
    → IsRun (started base.image) (map event_of entries) (map (λ e. e.reply) entries) end

-- it ends in a valid state, if it begins in one
abbrev pub EndsAreValid : Type 0
EndsAreValid = (base : Base) (entries : List Entry) (end : State) → IsLegal base entries end
    → IsValid (started base.image) → AllByRecursion (λ e. IsSession e.session) entries → IsValid end

-- who asked, and what
abbrev pub call_of : Entry → ℕ × Statement
call_of e = (e.session, e.statement)

-- the calls determine the rest. Two legal transcripts with equal bases and equal calls have equal entries, with replies
-- and numbers, and end in equal states
abbrev pub CallsTellAll : Type 0
CallsTellAll =
    (base : Base) (entries others : List Entry) (end other : State) → IsLegal base entries end
    → IsLegal base others other
    → map call_of entries ≡ map call_of others → (entries ≡ others) × (end ≡ other)
