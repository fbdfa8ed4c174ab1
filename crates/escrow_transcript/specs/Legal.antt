-- Believed: when a transcript is legal.
use Rattle.std.specs.Prelude.{◌≡◌, ℕ, ◌+◌, None, List, [], ◌∷◌}
use Rattle.escrow_machine.specs.Reply.{failure_of}
use Rattle.escrow_machine.specs.State.{State}
use Rattle.escrow_machine.specs.Step.{IsStep}
use Rattle.escrow_transcript.specs.declared.base.Base.{Base}
use Rattle.escrow_transcript.specs.declared.entry.Entry.{Entry}
use Rattle.escrow_transcript.specs.Image.{started}

-- the entries are the machine's steps from a state s to a state t, one after another: each session's statement, and the
-- machine's reply, which is no failure
abbrev pub AreSteps : State → List Entry → State → Type 0
AreSteps s [] t = s ≡ t
AreSteps s (e ∷ es) t =
    (failure_of e.reply ≡ None) × ((mid : State) × (IsStep s e.session e.statement e.reply mid × AreSteps mid es t))

-- the numbers rise by one, from the number of entries before them
abbrev pub AreNumbered : ℕ → List Entry → Type 0
AreNumbered before [] = Unit {0}
AreNumbered before (e ∷ es) = (e.number ≡ before + 1) × AreNumbered (before + 1) es

-- A transcript is legal, from its base to a state: its entries are the machine's steps, and their numbers continue
-- those before.
pub record IsLegal (base : Base) (entries : List Entry) (end : State) : Type 0 where
  pub run : AreSteps (started base.image) entries end
  pub numbered : AreNumbered base.before entries
