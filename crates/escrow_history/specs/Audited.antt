-- Believed: what contracts see of a database with its transcript, and what always holds of it.
use Rattle.std.specs.Prelude.{ℕ, ◌+◌, ◌≤◌, List, length, refl}
use Rattle.std.specs.Coded.{Coded, code_by, coded×, coded_list, coded_ℕ}
use Rattle.sqlite.specs.Held.{Held, held_code, state}
use Rattle.sqlite.specs.State.{HasCleanDisk}
use Rattle.sqlite_trees.specs.declared.store.Store.{Ghosts}
use Rattle.escrow_machine.specs.State.{State}
use Rattle.escrow_machine.specs.StateCode.{state_code}
use Rattle.escrow_transcript.specs.contracts.base.Base as base_row
use Rattle.escrow_transcript.specs.contracts.entry.Entry as entry_row
use Rattle.escrow_transcript.specs.declared.base.Base.{Base}
use Rattle.escrow_transcript.specs.declared.entry.Entry.{Entry}
use Rattle.escrow_transcript.specs.declared.transcript.TheConstants.Transcript.{MAX_ENTRIES, MAX_NUMBER}
use Rattle.escrow_transcript.specs.Legal.{IsLegal}

-- What contracts see of a database with its transcript: the connection to its store, its state, the base where the
-- transcript began, the entries since, and for how many more entries room was taken.
pub record Audited (S : Type 0) : Type 0 where
  pub store : Held S
  pub state : State
  pub base : Base
  pub entries : List Entry
  pub room : ℕ

abbrev pub audited_code : {S : Type 0} → Coded S → Coded (Audited S)
audited_code {S} store =
    code_by (Held S × (State × (Base × (List Entry × ℕ))))
    (coded× (held_code store)
    (coded× state_code (coded× base_row.the_row.coded (coded× (coded_list entry_row.the_row.coded) coded_ℕ))))
    (λ h. (h.store, (h.state, (h.base, (h.entries, h.room)))))
    (λ p. record { store = p.0; state = p.1.0; base = p.1.1.0; entries = p.1.1.1.0; room = p.1.1.1.1 }) (λ _. refl)

-- What always holds of it. If the disk returned what was written, the transcript is legal from its base to the state.
-- It has at most 65,536 entries, and a number is left for each of this many.
pub record IsKept {S : Type 0} (g : Ghosts S) (h : Audited S) : Type 0 where
  pub legal : HasCleanDisk (state g h.store) → IsLegal h.base h.entries h.state
  pub few : length h.entries ≤ MAX_ENTRIES
  pub numbers : h.base.before + MAX_ENTRIES ≤ MAX_NUMBER
