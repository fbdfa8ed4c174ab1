-- Believed: what contracts see of the opening of a database.
use Rattle.std.specs.Prelude.{◌≡◌, refl}
use Rattle.std.specs.Coded.{Coded, code_by, coded×}
use Rattle.sqlite.specs.Held.{Held, held_code, state}
use Rattle.sqlite.specs.State.{HasCleanDisk}
use Rattle.sqlite_trees.specs.declared.store.Store.{Ghosts}
use Rattle.escrow_machine.specs.State.{State}
use Rattle.escrow_machine.specs.StateCode.{state_code}
use Rattle.escrow_transcript.specs.contracts.base.Base as base
use Rattle.escrow_transcript.specs.declared.base.Base.{Base}
use Rattle.escrow_transcript.specs.Image.{started}

-- what contracts see of an opening: the base where the history of a database begins; and the store and the state of the
-- database, as they were then
pub record Opening (S : Type 0) : Type 0 where
  pub base : Base
  pub store : Held S
  pub state : State

abbrev pub opening_code : {S : Type 0} → Coded S → Coded (Opening S)
opening_code {S} store =
    code_by (Base × (Held S × State)) (coded× base.the_row.coded (coded× (held_code store) state_code))
    (λ b. (b.base, (b.store, b.state))) (λ p. record { base = p.0; store = p.1.0; state = p.1.1 }) (λ _. refl)

-- What always holds of an opening: no entry comes before it. If the disk had returned what was written, its base is the
-- whole state.
pub record IsOpening {S : Type 0} (g : Ghosts S) (b : Opening S) : Type 0 where
  pub first : b.base.before ≡ 0
  pub whole : HasCleanDisk (state g b.store) → b.state ≡ started b.base.image
