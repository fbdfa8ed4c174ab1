-- Believed: what contracts see of databases that threads share.
use Rattle.std.specs.Prelude.{ℕ, ◌<◌, ◌≤◌, List, length, refl}
use Rattle.std.specs.Coded.{Coded, code_by, coded×, coded_list, coded_ℕ}
use Rattle.escrow_shards.specs.Opening.{Opening, opening_code}
use Rattle.escrow_shards.specs.Pass.{Pass}

-- what contracts see of shared databases: the opening of each, in order, and the number of sessions of each
pub record Shared (S : Type 0) : Type 0 where
  pub openings : List (Opening S)
  pub sessions : ℕ

abbrev pub shared_code : {S : Type 0} → Coded S → Coded (Shared S)
shared_code {S} store =
    code_by (List (Opening S) × ℕ) (coded× (coded_list (opening_code store)) coded_ℕ)
    (λ h. (h.openings, h.sessions)) (λ p. record { openings = p.0; sessions = p.1 }) (λ _. refl)

-- the database and the session of a pass are among those shared
pub record HasPass {S : Type 0} (sharing : Shared S) (pass : Pass) : Type 0 where
  pub database : pass.database < length sharing.openings
  pub session : pass.session ≤ sharing.sessions
