-- Believed: the statements of the laws in src/laws.rt.
use Rattle.std.specs.Prelude.{◌≡◌}
use Rattle.escrow_num.specs.declared.changes.TheConstants.Changes.{IN_PLACE}
use Rattle.escrow_reserved.specs.declared.recent.TheConstants.Recent.{MAX_ROWS}
use Rattle.escrow_core.specs.declared.database.held.TheConstants.HeldBack.{MAX}
use Rattle.escrow_core.specs.declared.database.ending.part.TheConstants.{MAX_TOGETHER}

-- the limits of a database's memory and of what is written at once, as numbers
pub record Limits : Type 0 where
  pub held_back : MAX ≡ 64
  pub together : MAX_TOGETHER ≡ 1024
  pub remembered : MAX_ROWS ≡ 32768
  pub in_place : IN_PLACE ≡ 4
