-- Believed: the statements of the laws in src/laws.rt.
use Rattle.std.specs.Prelude.{◌≡◌}
use Rattle.escrow_reply.specs.declared.short.TheConstants.{MAX_FRONT, MAX_SHORT}

-- the room that a short reply takes, as numbers
pub record Limits : Type 0 where
  pub short : MAX_SHORT ≡ 256
  pub front : MAX_FRONT ≡ 16
