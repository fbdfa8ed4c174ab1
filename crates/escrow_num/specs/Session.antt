-- Believed: what the number of a session is.
use Rattle.std.specs.Prelude.{ℕ, ◌≤◌}
use Rattle.escrow_num.specs.declared.session.TheConstants.Session.{MAX, MAX_SHARED}

-- a session of a database has a number from 1 to 65,535
abbrev pub IsSession : ℕ → Type 0
IsSession n = (1 ≤ n) × (n ≤ MAX)

-- a session of a script, or of a database that threads share, has a number from 1 to 64
abbrev pub IsShared : ℕ → Type 0
IsShared n = (1 ≤ n) × (n ≤ MAX_SHARED)
