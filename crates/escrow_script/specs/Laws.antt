-- Believed: the statements of the laws in src/laws.rt.
use Rattle.std.specs.Prelude.{◌≡◌, ◌≤◌, ℕ, List}
use Rattle.escrow_script.specs.declared.limits.TheConstants.{MAX_DATABASES, MAX_LINE, MAX_READS, MAX_SCRIPT, MAX_STREAM}
use Rattle.escrow_script.specs.Line.{Reading, Reads}

-- a line has at most one reading
abbrev pub HasOneReading : Type 0
HasOneReading =
    (databases sessions : ℕ) (bytes : List ℕ) (one other : Reading) → databases ≤ MAX_DATABASES
    → Reads databases sessions bytes one → Reads databases sessions bytes other → one ≡ other

-- the limits of scripts and of the program, as numbers
pub record Limits : Type 0 where
  pub databases : MAX_DATABASES ≡ 16
  pub lines : MAX_LINE ≡ 4096
  pub scripts : MAX_SCRIPT ≡ 16777216
  pub reads : MAX_READS ≡ 33554432
  pub streams : MAX_STREAM ≡ 18446744073709551615
