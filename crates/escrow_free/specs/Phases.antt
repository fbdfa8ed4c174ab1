-- Helps: phases that are read and served one after another.
use Rattle.std.specs.Prelude.{◌≡◌, ℕ, ◌≤◌, Option, Some, None, List, [], ◌*◌, ◌++◌, length, ⊤}
use Rattle.std.specs.Io.KnownBytes.{Appends}
use Rattle.escrow_num.specs.declared.session.TheConstants.Session.{MAX_SHARED}
use Rattle.escrow_script.specs.declared.limits.TheConstants.{MAX_SCRIPT}
use Rattle.escrow_script.specs.Line.{lines_of}
use Rattle.escrow_free.specs.Outboxes.{Fits}
use Rattle.escrow_free.specs.FreeOutput.{Taken, DoLines}
use Rattle.escrow_free.specs.Planning.{Plans}
use Rattle.escrow_free.specs.declared.outbox.Outbox.{Outbox}
use Rattle.escrow_free.specs.declared.plan.Plan.{Plan}

-- these lines and the remaining ones are the lines of the bytes, if these are known
abbrev pub TakesLines : List (List ℕ) → Option (List ℕ) → Option (List ℕ) → Type 0
TakesLines lines None rest = ⊤
TakesLines lines (Some bytes) None = ⊥
TakesLines lines (Some bytes) (Some rest) = lines_of bytes ≡ lines ++ lines_of rest

-- some lines were read, if the bytes are known, and this is their plan
pub record IsRead (databases : ℕ) (bytes rest : Option (List ℕ)) (plan : Plan) : Type 0 where
  pub lines : List (List ℕ)
  pub read : TakesLines lines bytes rest
  pub plans : Plans databases lines plan.lines.items plan.items.items

-- all bytes were read, if they are known
abbrev pub IsOver : Option (List ℕ) → Option (List ℕ) → Type 0
IsOver None rest = ⊤
IsOver (Some bytes) None = ⊥
IsOver (Some bytes) (Some rest) = rest ≡ []

-- a script was served: what its lines do was written, and the outboxes fit what they took
pub record IsServed (databases : ℕ) (script : List ℕ) (outboxes : List Outbox)
    (old_bytes new_bytes : Option (List ℕ)) : Type 0 where
  pub limit : length script ≤ MAX_SCRIPT
  pub out : List ℕ
  pub taken : List Taken
  pub lines : DoLines databases [] (lines_of script) out taken
  pub count : length outboxes ≡ databases * MAX_SHARED
  pub fits : Fits [] taken outboxes
  pub appends : Appends old_bytes new_bytes out
