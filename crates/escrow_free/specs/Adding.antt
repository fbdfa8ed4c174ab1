-- Helps: lines that are added to a plan.
use Rattle.std.specs.Prelude.{◌≡◌, ℕ, List, ◌++◌}
use Rattle.escrow_statement.specs.declared.statement.Request.{Request}
use Rattle.escrow_free.specs.Planning.{PlansText, PlansBytes}
use Rattle.escrow_free.specs.declared.plan.Plan.{Plan}
use Rattle.escrow_free.specs.declared.plan.Planned.{Planned}

-- a plan grew by what a text adds
pub record AddsText (place session : ℕ) (text : List ℕ) (old new : Plan) : Type 0 where
  pub more_lines : List Planned
  pub more_items : List (ℕ × Request)
  pub plans : PlansText place session text more_lines more_items
  pub lines : new.lines.items ≡ old.lines.items ++ more_lines
  pub items : new.items.items ≡ old.items.items ++ more_items

-- a plan grew by what a line adds
pub record Adds (databases : ℕ) (bytes : List ℕ) (old new : Plan) : Type 0 where
  pub more_lines : List Planned
  pub more_items : List (ℕ × Request)
  pub plans : PlansBytes databases bytes more_lines more_items
  pub lines : new.lines.items ≡ old.lines.items ++ more_lines
  pub items : new.items.items ≡ old.items.items ++ more_items
