-- Helps: items that name places.
use Rattle.std.specs.Prelude.{◌≡◌, ℕ, ◌<◌, Option, IfSome}
use Rattle.escrow_statement.specs.declared.statement.Request.{Request}

-- an item, if one comes, names one of `places` places, whose number stays the same
abbrev pub Deals : ℕ → Option (ℕ × Request) → ℕ → Type 0
Deals places item after = (after ≡ places) × IfSome item (λ x. x.0 < places)
