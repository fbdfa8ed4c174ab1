-- Helps: how much room the functions that add text take.
use Rattle.std.specs.Prelude.{ℕ, ◌+◌, ◌<◌, ◌≤◌, Vec, vec_len, vec_capacity, Result, MatchResult}

-- an addition takes at most this much room, and fails only if there was less; it gives no room back
abbrev pub TakesRoom : {X Z T E : Type 0} → Result T E → Vec X Z → Vec X Z → ℕ → Type 0
TakesRoom result old new most =
    (vec_capacity old ≤ vec_capacity new)
    × MatchResult result (λ _. vec_len new ≤ vec_len old + most) (λ _. vec_capacity old < vec_len old + most)
