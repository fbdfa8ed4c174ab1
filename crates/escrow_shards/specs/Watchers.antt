-- Believed: new boards and watchers of shared databases; and why databases aren't shared.
use Rattle.std.specs.Prelude.{◌≡◌, ◌⊎◌, ℕ, List, [], ◌∷◌, ◌++◌, length, All}
use Rattle.escrow_num.specs.declared.refusal.Refusal.TheVariants as refusal
use Rattle.escrow_history.specs.Calls.{IsNotBegun}
use Rattle.escrow_stats.specs.Watching.{Board, Watcher, IsNewWatcher}
use Rattle.escrow_shards.specs.Opening.{Opening}
use Rattle.escrow_shards.specs.declared.make.Unshared.{Unshared}
use Rattle.escrow_shards.specs.declared.make.Unshared.TheVariants as unshared

-- the board of an opening, before anything was served
abbrev pub new_board : {S : Type 0} → Opening S → Board
new_board o = record { base = o.base; entries = []; shown = []; doubts = 0 }

-- `count` watchers that have read nothing for each opening, in order of the openings
abbrev pub AreNewWatchers : {S : Type 0} → ℕ → List (Opening S) → List Watcher → Type 0
AreNewWatchers count [] watchers = watchers ≡ []
AreNewWatchers count (o ∷ openings) watchers =
    (mine : List Watcher) × ((others : List Watcher)
    × ((watchers ≡ mine ++ others)
    × ((length mine ≡ count) × (All (IsNewWatcher o.base) mine × AreNewWatchers count openings others))))

-- why there are no boards and watchers: memory, or no place to read at
abbrev pub IsUnwatched : Unshared → Type 0
IsUnwatched cause = (cause ≡ unshared.Refused refusal.Memory) ⊎ (cause ≡ unshared.NoPlace)

-- why databases without watchers aren't shared: 26, 51 or 60
abbrev pub IsRefused : Unshared → Type 0
IsRefused (unshared.Refused r) = IsNotBegun r
IsRefused unshared.TooManyWatchers = ⊥
IsRefused unshared.NoPlace = ⊥

-- why databases with watchers aren't shared: for the same reasons; because more watchers are asked for than there may
-- be; or because a watcher has no place to read at
abbrev pub IsUnshared : Unshared → Type 0
IsUnshared (unshared.Refused r) = IsNotBegun r
IsUnshared unshared.TooManyWatchers = Unit {0}
IsUnshared unshared.NoPlace = Unit {0}
