-- Believed: what always holds under the lock of a watched database.
use Rattle.std.specs.Prelude.{◌≡◌, ℕ, ◌+◌, ◌≤◌, List, ◌++◌, length, refl}
use Rattle.std.specs.Coded.{Coded, code_by, coded×, coded_ℕ}
use Rattle.sqlite.specs.Held.{Held, state}
use Rattle.sqlite.specs.State.{HasCleanDisk}
use Rattle.sqlite_trees.specs.declared.store.Store.{Ghosts}
use Rattle.sqlite_trees.specs.View.{doubt}
use Rattle.escrow_transcript.specs.declared.entry.Entry.{Entry}
use Rattle.escrow_transcript.specs.Legal.{IsLegal}
use Rattle.escrow_history.specs.Audited.{Audited, audited_code}
use Rattle.escrow_stats.specs.Watching.{Board, board_code, IsPrefix}

-- what contracts see of a watched database: the database with its transcript, how many parts of its history were handed
-- out, and the board
pub record Watched (S : Type 0) : Type 0 where
  pub history : Audited S
  pub parts : ℕ
  pub board : Board

abbrev pub watched_code : {S : Type 0} → Coded S → Coded (Watched S)
watched_code {S} store =
    code_by (Audited S × (ℕ × Board)) (coded× (audited_code store) (coded× coded_ℕ board_code))
    (λ w. (w.history, (w.parts, w.board))) (λ p. record { history = p.0; parts = p.1.0; board = p.1.1 }) (λ _. refl)

-- the doubts of the disk below a connection: 0 as long as it returned what was written (HasCleanDisk)
abbrev pub doubts_of : {S : Type 0} → Ghosts S → Held S → ℕ
doubts_of g connection = doubt (state g connection).is_clean

-- a list ends with entries
abbrev pub EndsWith : List Entry → List Entry → Type 0
EndsWith entries last = (earlier : List Entry) × (entries ≡ earlier ++ last)

-- WHAT ALWAYS HOLDS. The board counts the whole history of the database. If the disk returned what was written, this
-- list is legal, from where the history begins to the state found. Its length is the last entry's number, and it ends
-- with the transcript's entries. It begins with the list whose totals are shown, for which the disk was no more in
-- doubt than now.
pub record IsShown {S : Type 0} (g : Ghosts S) (h : Audited S) (b : Board) : Type 0 where
  pub first : b.base.before ≡ 0
  pub legal : HasCleanDisk (state g h.store) → IsLegal b.base b.entries h.state
  pub long : length b.entries ≡ h.base.before + length h.entries
  pub ends : EndsWith b.entries h.entries
  pub begins : IsPrefix b.shown b.entries
  pub fewer : b.doubts ≤ doubts_of g h.store
