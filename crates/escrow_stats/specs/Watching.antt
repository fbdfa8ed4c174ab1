-- Believed: what contracts see of a watcher, and of the board that it reads.
use Rattle.std.specs.Prelude.{◌≡◌, ℕ, List, [], ◌++◌, map, refl}
use Rattle.std.specs.Coded.{Coded, code_by, coded×, coded_list, coded_ℕ}
use Rattle.sqlite.specs.Held.{Held, state}
use Rattle.sqlite.specs.State.{HasCleanDisk}
use Rattle.sqlite_trees.specs.declared.store.Store.{Ghosts}
use Rattle.escrow_machine.specs.declared.reply.Reply.{Reply}
use Rattle.escrow_machine.specs.State.{State}
use Rattle.escrow_transcript.specs.contracts.base.Base as base_row
use Rattle.escrow_transcript.specs.contracts.entry.Entry as entry_row
use Rattle.escrow_transcript.specs.declared.base.Base.{Base}
use Rattle.escrow_transcript.specs.declared.entry.Entry.{Entry}
use Rattle.escrow_transcript.specs.Legal.{IsLegal}

-- the replies of entries
abbrev pub replies_of : List Entry → List Reply
replies_of entries = map (λ e. e.reply) entries

-- entries that begin others: a prefix of them, possibly all or none
abbrev pub IsPrefix : List Entry → List Entry → Type 0
IsPrefix front entries = (rest : List Entry) × (entries ≡ front ++ rest)

-- entries are a legal transcript from a base, up to some state
abbrev pub IsLegalFrom : Base → List Entry → Type 0
IsLegalFrom start entries = (end : State) × IsLegal start entries end

-- whatever was done over a connection, its disk returned what was written, as memory always does
abbrev pub IsAlwaysClean : {S : Type 0} → Ghosts S → Type 0
IsAlwaysClean {S} g = (connection : Held S) → HasCleanDisk (state g connection)

-- What contracts see of a watcher: the base where the history of its database begins; the entries whose totals it read
-- last; and the doubts of the disk when these were shown, 0 as long as it returned what was written.
pub record Watcher : Type 0 where
  pub base : Base
  pub entries : List Entry
  pub doubts : ℕ

abbrev pub watcher_code : Coded Watcher
watcher_code =
    code_by (Base × (List Entry × ℕ))
    (coded× base_row.the_row.coded (coded× (coded_list entry_row.the_row.coded) coded_ℕ))
    (λ w. (w.base, (w.entries, w.doubts))) (λ p. record { base = p.0; entries = p.1.0; doubts = p.1.1 }) (λ _. refl)

-- What always holds of a watcher: if the disk returned what was written, its entries are a legal transcript from the
-- base. A store whose disk always does leaves no doubt.
pub record IsSound {S : Type 0} (g : Ghosts S) (w : Watcher) : Type 0 where
  pub legal : w.doubts ≡ 0 → IsLegalFrom w.base w.entries
  pub always : IsAlwaysClean g → w.doubts ≡ 0

-- a watcher of a history from a base. It has read nothing, and knows of no doubt
pub record IsNewWatcher (start : Base) (w : Watcher) : Type 0 where
  pub begins : w.base ≡ start
  pub unread : w.entries ≡ []
  pub sure : w.doubts ≡ 0

-- What contracts see of a board: the base where the history of its database begins; all entries since, and a prefix of
-- them whose totals it shows; and the doubts of the disk when these were shown.
pub record Board : Type 0 where
  pub base : Base
  pub entries : List Entry
  pub shown : List Entry
  pub doubts : ℕ

abbrev pub board_code : Coded Board
board_code =
    code_by (Base × (List Entry × (List Entry × ℕ)))
    (coded× base_row.the_row.coded
    (coded× (coded_list entry_row.the_row.coded) (coded× (coded_list entry_row.the_row.coded) coded_ℕ)))
    (λ b. (b.base, (b.entries, (b.shown, b.doubts))))
    (λ p. record { base = p.0; entries = p.1.0; shown = p.1.1.0; doubts = p.1.1.1 }) (λ _. refl)

-- a board of a history from a base, with nothing served yet
pub record IsNewBoard (start : Base) (b : Board) : Type 0 where
  pub begins : b.base ≡ start
  pub unserved : b.entries ≡ []
  pub unshown : b.shown ≡ []
  pub sure : b.doubts ≡ 0
