-- Helps: the rule of a board.
use Rattle.std.specs.Prelude.{◌≡◌, ◌⊎◌, ℕ, ◌≤◌, List, [], ◌∷◌, ◌++◌, length, Some, None, IfSome}
use mathlib.Core.Option.{some}
use lib.ListN.{get_elem?}
use Rattle.sqlite_trees.specs.declared.store.Store.{Ghosts}
use Rattle.escrow_transcript.specs.declared.base.Base.{Base}
use Rattle.escrow_transcript.specs.declared.entry.Entry.{Entry}
use Rattle.escrow_stats.specs.declared.known.Known.{Known}
use Rattle.escrow_stats.specs.declared.shown.Post.{Post}
use Rattle.escrow_stats.specs.declared.shown.Shown.{Shown}
use Rattle.escrow_stats.specs.declared.tally.Tally.{Tally}
use Rattle.escrow_stats.specs.Tally.{tally_of}
use Rattle.escrow_stats.specs.Watching.{IsAlwaysClean, IsPrefix, IsLegalFrom, replies_of}

-- what is known at a new end
abbrev pub newcomer : Known
newcomer = record { base = None; shown = []; doubts = 0; entries = [] }

-- a post has the totals of these entries, and names this base
pub record IsPostOf (start : Base) (all : List Entry) (p : Post) : Type 0 where
  pub named : p.base.value.value ≡ start
  pub totals : p.totals ≡ tally_of (replies_of all)
  pub count : p.count ≡ length all

-- What is known at an end is true, if a board shows these entries, from a base, with these doubts of the disk. The end
-- knows the base, and a prefix of the entries, which had no more doubts. An end that knows all entries knows all
-- doubts.
pub record Holds (start : Base) (all : List Entry) (doubts : ℕ) (v : Known) : Type 0 where
  pub named : IfSome v.base (λ b. b ≡ start)
  pub seen : IsPrefix v.shown all
  pub fewer : v.doubts ≤ doubts
  pub last : length v.shown ≡ length all → doubts ≤ v.doubts

-- THE RULE. A board shows the totals of a list of entries, which is legal unless there are doubts of the disk. What is
-- known at each end is true of these.
pub record Keeps {S : Type 0} (g : Ghosts S) (x : Shown) (views : List Known) : Type 0 where
  pub base : Base
  pub entries : List Entry
  pub doubts : ℕ
  pub same : x.totals ≡ x.post.value.totals
  pub posted : IsPostOf base entries x.post.value
  pub legal : doubts ≡ 0 → IsLegalFrom base entries
  pub always : IsAlwaysClean g → doubts ≡ 0
  pub fresh : entries ≡ [] → doubts ≡ 0
  pub each : (seat : ℕ) (v : Known) → get_elem? views seat ≡ some v → Holds base entries doubts v

-- WHAT A STEP SHOWS

-- from now on it is known where the history begins
abbrev pub IsNamed : Known → Shown → Shown → Known → Type 0
IsNamed v x y w =
    w ≡ record { base = Some y.post.value.base.value.value; shown = v.shown; doubts = v.doubts; entries = v.entries }

-- the end that writes knows one more entry, and a prefix of all is shown
pub record IsPublished (more : Entry) (doubts : ℕ) (v : Known) (x y : Shown) (w : Known) : Type 0 where
  pub named : w.base ≡ v.base
  pub entries : w.entries ≡ v.entries ++ more ∷ []
  pub count : length w.shown ≡ y.post.value.count
  pub begins : IsPrefix w.shown w.entries
  pub fewer : w.doubts ≤ doubts

-- what is shown was read: the totals of a list that begins with what had been seen. It is legal unless there are
-- doubts, and the doubts are no fewer than before
pub record IsRead {S : Type 0} (g : Ghosts S) (v : Known) (x y : Shown) (w : Known) : Type 0 where
  pub named : w.base ≡ v.base
  pub totals : y.totals ≡ tally_of (replies_of w.shown)
  pub legal : (start : Base) → v.base ≡ Some start → w.doubts ≡ 0 → IsLegalFrom start w.shown
  pub always : IsAlwaysClean g → w.doubts ≡ 0
  pub longer : IsPrefix v.shown w.shown
  pub more : v.doubts ≤ w.doubts

-- what the end that writes tells a new one, which then knows this
abbrev pub introduced : Known → Known
introduced v = record { base = v.base; shown = []; doubts = 0; entries = [] }

abbrev pub acquainted : Known → Known → Known
acquainted v w = record { base = w.base; shown = v.shown; doubts = v.doubts; entries = v.entries }

-- WHAT THE ENDS KEEP

-- at the end that writes: the base, all entries, and a prefix of them, as long as the list whose totals are shown
pub record Writes (start : Base) (x : Shown) (v : Known) : Type 0 where
  pub named : v.base ≡ Some start
  pub shows : x.post.value.base.value.value ≡ start
  pub counted : length v.shown ≡ x.post.value.count
  pub begins : IsPrefix v.shown v.entries

-- what was posted and isn't shown: nothing, or the totals of these entries
abbrev pub IsPosted : Base → List Entry → List Post → Type 0
IsPosted start all pending = (pending ≡ []) ⊎ ((p : Post) × ((pending ≡ p ∷ []) × IsPostOf start all p))

-- entries may be shown, with these doubts of the disk
pub record MayShow {S : Type 0} (g : Ghosts S) (start : Base) (all : List Entry) (doubts : ℕ) (v : Known) : Type 0 where
  pub legal : doubts ≡ 0 → IsLegalFrom start all
  pub always : IsAlwaysClean g → doubts ≡ 0
  pub more : v.doubts ≤ doubts

-- what a board keeps
pub record IsBoard (start : Base) (totals : Tally) (x : Shown) (pending : List Post) (v : Known) : Type 0 where
  pub writes : Writes start x v
  pub tallied : totals ≡ tally_of (replies_of v.entries)
  pub idle : pending ≡ []

-- what a watcher keeps
pub record IsWatcher {S : Type 0} (g : Ghosts S) (start : Base) (totals : Tally) (v : Known) : Type 0 where
  pub named : v.base ≡ Some start
  pub tallied : totals ≡ tally_of (replies_of v.shown)
  pub legal : v.doubts ≡ 0 → IsLegalFrom start v.shown
  pub always : IsAlwaysClean g → v.doubts ≡ 0
