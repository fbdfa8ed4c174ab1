-- Boards and watchers of databases that will be shared.
use Rattle.std.proofs.Common.{◌≡◌, ℕ, List, [], ◌∷◌, ◌++◌, length, map, refl, sym, ap, subst, ◌∙◌, append_assoc, inl, inr}
use Rattle.std.specs.Prelude.{All}
use Rattle.std.proofs.lemmas.List.{append-nil, map_push, same_from_push}
use Rattle.escrow_transcript.specs.declared.base.Base.{Base}
use Rattle.escrow_transcript.specs.declared.entry.Entry.{Entry}
use Rattle.escrow_stats.specs.Watching.{Board, Watcher, IsNewBoard, IsNewWatcher}
use Rattle.escrow_shards.specs.Opening.{Opening}
use Rattle.escrow_shards.specs.declared.make.Unshared.{Unshared}
use Rattle.escrow_shards.specs.Watchers.{AreNewWatchers, IsUnshared, IsUnwatched, new_board}

module _ {S : Type 0} where
  -- a new board is the board of its opening
  pub is_new_board : (o : Opening S) (start : Base) (b : Board) → start ≡ o.base → IsNewBoard start b → b ≡ new_board o
  is_new_board o start b same new =
      ap (λ (x : Base). let c : Board = record { base = x; entries = b.entries; shown = b.shown; doubts = b.doubts } in c) (new.begins ∙ same)
      ∙ ap (λ (x : List Entry). let c : Board = record { base = o.base; entries = x; shown = b.shown; doubts = b.doubts } in c) new.unserved
      ∙ ap (λ (x : List Entry). let c : Board = record { base = o.base; entries = []; shown = x; doubts = b.doubts } in c) new.unshown
      ∙ ap (λ (x : ℕ). let c : Board = record { base = o.base; entries = []; shown = []; doubts = x } in c) new.sure

  -- one more board
  pub boards_more : (openings all : List (Opening S)) (o : Opening S) (boards new : List Board) (b : Board) → boards ≡ map new_board openings → new ≡ boards ++ b ∷ []
      → b ≡ new_board o → all ≡ openings ++ o ∷ [] → new ≡ map new_board all
  boards_more openings all o boards new b are is same more =
      is ∙ ap (λ (bs : List Board). bs ++ b ∷ []) are ∙ ap (λ (c : Board). map new_board openings ++ c ∷ []) same
      ∙ sym (map_push new_board openings o) ∙ ap (λ (os : List (Opening S)). map new_board os) (sym more)

  -- the last board belongs to the last opening
  pub last_board : (openings rest : List (Opening S)) (boards left : List Board) (o : Opening S) (b : Board) → boards ≡ map new_board openings → openings ≡ rest ++ o ∷ []
      → boards ≡ left ++ b ∷ [] → (left ≡ map new_board rest) × (b ≡ new_board o)
  last_board openings rest boards left o b are openings_is boards_is =
      same_from_push left (map new_board rest) b (new_board o)
      (sym boards_is ∙ are ∙ ap (λ (os : List (Opening S)). map new_board os) openings_is ∙ map_push new_board rest o)

  -- the watchers of one more opening
  snoc_watchers : (count : ℕ) (openings : List (Opening S)) (o : Opening S) (watchers mine : List Watcher) → AreNewWatchers count openings watchers → length mine ≡ count
      → All (IsNewWatcher o.base) mine → AreNewWatchers count (openings ++ o ∷ []) (watchers ++ mine)
  snoc_watchers count [] o watchers mine none long new =
      (mine, ([], (ap (λ (ws : List Watcher). ws ++ mine) none ∙ sym (append-nil mine), (long, (new, refl)))))
  snoc_watchers count (first ∷ openings) o watchers mine (own, (others, (is, (own_long, (own_new, rest))))) long new = (
    own,
    (
      others ++ mine,
      (ap (λ (ws : List Watcher). ws ++ mine) is ∙ append_assoc own others mine, (own_long, (own_new, snoc_watchers count openings o others mine rest long new))),
    ),
  )

  pub watchers_more : (count : ℕ) (openings all : List (Opening S)) (o : Opening S) (start : Base) (watchers mine new : List Watcher) → AreNewWatchers count openings watchers
      → new ≡ watchers ++ mine → start ≡ o.base → length mine ≡ count → All (IsNewWatcher start) mine → all ≡ openings ++ o ∷ [] → AreNewWatchers count all new
  watchers_more count openings all o start watchers mine new are is same long each more =
      subst (λ (os : List (Opening S)). AreNewWatchers count os new) (sym more)
      (subst (AreNewWatchers count (openings ++ o ∷ [])) (sym is)
      (snoc_watchers count openings o watchers mine are long (subst (λ (b : Base). All (IsNewWatcher b) mine) same each)))

-- without boards and watchers, databases are not shared
pub unwatched_is : (cause : Unshared) → IsUnwatched cause → IsUnshared cause
unwatched_is cause (inl is) = subst IsUnshared (sym is) (inr (inl refl))
unwatched_is cause (inr is) = subst IsUnshared (sym is) tt
