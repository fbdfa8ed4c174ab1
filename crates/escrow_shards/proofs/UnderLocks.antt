-- Databases are put under their locks, the last one first.
use Rattle.std.proofs.Common.{◌≡◌, ℕ, ◌+◌, ◌<◌, ◌≤◌, List, [], ◌∷◌, ◌++◌, length, map, reverse, take, set, sym, ap, ◌∙◌, append_assoc, arith}
use Rattle.std.proofs.lemmas.List.{map_push, same_from_push, reverse-append, take_more_set, length-map}
use Rattle.escrow_core.specs.Database.{Database}
use Rattle.escrow_shards.specs.Opening.{Opening}
use Rattle.escrow_shards.specs.Opened.{database_at}

module _ {S : Type 0} where
  -- the last opening belongs to the last database
  pub last_seen : (starts rest : List (Opening S)) (databases left : List (Database S)) (s : Opening S) (d : Database S)
      → map database_at starts ≡ databases → starts ≡ rest ++ s ∷ [] → databases ≡ left ++ d ∷ [] → (map database_at rest ≡ left) × (database_at s ≡ d)
  last_seen starts rest databases left s d seen starts_is databases_is =
      same_from_push (map database_at rest) left (database_at s) d
      (sym (map_push database_at rest s) ∙ ap (λ (bs : List (Opening S)). map database_at bs) (sym starts_is) ∙ seen ∙ databases_is)

  -- the locked databases, reversed, follow those not yet locked
  pub next_order : (starts rest shards new all : List (Opening S)) (s b : Opening S)
      → starts ++ reverse shards ≡ all → starts ≡ rest ++ s ∷ [] → new ≡ shards ++ b ∷ [] → b ≡ s → rest ++ reverse new ≡ all
  next_order starts rest shards new all s b order starts_is new_is same =
      ap (λ (bs : List (Opening S)). rest ++ reverse bs) new_is
      ∙ ap (λ (bs : List (Opening S)). rest ++ bs) (reverse-append shards (b ∷ []))
      ∙ ap (λ (x : Opening S). rest ++ (x ∷ reverse shards)) same
      ∙ sym (append_assoc rest (s ∷ []) (reverse shards))
      ∙ ap (λ (bs : List (Opening S)). bs ++ reverse shards) (sym starts_is)
      ∙ order

  -- one more database was read
  pub so_far_more : (starts new : List (Opening S)) (s : Opening S) (items : List (Database S)) (i : ℕ) (m : Database S)
      → map database_at starts ≡ take i items → new ≡ starts ++ s ∷ [] → database_at s ≡ m → i < length items → map database_at new ≡ take (i + 1) (set items i m)
  so_far_more starts new s items i m so_far new_is same below =
      ap (λ (bs : List (Opening S)). map database_at bs) new_is
      ∙ map_push database_at starts s
      ∙ ap (λ (ds : List (Database S)). ds ++ database_at s ∷ []) so_far
      ∙ ap (λ (d : Database S). take i items ++ d ∷ []) same
      ∙ sym (take_more_set items i m below)

  -- there are as many as there are databases
  pub as_many : (openings starts : List (Opening S)) (databases : List (Database S)) → openings ≡ starts → map database_at starts ≡ databases → length openings ≡ length databases
  as_many openings starts databases same seen =
      ap (λ (bs : List (Opening S)). length bs) same ∙ sym (length-map starts database_at) ∙ ap (λ (ds : List (Database S)). length ds) seen

pub room_for : (left rest count room : ℕ) → left + count ≤ room → rest + 1 ≡ left → count < room
room_for left rest count room fits gone = omega arith

pub room_stays : (left rest count more room wide : ℕ) → left + count ≤ room → rest + 1 ≡ left → more ≡ count + 1 → wide ≡ room → rest + more ≤ wide
room_stays left rest count more room wide fits gone put same = omega arith

pub room_first : (all none room : ℕ) → none ≡ 0 → all ≤ room → all + none ≤ room
room_first all none room is fits = omega arith

pub bound_at : (i n m l k : ℕ) → i < n → n ≡ m → l ≡ m → l ≡ k → i < k
bound_at i n m l k below same long as_long = omega arith

pub few_of : (n a b c d most : ℕ) → n ≡ a → a ≡ b → c ≡ b → c ≡ d → d ≤ most → n ≤ most
few_of n a b c d most one two three four few = omega arith

pub room_exact : (new old count room : ℕ) → new ≡ old → count ≡ old → room ≡ count → new ≤ room
room_exact new old count room same is exact = omega arith
