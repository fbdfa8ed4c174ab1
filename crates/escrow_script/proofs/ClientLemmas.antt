-- What came from a client, cut at its line feeds.
use Rattle.std.proofs.Common.{◌≡◌, ◌≢◌, ℕ, suc, ◌+◌, ◌<◌, ◌≤◌, ◌&&◌, Bool, true, false, List, [], ◌∷◌, ◌++◌, length, take, drop, Option, Some, None, nat_lt, arith, refl, sym, ap, subst, ◌∙◌, append_assoc}
use Rattle.std.specs.Io.KnownBytes.{append_known}
use Rattle.std.specs.List.{position_or_len}
use Rattle.std.proofs.lemmas.Bool.{eqb-true, eqb-false, le-ltb, ltb-true, ltb-false, ne_eqb}
use Rattle.std.proofs.lemmas.List.{append-nil, take_all}
use Rattle.escrow_script.specs.Client.{Receives, ReceivesLine, ReceivesPart}
use Rattle.escrow_script.specs.Line.{HasNoFeed}
use Rattle.escrow_script.specs.Script.{has_line, is_feed, Moves}
use Rattle.escrow_script.specs.declared.limits.TheConstants.{MAX_LINE}
use Rattle.escrow_script.proofs.ScriptLemmas.{kept_more}

-- BYTES WITHOUT A LINE FEED

pub no_feed_more : (xs ys : List ℕ) → HasNoFeed xs → HasNoFeed ys → HasNoFeed (xs ++ ys)
no_feed_more [] ys none more = more
no_feed_more (x ∷ xs) ys none more = (none.0, no_feed_more xs ys none.1 more)

pub no_feed_parts : (xs ys : List ℕ) → HasNoFeed (xs ++ ys) → HasNoFeed xs × HasNoFeed ys
no_feed_parts [] ys none = (tt, none)
no_feed_parts (x ∷ xs) ys none = let rest = no_feed_parts xs ys none.1 in ((none.0, rest.0), rest.1)

-- the bytes in front of the first line feed
front_step : (b : ℕ) (bytes : List ℕ) (t : Bool) → is_feed b ≡ t → HasNoFeed (take (position_or_len is_feed bytes) bytes)
    → HasNoFeed (take (position_or_len is_feed (b ∷ bytes)) (b ∷ bytes))
front_step b bytes true feed none = rw feed tt
front_step b bytes false feed none =
    let one_more : 1 + position_or_len is_feed bytes ≡ suc (position_or_len is_feed bytes) = omega arith in
    rw (feed, one_more) (eqb-false b 10 feed, none)

pub front_has_none : (bytes : List ℕ) → HasNoFeed (take (position_or_len is_feed bytes) bytes)
front_has_none [] = tt
front_has_none (b ∷ bytes) = front_step b bytes (is_feed b) refl (front_has_none bytes)

pub none_found : (bytes : List ℕ) → length bytes ≤ position_or_len is_feed bytes → HasNoFeed bytes
none_found bytes above = subst HasNoFeed (take_all (position_or_len is_feed bytes) bytes above) (front_has_none bytes)

-- then no line is in hand
none_step : (b : ℕ) (bytes : List ℕ) → b ≢ 10 → length bytes ≤ position_or_len is_feed bytes → length (b ∷ bytes) ≤ position_or_len is_feed (b ∷ bytes)
none_step b bytes other above =
    let is : is_feed b ≡ false = ne_eqb b 10 other in
    rw is (omega (arith, above))

none_before_end : (bytes : List ℕ) → HasNoFeed bytes → length bytes ≤ position_or_len is_feed bytes
none_before_end [] none = omega arith
none_before_end (b ∷ bytes) none = none_step b bytes none.0 (none_before_end bytes none.1)

and_false_is : (a : Bool) → (a && false) ≡ false
and_false_is true = refl
and_false_is false = refl

pub no_line : (reads : ℕ) (unread : List ℕ) → HasNoFeed unread → has_line reads unread ≡ false
no_line reads unread none = rw (le-ltb (position_or_len is_feed unread) (length unread) (none_before_end unread none)) (and_false_is (nat_lt 0 reads))

-- bytes are those in front of the first line feed, the line feed, and the rest
cut_step : (b : ℕ) (bytes : List ℕ) (t : Bool) → is_feed b ≡ t → position_or_len is_feed (b ∷ bytes) < length (b ∷ bytes)
    → (position_or_len is_feed bytes < length bytes → bytes ≡ take (position_or_len is_feed bytes) bytes ++ 10 ∷ drop (position_or_len is_feed bytes + 1) bytes)
    → b ∷ bytes ≡ take (position_or_len is_feed (b ∷ bytes)) (b ∷ bytes) ++ 10 ∷ drop (position_or_len is_feed (b ∷ bytes) + 1) (b ∷ bytes)
cut_step b bytes true feed below more = rw feed (ap (λ (c : ℕ). c ∷ bytes) (eqb-true b 10 feed))
cut_step b bytes false feed below more =
    let place = position_or_len is_feed bytes in
    let inside : 1 + place < length (b ∷ bytes) = rw feed at below in
    let one_more : 1 + place ≡ suc place = omega arith in
    let and_feed : suc place + 1 ≡ suc (place + 1) = omega arith in
    rw (feed, one_more, and_feed) (ap (λ (l : List ℕ). b ∷ l) (more (omega arith)))

pub cut_at_feed : (bytes : List ℕ) → position_or_len is_feed bytes < length bytes
    → bytes ≡ take (position_or_len is_feed bytes) bytes ++ 10 ∷ drop (position_or_len is_feed bytes + 1) bytes
cut_at_feed [] below = absurd (omega arith)
cut_at_feed (b ∷ bytes) below = cut_step b bytes (is_feed b) refl below (cut_at_feed bytes)

-- BYTES THAT CAME

pub came_none : (known : Option (List ℕ)) → Receives known known []
came_none None = refl
came_none (Some bytes) = ap Some (sym (append-nil bytes))

pub came_more : (old mid new : Option (List ℕ)) (xs ys : List ℕ) → Receives old mid xs → Receives mid new ys → Receives old new (xs ++ ys)
came_more None mid new xs ys one two = two ∙ ap (λ (m : Option (List ℕ)). append_known m ys) one
came_more (Some bytes) mid new xs ys one two =
    two ∙ ap (λ (m : Option (List ℕ)). append_known m ys) one ∙ ap Some (append_assoc bytes xs ys)

-- A line that is read in pieces: bytes came behind those that were unread at its beginning, and together they are those
-- that were seen of the line, and those that are unread now.
pub record Hears (old new : Option (List ℕ)) (was unread line : List ℕ) : Type 0 where
  pub bytes : List ℕ
  pub seen : List ℕ
  pub came : Receives old new bytes
  pub whole : was ++ bytes ≡ seen ++ unread
  pub no_feed : HasNoFeed seen
  pub is_line : line ≡ take (MAX_LINE + 1) seen

pub hears_begun : (known : Option (List ℕ)) (unread line : List ℕ) → line ≡ [] → Hears known known unread unread line
hears_begun known unread line none = record { bytes = []; seen = []; came = came_none known; whole = append-nil unread; no_feed = tt; is_line = none }

-- a turn without a line feed
pub hears_more : (found : Bool) (old mid new : Option (List ℕ)) (was unread rest line kept longer more : List ℕ) → found ≡ false → Moves found unread rest line kept
    → longer ≡ kept → Receives mid new more → Hears old mid was unread line → Hears old new was more longer
hears_more found old mid new was unread rest line kept longer more is_false moved same came hears =
    let place = position_or_len is_feed unread in
    let above : length unread ≤ place = ltb-false place (length unread) (sym moved.is_found ∙ is_false) in
    let front : take place unread ≡ unread = take_all place unread above in
    record {
      bytes = hears.bytes ++ more;
      seen = hears.seen ++ unread;
      came = came_more old mid new hears.bytes more hears.came came;
      whole = sym (append_assoc was hears.bytes more) ∙ ap (λ (l : List ℕ). l ++ more) hears.whole;
      no_feed = no_feed_more hears.seen unread hears.no_feed (none_found unread above);
      is_line = same ∙ kept_more hears.seen line unread kept hears.is_line (moved.is_kept ∙ ap (λ (b : List ℕ). take (MAX_LINE + 1) (line ++ b)) front);
    }

-- until then no line feed came, and none was unread
pub hears_no_feed : (found : Bool) (old now : Option (List ℕ)) (was unread rest line kept : List ℕ) → found ≡ false → Moves found unread rest line kept
    → Hears old now was unread line → HasNoFeed was × ReceivesPart old now
hears_no_feed found old now was unread rest line kept is_false moved hears =
    let above : length unread ≤ position_or_len is_feed unread = ltb-false (position_or_len is_feed unread) (length unread) (sym moved.is_found ∙ is_false) in
    let all = no_feed_more hears.seen unread hears.no_feed (none_found unread above) in
    let parts = no_feed_parts was hears.bytes (subst HasNoFeed (sym hears.whole) all) in
    (parts.0, (hears.bytes, parts.1, hears.came))

-- the turn that finds the line feed
pub hears_line : (found : Bool) (old now : Option (List ℕ)) (was unread rest line kept : List ℕ) → found ≡ true → Moves found unread rest line kept
    → Hears old now was unread line → ReceivesLine old now was rest kept
hears_line found old now was unread rest line kept is_true moved hears =
    let place = position_or_len is_feed unread in
    let below = ltb-true place (length unread) (sym moved.is_found ∙ is_true) in
    let front = take place unread in
    record {
      bytes = hears.bytes;
      line = hears.seen ++ front;
      came = hears.came;
      no_feed = no_feed_more hears.seen front hears.no_feed (front_has_none unread);
      whole = hears.whole ∙ ap (λ (l : List ℕ). hears.seen ++ l) (cut_at_feed unread below ∙ ap (λ (l : List ℕ). front ++ 10 ∷ l) (sym moved.is_rest))
          ∙ sym (append_assoc hears.seen front (10 ∷ rest));
      is_kept = kept_more hears.seen line front kept hears.is_line moved.is_kept;
    }
