-- A line that is read in pieces.
use Rattle.std.proofs.Common.{◌≡◌, ℕ, zero, suc, ◌+◌, ◌-◌, ◌≤◌, ◌<◌, min, List, [], ◌∷◌, ◌++◌, length, take, drop, arith, refl, sym, ap, ap₂, subst, ◌∙◌, Bool, true, false, not, ◌&&◌, nat_lt, eqb, length-append, Option, Some, None}
use Rattle.std.specs.Prelude.{⊤}
use Rattle.std.specs.List.{slice_range, position_or_len}
use Rattle.std.proofs.Math.Seq.{take-append-add}
use Rattle.std.proofs.lemmas.Bool.{ltb-true, ltb-false, eqb-true, eqb-false, not-true, not-false}
use Rattle.std.proofs.lemmas.List.{nil_from_length, take_all, take_min, drop-take, drop-drop, length-take, length-drop}
use Rattle.escrow_script.specs.Line.{onto_first, lines_of}
use Rattle.std.specs.Io.KnownBytes.{Consumes, IsAtEnd}
use Rattle.escrow_script.specs.declared.limits.TheConstants.{MAX_LINE}
use Rattle.escrow_script.specs.Script.{is_feed, left, has_line, HasEnded, Spends, TakesLine, Moves}

-- what is kept of a line and the next bytes
pub keeps : (line bytes : List ℕ) (most room : ℕ) → room + length line ≡ most → line ++ take (min room (length bytes)) bytes ≡ take most (line ++ bytes)
keeps line bytes most room e =
    let whole : most ≡ length line + room = omega arith in
    rw (take_min, whole) (sym (take-append-add line bytes room))

-- a part without its first bytes
pub shorter_part : (bytes : List ℕ) (from to count : ℕ) → from + count ≤ to → slice_range bytes (from + count) to ≡ drop count (slice_range bytes from to)
shorter_part bytes from to count short =
    let rest = to - (from + count) in
    let whole : to - from ≡ count + rest = omega arith in
    rw (whole, drop-take, drop-drop) refl

-- the lengths of the line and of the unread bytes
pub shorter : (line bytes kept rest : List ℕ) (len : ℕ) → len ≤ length bytes → kept ≡ take (MAX_LINE + 1) (line ++ take len bytes) → rest ≡ drop (len + 1) bytes
    → length kept + length rest ≤ length line + length bytes
shorter line bytes kept rest len within is_kept is_rest =
    omega (arith, ap length is_kept, ap length is_rest, length-take (MAX_LINE + 1) (line ++ take len bytes), length-append line (take len bytes), length-take len bytes, length-drop (len + 1) bytes)

pub shorter_by_feed : (line bytes kept rest : List ℕ) (len : ℕ) → len < length bytes → kept ≡ take (MAX_LINE + 1) (line ++ take len bytes) → rest ≡ drop (len + 1) bytes
    → length kept + length rest < length line + length bytes
shorter_by_feed line bytes kept rest len within is_kept is_rest =
    omega (arith, ap length is_kept, ap length is_rest, length-take (MAX_LINE + 1) (line ++ take len bytes), length-append line (take len bytes), length-take len bytes, length-drop (len + 1) bytes)

-- a part without bytes
pub no_part : (bytes : List ℕ) (count : ℕ) → count ≤ length bytes → slice_range bytes 0 count ≡ [] → count ≡ 0
no_part bytes count within none = omega (arith, ap length none, length-take (count - 0) (drop 0 bytes), length-drop 0 bytes)

-- bytes put in front of the first line
abbrev pub onto_line : List ℕ → List (List ℕ) → List (List ℕ)
onto_line [] lines = lines
onto_line (b ∷ bytes) lines = onto_first b (onto_line bytes lines)

onto_line-append : (xs ys : List ℕ) (lines : List (List ℕ)) → onto_line (xs ++ ys) lines ≡ onto_line xs (onto_line ys lines)
onto_line-append [] ys lines = refl
onto_line-append (x ∷ xs) ys lines = ap (onto_first x) (onto_line-append xs ys lines)

onto_line-empty : (xs : List ℕ) (lines : List (List ℕ)) → onto_line xs ([] ∷ lines) ≡ xs ∷ lines
onto_line-empty [] lines = refl
onto_line-empty (x ∷ xs) lines = ap (onto_first x) (onto_line-empty xs lines)

onto_line-none : (x : ℕ) (xs : List ℕ) → onto_line (x ∷ xs) [] ≡ (x ∷ xs) ∷ []
onto_line-none x [] = refl
onto_line-none x (y ∷ ys) = ap (onto_first x) (onto_line-none y ys)

-- bytes up to their first line feed begin a line
cut_step : (b : ℕ) (bytes rest : List ℕ) (t : Bool) → is_feed b ≡ t → position_or_len is_feed (b ∷ bytes) < length (b ∷ bytes)
    → (position_or_len is_feed bytes < length bytes
    → lines_of (bytes ++ rest) ≡ onto_line (take (position_or_len is_feed bytes) bytes) ([] ∷ lines_of (drop (position_or_len is_feed bytes + 1) bytes ++ rest)))
    → lines_of ((b ∷ bytes) ++ rest)
    ≡ onto_line (take (position_or_len is_feed (b ∷ bytes)) (b ∷ bytes)) ([] ∷ lines_of (drop (position_or_len is_feed (b ∷ bytes) + 1) (b ∷ bytes) ++ rest))
cut_step b bytes rest true feed below more = rw feed refl
cut_step b bytes rest false feed below more =
    let place = position_or_len is_feed bytes in
    let inside : 1 + place < length (b ∷ bytes) = rw feed at below in
    let one_more : 1 + place ≡ suc place = omega arith in
    let and_feed : suc place + 1 ≡ suc (place + 1) = omega arith in
    rw (feed, one_more, and_feed) (ap (onto_first b) (more (omega arith)))

cut : (bytes rest : List ℕ) → position_or_len is_feed bytes < length bytes
    → lines_of (bytes ++ rest) ≡ onto_line (take (position_or_len is_feed bytes) bytes) ([] ∷ lines_of (drop (position_or_len is_feed bytes + 1) bytes ++ rest))
cut [] rest below = absurd (omega arith)
cut (b ∷ bytes) rest below = cut_step b bytes rest (is_feed b) refl below (cut bytes rest)

-- bytes without a line feed begin a line too
whole_step : (b : ℕ) (bytes rest : List ℕ) (t : Bool) → is_feed b ≡ t → length (b ∷ bytes) ≤ position_or_len is_feed (b ∷ bytes)
    → (length bytes ≤ position_or_len is_feed bytes → lines_of (bytes ++ rest) ≡ onto_line bytes (lines_of rest))
    → lines_of ((b ∷ bytes) ++ rest) ≡ onto_line (b ∷ bytes) (lines_of rest)
whole_step b bytes rest true feed above more =
    let inside : length (b ∷ bytes) ≤ 0 = rw feed at above in
    absurd (omega arith)
whole_step b bytes rest false feed above more =
    let place = position_or_len is_feed bytes in
    let inside : length (b ∷ bytes) ≤ 1 + place = rw feed at above in
    rw feed (ap (onto_first b) (more (omega arith)))

whole : (bytes rest : List ℕ) → length bytes ≤ position_or_len is_feed bytes → lines_of (bytes ++ rest) ≡ onto_line bytes (lines_of rest)
whole [] rest above = refl
whole (b ∷ bytes) rest above = whole_step b bytes rest (is_feed b) refl above (whole bytes rest)

-- the rest of a script continues a line of which these bytes were seen, if the bytes are known
abbrev pub Continues : List ℕ → Option (List ℕ) → Option (List ℕ) → Type 0
Continues seen None rest = ⊤
Continues seen (Some bytes) None = ⊥
Continues seen (Some bytes) (Some rest) = lines_of bytes ≡ onto_line seen (lines_of rest)

pub continues_from_start : (bytes : Option (List ℕ)) → Continues [] bytes bytes
continues_from_start None = tt
continues_from_start (Some bytes) = refl

-- unread bytes without a line feed continue the line
pub continues_whole : (seen unread : List ℕ) (bytes remaining : Option (List ℕ)) → length unread ≤ position_or_len is_feed unread
    → Continues seen bytes (left unread remaining) → Continues (seen ++ unread) bytes (left [] remaining)
continues_whole seen unread None remaining above h = tt
continues_whole seen unread (Some bytes) None above h = h
continues_whole seen unread (Some bytes) (Some rest) above h =
    h ∙ ap (onto_line seen) (whole unread rest above) ∙ sym (onto_line-append seen unread (lines_of rest))

-- a reader returns the bytes that it had
pub continues_read : (seen unread : List ℕ) (bytes old new : Option (List ℕ)) → Consumes old new unread
    → Continues seen bytes (left [] old) → Continues seen bytes (left unread new)
continues_read seen unread None old new read h = tt
continues_read seen unread (Some bytes) None new read h = absurd h
continues_read seen unread (Some bytes) (Some rest) None read h = absurd read
continues_read seen unread (Some bytes) (Some rest) (Some more) read h = h ∙ ap (λ r. onto_line seen (lines_of r)) read

-- unread bytes up to a line feed end the line
pub takes_line : (seen unread kept : List ℕ) (bytes remaining : Option (List ℕ)) → position_or_len is_feed unread < length unread
    → kept ≡ take (MAX_LINE + 1) (seen ++ take (position_or_len is_feed unread) unread)
    → Continues seen bytes (left unread remaining) → TakesLine true bytes (left (drop (position_or_len is_feed unread + 1) unread) remaining) kept
takes_line seen unread kept None remaining below is_kept h = tt
takes_line seen unread kept (Some bytes) None below is_kept h = h
takes_line seen unread kept (Some bytes) (Some rest) below is_kept h =
    let front = take (position_or_len is_feed unread) unread in
    let others = lines_of (drop (position_or_len is_feed unread + 1) unread ++ rest) in (
      seen ++ front,
      h ∙ ap (onto_line seen) (cut unread rest below) ∙ sym (onto_line-append seen front ([] ∷ others)) ∙ onto_line-empty (seen ++ front) others,
      is_kept,
    )

-- the end of a script ends a line of which bytes were seen
pub takes_last : (found : Bool) (seen kept : List ℕ) (bytes remaining : Option (List ℕ)) → IsAtEnd remaining → kept ≡ take (MAX_LINE + 1) seen
    → (found ≡ true → 0 < length kept) → (found ≡ false → length kept ≡ 0)
    → Continues seen bytes (left [] remaining) → TakesLine found bytes (left [] remaining) kept
takes_last found seen kept None remaining ended is_kept some none h = tt
takes_last found seen kept (Some bytes) None ended is_kept some none h = absurd h
takes_last false [] kept (Some bytes) (Some rest) ended is_kept some none h = (h ∙ ap lines_of ended, ended)
takes_last true [] kept (Some bytes) (Some rest) ended is_kept some none h =
    absurd (omega (arith, some refl, ap length is_kept))
takes_last false (x ∷ xs) kept (Some bytes) (Some rest) ended is_kept some none h =
    absurd (omega (arith, none refl, ap length is_kept, length-take (MAX_LINE + 1) (x ∷ xs)))
takes_last true (x ∷ xs) kept (Some bytes) (Some rest) ended is_kept some none h =
    (x ∷ xs, h ∙ ap (λ r. onto_line (x ∷ xs) (lines_of r)) ended ∙ onto_line-none x xs ∙ ap (λ r. (x ∷ xs) ∷ lines_of r) (sym ended), is_kept)

-- of the beginning of a line, no more is kept than of the line
kept_front : (most : ℕ) (seen bytes : List ℕ) → take most (take most seen ++ bytes) ≡ take most (seen ++ bytes)
kept_front zero seen bytes = refl
kept_front (suc most) [] bytes = refl
kept_front (suc most) (x ∷ seen) bytes = ap (λ (xs : List ℕ). x ∷ xs) (kept_front most seen bytes)

pub kept_more : (seen line bytes kept : List ℕ) → line ≡ take (MAX_LINE + 1) seen → kept ≡ take (MAX_LINE + 1) (line ++ bytes) → kept ≡ take (MAX_LINE + 1) (seen ++ bytes)
kept_more seen line bytes kept is_line is_kept = is_kept ∙ ap (λ (l : List ℕ). take (MAX_LINE + 1) (l ++ bytes)) is_line ∙ kept_front (MAX_LINE + 1) seen bytes

-- a turn that finds a line feed takes the line
pub turn_takes : (found : Bool) (seen unread rest line kept : List ℕ) (bytes remaining : Option (List ℕ)) → found ≡ true → Moves found unread rest line kept
    → line ≡ take (MAX_LINE + 1) seen → Continues seen bytes (left unread remaining) → TakesLine true bytes (left rest remaining) kept
turn_takes found seen unread rest line kept bytes remaining is_true moved is_line h =
    let below = ltb-true (position_or_len is_feed unread) (length unread) (sym moved.is_found ∙ is_true) in
    let front = take (position_or_len is_feed unread) unread in
    let taken = takes_line seen unread kept bytes remaining below (kept_more seen line front kept is_line moved.is_kept) h in
    subst (λ (r : List ℕ). TakesLine true bytes (left r remaining) kept) (sym moved.is_rest) taken

-- a line of which these bytes were seen
pub record Reads (seen line unread : List ℕ) (bytes remaining : Option (List ℕ)) : Type 0 where
  pub is_line : line ≡ take (MAX_LINE + 1) seen
  pub goes_on : Continues seen bytes (left unread remaining)

-- a turn without a line feed leaves nothing unread, and reads on
pub turn_reads : (found : Bool) (seen unread rest line kept longer more : List ℕ) (bytes old new : Option (List ℕ)) → found ≡ false → Moves found unread rest line kept
    → line ≡ take (MAX_LINE + 1) seen → Continues seen bytes (left unread old) → longer ≡ kept → Consumes old new more → Reads (seen ++ unread) longer more bytes new
turn_reads found seen unread rest line kept longer more bytes old new is_false moved is_line h same read =
    let place = position_or_len is_feed unread in
    let above : length unread ≤ place = ltb-false place (length unread) (sym moved.is_found ∙ is_false) in
    let front : take place unread ≡ unread = take_all place unread above in
    record {
      is_line = same ∙ kept_more seen line unread kept is_line (moved.is_kept ∙ ap (λ (b : List ℕ). take (MAX_LINE + 1) (line ++ b)) front);
      goes_on = continues_read (seen ++ unread) more bytes old new read (continues_whole seen unread bytes old above h);
    }

-- a read that returns nothing ends the script
pub turn_ends : (found : Bool) (seen line unread : List ℕ) (bytes remaining : Option (List ℕ)) → Reads seen line unread bytes remaining
    → length unread ≡ 0 → IsAtEnd remaining → (found ≡ true → 0 < length line) → (found ≡ false → length line ≡ 0)
    → TakesLine found bytes (left unread remaining) line
turn_ends found seen line unread bytes remaining reads none ended some empty =
    let nothing : unread ≡ [] = nil_from_length unread none in
    let goes_on = subst (λ (u : List ℕ). Continues seen bytes (left u remaining)) nothing reads.goes_on in
    subst (λ (u : List ℕ). TakesLine found bytes (left u remaining) line) (sym nothing)
    (takes_last found seen line bytes remaining ended reads.is_line some empty goes_on)

-- the test of emptiness
pub some_by_test : (empty : Bool) (n len : ℕ) → empty ≡ eqb n 0 → n ≡ len → not empty ≡ true → 0 < len
some_by_test empty n len e same h =
    let some : n ≡ 0 → ⊥ = eqb-false n 0 (sym e ∙ not-true empty h) in
    omega (arith, some)

pub none_by_test : (empty : Bool) (n len : ℕ) → empty ≡ eqb n 0 → n ≡ len → not empty ≡ false → len ≡ 0
none_by_test empty n len e same h = omega (arith, eqb-true n 0 (sym e ∙ not-false empty h))

-- WHAT MAY REMAIN OF A SCRIPT

-- the bytes that a reader returned in two turns
and_false : (a : Bool) → (a && false) ≡ true → ⊥
and_false true e = cc
and_false false e = cc

-- a line in hand is taken
pub in_hand_taken : (found : Bool) (reads : ℕ) (unread rest line kept : List ℕ) → found ≡ false → Moves found unread rest line kept → has_line reads unread ≡ true → ⊥
in_hand_taken found reads unread rest line kept is_false moved has =
    let none : nat_lt (position_or_len is_feed unread) (length unread) ≡ false = sym moved.is_found ∙ is_false in
    and_false (nat_lt 0 reads) (rw none at has)

and_right : (a b : Bool) → (a && b) ≡ true → b ≡ true
and_right true b e = e
and_right false b e = cc

pub found_in_hand : (found : Bool) (reads : ℕ) (unread rest line kept : List ℕ) → Moves found unread rest line kept → has_line reads unread ≡ true → found ≡ has_line reads unread
found_in_hand found reads unread rest line kept moved has =
    moved.is_found ∙ and_right (nat_lt 0 reads) (nat_lt (position_or_len is_feed unread) (length unread)) has ∙ sym has

-- after the end of a script there is no line
pub takes_none : (kept unread : List ℕ) (remaining : Option (List ℕ)) → HasEnded unread remaining → TakesLine false (left unread remaining) (left unread remaining) kept
takes_none kept unread None over = tt
takes_none kept unread (Some rest) over = let none : unread ++ rest ≡ [] = ap₂ (λ (u r : List ℕ). u ++ r) over.0 over.1 in (ap lines_of none, none)

-- and no line is in hand
pub none_in_hand : (reads : ℕ) (unread : List ℕ) → unread ≡ [] → has_line reads unread ≡ true → ⊥
none_in_hand reads unread none has = and_false (nat_lt 0 reads) (subst (λ (u : List ℕ). has_line reads u ≡ true) none has)

pub spends_more : (bytes mid rest : Option (List ℕ)) (old now new : ℕ) → Spends bytes mid old now → Spends mid rest now new → Spends bytes rest old new
spends_more None mid rest old now new a b = tt
spends_more (Some bytes) None rest old now new a b = absurd a
spends_more (Some bytes) (Some more) None old now new a b = absurd b
spends_more (Some bytes) (Some more) (Some rest) old now new a b = omega (arith, a, b)

pub spends_none : (bytes : Option (List ℕ)) (room : ℕ) → Spends bytes bytes room room
spends_none None room = tt
spends_none (Some bytes) room = refl

-- the bytes that a read returned
pub spends_read : (bytes rest : Option (List ℕ)) (given : List ℕ) (old new count : ℕ) → Consumes bytes rest given → count ≡ length given → new + count ≡ old → Spends bytes rest old new
spends_read None rest given old new count read is_count counted = tt
spends_read (Some bytes) None given old new count read is_count counted = absurd read
spends_read (Some bytes) (Some rest) given old new count read is_count counted = omega (arith, ap length read, length-append given rest, is_count, counted)
