-- Names and reserved words, in any case of their letters.
use Rattle.std.proofs.Common.{◌≡◌, ◌≢◌, ℕ, ◌≤◌, ◌<◌, Bool, true, false, List, [], ◌∷◌, ◌+◌, ◌*◌, ◌%◌, Option, Some, None, length, map, bytes_eq, slice_index, get_or, ◌↔◌, arith, refl, sym, ap, ap₂, ◌∙◌}
use Rattle.std.specs.Prelude.{IsTrue, slice_get}
use Rattle.std.specs.Char.{to_ascii_lowercase, to_ascii_uppercase}
use Rattle.std.specs.List.{find}
use Rattle.std.proofs.Math.Nat.{add-mod_right}
use Rattle.std.proofs.lemmas.Bool.Decides.{nat_tests}
use Rattle.std.proofs.lemmas.List.{length-map}
use Rattle.std.proofs.lemmas.Option.{slice_get_within, get_or_from_slice_get}
use Rattle.std.proofs.lemmas.Slice.Eq.{bytes_eq-Decides}
use Rattle.std.proofs.lemmas.Str.Ascii.{uppercase_is, lowercase_is, lowercase-uppercase}
use Rattle.escrow_statement.proofs.WordLemmas.{each_word}
use Rattle.escrow_statement.specs.Word.{spelling, reserved, reserved_words}
use Rattle.escrow_statement.specs.declared.word.TheConstants.{NUMBERS}
use Rattle.escrow_statement.specs.declared.word.Word.{Word}
use Rattle.escrow_statement.specs.declared.words.TheConstants.{WORDS}

uppercase-lowercase : (c : ℕ) → to_ascii_uppercase (to_ascii_lowercase c) ≡ to_ascii_uppercase c
uppercase-lowercase c = let u = uppercase_is c in let l = lowercase_is c in let v = uppercase_is (to_ascii_lowercase c) in grind (arith, nat_tests)

upper_of_lower : (text : List ℕ) → map to_ascii_uppercase (map to_ascii_lowercase text) ≡ map to_ascii_uppercase text
upper_of_lower [] = refl
upper_of_lower (c ∷ cs) = ap₂ (λ (b : ℕ) (bs : List ℕ). b ∷ bs) (uppercase-lowercase c) (upper_of_lower cs)

lower_of_upper : (text : List ℕ) → map to_ascii_lowercase (map to_ascii_uppercase text) ≡ map to_ascii_lowercase text
lower_of_upper [] = refl
lower_of_upper (c ∷ cs) = ap₂ (λ (b : ℕ) (bs : List ℕ). b ∷ bs) (lowercase-uppercase c) (lower_of_upper cs)

-- the index of bytes in the table of reserved words, and the word at that index
abbrev place : List ℕ → ℕ
place text = (5 * (get_or text 0 0 % 32) + 3 * (get_or text 1 0 % 32) + length text) % 128

abbrev candidate : List ℕ → Option Word
candidate text = slice_get WORDS.now (get_or NUMBERS (place text) 0)

spelled_in_upper_case : (w : Word) → map to_ascii_uppercase (spelling w) ≡ spelling w
spelled_in_upper_case = each_word (λ w. map to_ascii_uppercase (spelling w)) spelling refl

found_by_spelling : (w : Word) → reserved (spelling w) ≡ Some w
found_by_spelling = each_word (λ w. reserved (spelling w)) Some refl

-- each reserved word is at its index
found_at_place : (w : Word) → candidate (spelling w) ≡ Some w
found_at_place = each_word (λ w. candidate (spelling w)) Some refl

same_letter : (c : ℕ) → to_ascii_uppercase c % 32 ≡ c % 32
same_letter c = let u = uppercase_is c in let m = add-mod_right (to_ascii_uppercase c) 32 in grind (arith, nat_tests)

candidate_is : (text : List ℕ) (first second : ℕ) → 2 ≤ length text → first ≡ slice_index text 0 % 32 → second ≡ slice_index text 1 % 32
    → (w : Word) → map to_ascii_uppercase text ≡ spelling w → slice_get WORDS.now (get_or NUMBERS ((5 * first + 3 * second + length text) % 128) 0) ≡ Some w
candidate_is [] first second some f s w same = absurd (omega arith)
candidate_is (c ∷ []) first second some f s w same = absurd (omega arith)
candidate_is (c ∷ (d ∷ cs)) first second some f s w same =
    rw (f ∙ sym (same_letter c), s ∙ sym (same_letter d))
    (ap (λ (n : ℕ). slice_get WORDS.now (get_or NUMBERS ((5 * (to_ascii_uppercase c % 32) + 3 * (to_ascii_uppercase d % 32) + n) % 128) 0)) (sym (length-map (c ∷ (d ∷ cs)) to_ascii_uppercase)) ∙ (ap candidate same ∙ found_at_place w))

-- if the bytes are a reserved word, the number at their index is the word's
pub number_is : (text : List ℕ) (first second number : ℕ) → 2 ≤ length text → first ≡ slice_index text 0 % 32 → second ≡ slice_index text 1 % 32
    → number ≡ get_or NUMBERS ((5 * first + 3 * second + length text) % 128) 0 → (w : Word) → map to_ascii_uppercase text ≡ spelling w
    → (number < length WORDS.now) × ((d : Word) → get_or WORDS.now number d ≡ w)
number_is text first second number some f s e w same =
    let found : slice_get WORDS.now number ≡ Some w = rw e (candidate_is text first second some f s w same) in
    (slice_get_within WORDS.now number w found, λ d. get_or_from_slice_get WORDS.now number w d found)

same_answer : (a b : Bool) → (a ≡ true → b ≡ true) → (b ≡ true → a ≡ true) → a ≡ b
same_answer true b there back = sym (there refl)
same_answer false true there back = back refl
same_answer false false there back = refl

-- the spelling of a word is also its spelling in upper case
pub kept_in_upper_case : (text : List ℕ) (w : Word) → text ≡ spelling w → map to_ascii_uppercase text ≡ spelling w
kept_in_upper_case text w e = ap (map to_ascii_uppercase) e ∙ spelled_in_upper_case w

pub is_spelled : (w : Word) (text : List ℕ) (r : Bool) → r ≡ bytes_eq (spelling w) text → r ≡ true → r ≡ bytes_eq (spelling w) (map to_ascii_uppercase text)
is_spelled w text r e h =
    let same : text ≡ spelling w = sym ((bytes_eq-Decides (spelling w) text).0 (sym e ∙ h)) in
    h ∙ sym ((bytes_eq-Decides (spelling w) (map to_ascii_uppercase text)).1 (sym (kept_in_upper_case text w same)))

-- bytes that are the word without regard to case are the word in upper case
pub is_written : (w : Word) (text : List ℕ) (r : Bool) → (IsTrue r ↔ (map to_ascii_lowercase (spelling w) ≡ map to_ascii_lowercase text)) → r ≡ bytes_eq (spelling w) (map to_ascii_uppercase text)
is_written w text r test =
    let decides = bytes_eq-Decides (spelling w) (map to_ascii_uppercase text) in
    same_answer r (bytes_eq (spelling w) (map to_ascii_uppercase text))
    (λ h. decides.1 (sym (spelled_in_upper_case w) ∙ (sym (upper_of_lower (spelling w)) ∙ (ap (map to_ascii_uppercase) (test.0 h) ∙ upper_of_lower text))))
    (λ h. test.1 (ap (map to_ascii_lowercase) (decides.0 h) ∙ lower_of_upper text))

-- bytes of another length are not the word
pub is_another : (w : Word) (text : List ℕ) → length (spelling w) ≢ length text → false ≡ bytes_eq (spelling w) (map to_ascii_uppercase text)
is_another w text differ =
    same_answer false (bytes_eq (spelling w) (map to_ascii_uppercase text)) (λ h. absurd (cc))
    (λ h. absurd (differ (ap (λ (bytes : List ℕ). length bytes) ((bytes_eq-Decides (spelling w) (map to_ascii_uppercase text)).0 h) ∙ length-map text to_ascii_uppercase)))

-- if the only candidate has this spelling, it is the reserved word; otherwise there is none
pub is_reserved : (text : List ℕ) (w : Word) → bytes_eq (spelling w) text ≡ true → Some w ≡ reserved text
is_reserved text w h = sym (ap reserved (sym ((bytes_eq-Decides (spelling w) text).0 h)) ∙ found_by_spelling w)

find_none : (p : Word → Bool) (words : List Word) → ((w : Word) → p w ≡ false) → find p words ≡ None
find_none p [] h = refl
find_none p (w ∷ words) h = rw (h w) (find_none p words h)

only_one : (text : List ℕ) (found : Option Word) (w : Word) (b : Bool) → b ≡ bytes_eq (spelling w) text → (text ≡ spelling w → found ≡ Some w) → (found ≡ Some w → b ≡ false) → b ≡ false
only_one text found w true e one other = other (one (sym ((bytes_eq-Decides (spelling w) text).0 (sym e))))
only_one text found w false e one other = refl

pub not_reserved : (text : List ℕ) (found : Option Word) → ((w : Word) → text ≡ spelling w → found ≡ Some w) → ((w : Word) → found ≡ Some w → bytes_eq (spelling w) text ≡ false) → None ≡ reserved text
not_reserved text found one other = sym (find_none (λ w. bytes_eq (spelling w) text) reserved_words (λ w. only_one text found w (bytes_eq (spelling w) text) refl (one w) (other w)))
