-- Where a line may be cut, and its parts.
use Rattle.std.proofs.Common.{◌≡◌, ◌≢◌, ◌⊎◌, ◌==◌, ◌||◌, not, if◌then◌else◌, ℕ, zero, suc, ◌+◌, ◌-◌, ◌*◌, ◌^◌, ◌<◌, ◌≤◌, Bool, true, false, List, [], ◌∷◌, ◌++◌, length, take, drop, get_or, get_or-take, take-append-drop, Option, Some, None, arith, refl, sym, ap, subst, ◌∙◌, append_assoc, Bor, inl, inr, add-one, drop-cons}
use Rattle.std.specs.Bool.{Decides}
use Rattle.std.specs.Char.{is_ascii_digit, digit_value}
use Rattle.std.specs.Prelude.{nat_eq, codes, decimal, bytes_eq, MatchOption, IfNone, IfSome, nat_lt}
use Rattle.std.specs.List.{AllPass, prefix_len, list_all, starts_with}
use Rattle.std.specs.Str.{IsUtf8, IsCharBoundary}
use Rattle.std.specs.Str.Parse.{AllDigits, digits_value, digits_value_after}
use Rattle.std.proofs.lemmas.Bool.{eqb-true, cases_lt, ltb-false, true≢false, and_parts, and_from, not-false, or_parts, or_right, or_cases}
use Rattle.std.proofs.lemmas.Bool.Decides.{nat_tests, Decides-eqb}
use Rattle.std.proofs.lemmas.Fmt.{decimal-digits_value, decimal_is_IsNumeral, first_decimal}
use Rattle.std.proofs.lemmas.List.{drop_all, nil_from_length, length-take}
use Rattle.std.proofs.lemmas.List.Sums.{prefix_len_passes, prefix_len-le-length, AllPass-from_list_all, list_all-from_AllPass}
use Rattle.std.proofs.lemmas.Slice.Eq.{starts_is, bytes_eq-Decides}
use Rattle.std.proofs.lemmas.Str.{IsCharBoundary-start, IsCharBoundary-after_ascii}
use Rattle.std.proofs.lemmas.Str.Parse.{IsNumeralModel, digit_at, digit_from_value, numerals_by_value, tells_digits}
use Rattle.std.proofs.lemmas.Str.Pattern.{IsSplitOnceResult, split_after, split_parts}
use Rattle.clap.proofs.CutLemmas.{Lacks}
use Rattle.escrow_num.specs.Session.{IsSession}
use Rattle.escrow_script.specs.Line.{Reading, nothing, join, restart, statement, no_line, is_blank, after_blanks, database_name, IsComment, IsJoin, IsRestart, IsStatement, IsMadeOf, Reads}
use Rattle.escrow_script.specs.declared.limits.TheConstants.{MAX_DATABASES}
use Rattle.escrow_script.specs.Reading.{is_nothing, is_join, named_place, database_place, restart_of, word_len, Spells}

-- WHERE A LINE MAY BE CUT

-- a blank is an ASCII character
blank_is_ascii : (c : ℕ) → is_blank c ≡ true → c < 128
blank_is_ascii c h = grind (arith, nat_tests)

-- a text may be cut after its blanks
pub boundary_after_blanks : (line : List ℕ) (n : ℕ) → IsUtf8 line → n ≡ prefix_len is_blank line → IsCharBoundary line n
boundary_after_blanks line zero utf8 e = IsCharBoundary-start line utf8
boundary_after_blanks line (suc m) utf8 e =
    let within : m < length line = omega (arith, prefix_len-le-length is_blank line) in
    let blank : is_blank (get_or line m 0) ≡ true = prefix_len_passes is_blank line m 0 (omega arith) in
    let cut : IsCharBoundary line (m + 1) = IsCharBoundary-after_ascii line m utf8 within (blank_is_ascii (get_or line m 0) blank) in
    let same : m + 1 ≡ suc m = add-one m in
    subst (λ (n : ℕ). IsCharBoundary line n) same cut

-- THE PARTS OF A STATEMENT

-- a byte that is no digit does not occur in digits
digits_lack : (c : ℕ) (ds : List ℕ) → (c < 48) ⊎ (57 < c) → AllDigits 10 ds → Lacks c ds
digits_lack c [] none digits i within = absurd (omega arith)
digits_lack c (d ∷ ds) none digits zero within = λ same. let range = digit_from_value d digits.0 in omega (arith, range.0, range.1, none)
digits_lack c (d ∷ ds) none digits (suc i) within = digits_lack c ds none digits.1 i (omega arith)

decimal_lacks : (c n : ℕ) → (c < 48) ⊎ (57 < c) → n < 2 ^ 64 → Lacks c (decimal n)
decimal_lacks c n none small = digits_lack c (decimal n) none (decimal_is_IsNumeral n small).0.1

Lacks-cons : (c x : ℕ) (xs : List ℕ) → x ≢ c → Lacks c xs → Lacks c (x ∷ xs)
Lacks-cons c x xs other lacks zero within = other
Lacks-cons c x xs other lacks (suc i) within = lacks i (omega arith)

bank_lacks : (rest : List ℕ) → Lacks 46 rest → Lacks 46 (codes "bank" ++ rest)
bank_lacks rest lacks =
    Lacks-cons 46 98 (codes "ank" ++ rest) (omega arith) (Lacks-cons 46 97 (codes "nk" ++ rest) (omega arith)
    (Lacks-cons 46 110 (codes "k" ++ rest) (omega arith) (Lacks-cons 46 107 rest (omega arith) lacks)))

name_lacks : (place : ℕ) → place < MAX_DATABASES → Lacks 46 (database_name place)
name_lacks zero few = bank_lacks [] (λ i within. absurd (omega arith))
name_lacks (suc place) few =
    let further : (suc place == 0) ≡ false = grind (arith, nat_tests) in
    rw further (bank_lacks (decimal (suc place + 1)) (decimal_lacks 46 (suc place + 1) (inl (omega arith)) (omega arith)))

-- a statement, with its parts from right to left
statement_parts : (name number text : List ℕ) → name ++ codes "." ++ number ++ codes ":" ++ text ≡ name ++ 46 ∷ (number ++ 58 ∷ text)
statement_parts name number text =
    append_assoc (name ++ codes "." ++ number) (codes ":") text ∙ append_assoc (name ++ codes ".") number (58 ∷ text) ∙ append_assoc name (codes ".") (number ++ 58 ∷ text)

-- the parts of a statement
pub record Parts (content : List ℕ) (place session : ℕ) (text : List ℕ) : Type 0 where
  pub name_lacks : Lacks 46 (database_name place)
  pub number_lacks : Lacks 58 (decimal session)
  pub whole : content ≡ database_name place ++ 46 ∷ (decimal session ++ 58 ∷ text)

pub parts_of : (databases sessions : ℕ) (content : List ℕ) (place session : ℕ) (text : List ℕ) → databases ≤ MAX_DATABASES
    → IsStatement databases sessions content place session text → Parts content place session text
parts_of databases sessions content place session text few is = record {
  name_lacks = name_lacks place (omega (arith, is.within));
  number_lacks = decimal_lacks 58 session (inr (omega arith)) (omega (arith, is.is_session.1));
  whole = is.parts ∙ statement_parts (database_name place) (decimal session) text;
}

-- a content cut at its first point, and the rest cut at its first colon
abbrev pub Cut : Type 0
Cut = Option (Bor (List ℕ) × Bor (List ℕ))

-- no statement
abbrev pub NoStatement : ℕ → ℕ → List ℕ → Type 0
NoStatement databases sessions content = (place session : ℕ) (text : List ℕ) → IsStatement databases sessions content place session text → ⊥

pub no_point : (databases sessions : ℕ) (content : List ℕ) (at_point : Cut) → databases ≤ MAX_DATABASES → IsSplitOnceResult 46 content at_point → at_point ≡ None → NoStatement databases sessions content
no_point databases sessions content at_point few cut none place session text is =
    let parts = parts_of databases sessions content place session text few is in
    let found = split_after 46 content (database_name place) (decimal session ++ 58 ∷ text) at_point cut (omega arith) parts.whole parts.name_lacks in
    subst (λ (r : Cut). MatchOption r ⊥ (λ x. (x.0.now ≡ database_name place) × (x.1.now ≡ decimal session ++ 58 ∷ text))) none found

-- the two parts of a content cut at its point are those of the statement
at_point_of : (databases sessions : ℕ) (content : List ℕ) (at_point : Cut) (x : Bor (List ℕ) × Bor (List ℕ)) (place session : ℕ) (text : List ℕ) → databases ≤ MAX_DATABASES
    → IsSplitOnceResult 46 content at_point → at_point ≡ Some x → IsStatement databases sessions content place session text
    → (x.0.now ≡ database_name place) × (x.1.now ≡ decimal session ++ 58 ∷ text)
at_point_of databases sessions content at_point x place session text few cut some is =
    let parts = parts_of databases sessions content place session text few is in
    let found = split_after 46 content (database_name place) (decimal session ++ 58 ∷ text) at_point cut (omega arith) parts.whole parts.name_lacks in
    subst (λ (r : Cut). MatchOption r ⊥ (λ x. (x.0.now ≡ database_name place) × (x.1.now ≡ decimal session ++ 58 ∷ text))) some found

pub no_colon : (databases sessions : ℕ) (content : List ℕ) (at_point at_colon : Cut) (x : Bor (List ℕ) × Bor (List ℕ)) → databases ≤ MAX_DATABASES
    → IsSplitOnceResult 46 content at_point → at_point ≡ Some x → IsSplitOnceResult 58 x.1.now at_colon → at_colon ≡ None → NoStatement databases sessions content
no_colon databases sessions content at_point at_colon x few cut some cut_again none place session text is =
    let parts = parts_of databases sessions content place session text few is in
    let both = at_point_of databases sessions content at_point x place session text few cut some is in
    let found = split_after 58 x.1.now (decimal session) text at_colon cut_again (omega arith) both.1 parts.number_lacks in
    subst (λ (r : Cut). MatchOption r ⊥ (λ y. (y.0.now ≡ decimal session) × (y.1.now ≡ text))) none found

pub no_name : (databases sessions : ℕ) (content : List ℕ) (at_point : Cut) (x : Bor (List ℕ) × Bor (List ℕ)) → databases ≤ MAX_DATABASES
    → IsSplitOnceResult 46 content at_point → at_point ≡ Some x → ((place : ℕ) → place < databases → x.0.now ≡ database_name place → ⊥) → NoStatement databases sessions content
no_name databases sessions content at_point x few cut some unknown place session text is =
    let both = at_point_of databases sessions content at_point x place session text few cut some is in
    unknown place is.within both.0

pub no_number : (databases sessions : ℕ) (content : List ℕ) (at_point at_colon : Cut) (x y : Bor (List ℕ) × Bor (List ℕ)) → databases ≤ MAX_DATABASES
    → IsSplitOnceResult 46 content at_point → at_point ≡ Some x → IsSplitOnceResult 58 x.1.now at_colon → at_colon ≡ Some y
    → ((session : ℕ) → Spells sessions y.0.now session → ⊥) → NoStatement databases sessions content
no_number databases sessions content at_point at_colon x y few cut some cut_again some_again unknown place session text is =
    let parts = parts_of databases sessions content place session text few is in
    let both = at_point_of databases sessions content at_point x place session text few cut some is in
    let found = split_after 58 x.1.now (decimal session) text at_colon cut_again (omega arith) both.1 parts.number_lacks in
    let again = subst (λ (r : Cut). MatchOption r ⊥ (λ y. (y.0.now ≡ decimal session) × (y.1.now ≡ text))) some_again found in
    unknown session (is.is_session, is.among, again.0)

-- a statement that is found is one
pub statement_found : (databases sessions : ℕ) (content : List ℕ) (at_point at_colon : Cut) (x y : Bor (List ℕ) × Bor (List ℕ)) (place session : ℕ)
    → IsSplitOnceResult 46 content at_point → at_point ≡ Some x → IsSplitOnceResult 58 x.1.now at_colon → at_colon ≡ Some y
    → (place < databases) × (x.0.now ≡ database_name place) → Spells sessions y.0.now session → IsStatement databases sessions content place session y.1.now
statement_found databases sessions content at_point at_colon x y place session cut some cut_again some_again named spelled =
    let first = subst (λ (r : Cut). MatchOption r (Lacks 46 content) (λ x. (content ≡ x.0.now ++ (46 ∷ x.1.now)) × Lacks 46 x.0.now)) some (split_parts 46 content at_point cut (omega arith)) in
    let second = subst (λ (r : Cut). MatchOption r (Lacks 58 x.1.now) (λ y. (x.1.now ≡ y.0.now ++ (58 ∷ y.1.now)) × Lacks 58 y.0.now)) some_again (split_parts 58 x.1.now at_colon cut_again (omega arith)) in
    record {
      within = named.0;
      is_session = spelled.0;
      among = spelled.1;
      parts = first.0 ∙ ap (λ (name : List ℕ). name ++ 46 ∷ x.1.now) named.1 ∙ ap (λ (rest : List ℕ). database_name place ++ 46 ∷ rest) second.0
          ∙ ap (λ (number : List ℕ). database_name place ++ 46 ∷ (number ++ 58 ∷ y.1.now)) spelled.2
          ∙ sym (statement_parts (database_name place) (decimal session) y.1.now);
    }

-- THE INDEX OF A NAME

place_of_more : (n : ℕ) (name : List ℕ) (found : Option ℕ) → (name ≡ database_name n → ⊥)
    → MatchOption found ((place : ℕ) → place < n → name ≡ database_name place → ⊥) (λ place. (place < n) × (name ≡ database_name place))
    → MatchOption found ((place : ℕ) → place < suc n → name ≡ database_name place → ⊥) (λ place. (place < suc n) × (name ≡ database_name place))
place_of_more n name (Some place) other rest = (omega (arith, rest.0), rest.1)
place_of_more n name None other rest = λ place within same. elim (cases_lt place n) [
  | inl below ↦ rest place below same
  | inr above ↦ let is : place ≡ n = omega arith in other (same ∙ ap database_name is)
]

place_of_step : (n : ℕ) (name : List ℕ) (same : Bool) → bytes_eq (database_name n) name ≡ same
    → MatchOption (database_place n name) ((place : ℕ) → place < n → name ≡ database_name place → ⊥) (λ place. (place < n) × (name ≡ database_name place))
    → MatchOption (database_place (suc n) name) ((place : ℕ) → place < suc n → name ≡ database_name place → ⊥) (λ place. (place < suc n) × (name ≡ database_name place))
place_of_step n name true same rest = rw same (omega arith, sym ((bytes_eq-Decides (database_name n) name).0 same))
place_of_step n name false same rest = rw same (place_of_more n name (database_place n name) (λ e. true≢false (sym ((bytes_eq-Decides (database_name n) name).1 (sym e)) ∙ same)) rest)

-- an index that is found has the name, and if none is found, no index has it
pub place_of_is : (databases : ℕ) (name : List ℕ)
    → MatchOption (database_place databases name) ((place : ℕ) → place < databases → name ≡ database_name place → ⊥) (λ place. (place < databases) × (name ≡ database_name place))
place_of_is zero name = λ place within. absurd (omega arith)
place_of_is (suc n) name = place_of_step n name (bytes_eq (database_name n) name) refl (place_of_is n name)

-- THE SESSION OF DIGITS

-- digits that write a number of 16 bits
abbrev pub IsShort : List ℕ → Type 0
IsShort digits = AllDigits 10 digits × (digits_value 10 digits < 2 ^ 16)

value_grows : (n : ℕ) (ds : List ℕ) → n ≤ digits_value_after 10 n ds
value_grows n [] = omega arith
value_grows n (c ∷ cs) = omega (arith, value_grows (n * 10 + digit_value c) cs)

-- of digits, the first i are read, and n is their number
pub record AreRead (ds : List ℕ) (i n : ℕ) : Type 0 where
  pub digits : AllDigits 10 (drop i ds) → AllDigits 10 ds
  pub value : digits_value_after 10 n (drop i ds) ≡ digits_value 10 ds
  pub short : n < 2 ^ 16

-- what a digit writes
digit_is : (c : ℕ) → is_ascii_digit c ≡ true → (digit_value c ≡ c - 48) × (c - 48 < 10)
digit_is c digit = (grind (arith, nat_tests), grind (arith, nat_tests))

-- the next one is read
pub one_read : (ds : List ℕ) (i n next : ℕ) → i < length ds → is_ascii_digit (get_or ds i 0) ≡ true → next ≡ n * 10 + (get_or ds i 0 - 48) → next < 2 ^ 16 → AreRead ds i n → AreRead ds (i + 1) next
one_read ds i n next below digit is short read =
    let c = get_or ds i 0 in
    let value = digit_is c digit in
    let step : drop i ds ≡ c ∷ drop (i + 1) ds = rw (add-one, drop-cons ds i 0) refl in
    let whole : next ≡ n * 10 + digit_value c = omega (arith, is, value) in
    record {
      digits = λ rest. read.digits (subst (AllDigits 10) (sym step) (omega (arith, value), rest));
      value = ap (λ m. digits_value_after 10 m (drop (i + 1) ds)) whole ∙ ap (digits_value_after 10 n) (sym step) ∙ read.value;
      short = short;
    }

-- all of them are
pub all_read : (ds : List ℕ) (i n : ℕ) → length ds ≤ i → AreRead ds i n → IsShort ds × (n ≡ digits_value 10 ds)
all_read ds i n past read =
    let none : drop i ds ≡ [] = drop_all i ds past in
    let value : n ≡ digits_value 10 ds = ap (digits_value_after 10 n) (sym none) ∙ read.value in
    ((read.digits (subst (AllDigits 10) (sym none) tt), omega (arith, value, read.short)), value)

-- another byte, and a number past 16 bits
pub no_digit : (ds : List ℕ) (i : ℕ) → i < length ds → is_ascii_digit (get_or ds i 0) ≡ false → ¬ (IsShort ds)
no_digit ds i below other short = let within = digit_at ds i short.0 below in grind (arith, nat_tests)

pub too_long : (ds : List ℕ) (i n : ℕ) → i < length ds → is_ascii_digit (get_or ds i 0) ≡ true → 2 ^ 16 ≤ n * 10 + (get_or ds i 0 - 48) → AreRead ds i n → ¬ (IsShort ds)
too_long ds i n below digit long read short =
    let c = get_or ds i 0 in
    let step : drop i ds ≡ c ∷ drop (i + 1) ds = rw (add-one, drop-cons ds i 0) refl in
    let whole : digits_value_after 10 (n * 10 + digit_value c) (drop (i + 1) ds) ≡ digits_value 10 ds = ap (digits_value_after 10 n) (sym step) ∙ read.value in
    omega (arith, whole, value_grows (n * 10 + digit_value c) (drop (i + 1) ds), digit_is c digit, long, short.1)

-- digits whose number is one of the sessions spell it, if the first is above zero
pub spells_read : (sessions number : ℕ) (digits : List ℕ) → IsShort digits → number ≡ digits_value 10 digits → 48 < get_or digits 0 0 → IsSession number → number ≤ sessions → Spells sessions digits number
spells_read sessions number [] short value above is_session among = absurd (omega (arith, above))
spells_read sessions number (c ∷ cs) short value above is_session among =
    let whole = decimal-digits_value numeral (c ∷ cs) short.0 (omega arith) (λ zero. absurd (omega (arith, zero, above))) (omega (arith, short.1)) in
    (is_session, among, sym whole ∙ ap decimal (sym value))
  where
    numeral : IsNumeralModel (AllDigits 10) (digits_value 10)
    numeral = numerals_by_value (AllDigits 10) tells_digits

-- what spells a session begins above zero, and its number is the session
spelled_above : (sessions session : ℕ) (digits : List ℕ) → Spells sessions digits session → 48 < get_or digits 0 0
spelled_above sessions session digits spells =
    subst (λ (ds : List ℕ). 48 < get_or ds 0 0) (sym spells.2) (first_decimal session (omega (arith, spells.0.0)) (omega (arith, spells.0.1)))

spelled_value : (sessions session : ℕ) (digits : List ℕ) → Spells sessions digits session → IsShort digits × (session ≡ digits_value 10 digits)
spelled_value sessions session digits spells =
    let numeral = decimal_is_IsNumeral session (omega (arith, spells.0.1)) in
    let value : digits_value 10 digits ≡ session = ap (digits_value 10) spells.2 ∙ numeral.1 in
    ((subst (AllDigits 10) (sym spells.2) numeral.0.1, omega (arith, value, spells.0.1)), sym value)

-- what doesn't begin above zero spells none, and neither does what is no number of 16 bits, or none of the sessions
pub none_begins : (sessions : ℕ) (digits : List ℕ) (above : Bool) → above ≡ nat_lt 48 (get_or digits 0 0) → above ≡ false → (session : ℕ) → Spells sessions digits session → ⊥
none_begins sessions digits above is fails session spells =
    let past = ltb-false 48 (get_or digits 0 0) (sym is ∙ fails) in
    omega (arith, past, spelled_above sessions session digits spells)

pub none_read : (sessions : ℕ) (digits : List ℕ) → ¬ (IsShort digits) → (session : ℕ) → Spells sessions digits session → ⊥
none_read sessions digits long session spells = long (spelled_value sessions session digits spells).0

-- the session that is found among them
pub read_among : (sessions number : ℕ) (digits : List ℕ) (found : Option ℕ) → IsShort digits → number ≡ digits_value 10 digits → 48 < get_or digits 0 0
    → MatchOption found (IsSession number → number ≤ sessions → ⊥) (λ session. IsSession number × (number ≤ sessions) × (session ≡ number))
    → MatchOption found ((session : ℕ) → Spells sessions digits session → ⊥) (Spells sessions digits)
read_among sessions number digits None short value above none = λ session spells.
    let same : session ≡ number = (spelled_value sessions session digits spells).1 ∙ sym value in
    none (subst IsSession same spells.0) (subst (λ n. n ≤ sessions) same spells.1)
read_among sessions number digits (Some session) short value above some =
    subst (Spells sessions digits) (sym some.2) (spells_read sessions number digits short value above some.0 some.1)

pub if_some : (found : Option ℕ) (N : Type 0) (S : ℕ → Type 0) → MatchOption found N S → IfSome found S
if_some None N S h = tt
if_some (Some x) N S h = h

pub if_none : (found : Option ℕ) (N : Type 0) (S : ℕ → Type 0) → MatchOption found N S → IfNone found N
if_none None N S h = h
if_none (Some x) N S h = tt

-- WHAT A CONTENT IS

same_byte : (a b : ℕ) → Decides (nat_eq a b) (a ≡ b)
same_byte a b = Decides-eqb a b

-- nothing, or a comment
pub is_nothing_made : (databases sessions : ℕ) (content : List ℕ) → is_nothing content ≡ true → IsMadeOf databases sessions content nothing
is_nothing_made databases sessions content is = elim (or_cases (length content == 0) (starts_with nat_eq content (codes "--")) is) [
  | inl none ↦ inl (nil_from_length content (eqb-true (length content) 0 none))
  | inr dashes ↦ inr (drop 2 content, (starts_is same_byte content (codes "--") (starts_with nat_eq content (codes "--")) refl).0 dashes)
]

pub nothing_is : (content : List ℕ) → ((content ≡ []) ⊎ IsComment content) → is_nothing content ≡ true
nothing_is content (inl none) = rw none refl
nothing_is content (inr comment) = or_right (length content == 0) (starts_with nat_eq content (codes "--"))
    ((starts_is same_byte content (codes "--") (starts_with nat_eq content (codes "--")) refl).1 comment.0 comment.1)

-- `@join`
pub is_join_made : (content : List ℕ) → is_join content ≡ true → IsJoin content
is_join_made content is =
    let parts = and_parts (starts_with nat_eq content (codes "@join")) (list_all is_blank (drop 5 content)) is in (
      drop 5 content,
      AllPass-from_list_all is_blank (drop 5 content) parts.1,
      (starts_is same_byte content (codes "@join") (starts_with nat_eq content (codes "@join")) refl).0 parts.0,
    )

pub join_is : (content : List ℕ) → IsJoin content → is_join content ≡ true
join_is content made =
    let blanks : drop 5 content ≡ made.0 = ap (drop 5) made.2 in
    and_from (starts_with nat_eq content (codes "@join")) (list_all is_blank (drop 5 content))
    ((starts_is same_byte content (codes "@join") (starts_with nat_eq content (codes "@join")) refl).1 made.0 made.2)
    (ap (list_all is_blank) blanks ∙ list_all-from_AllPass is_blank made.0 made.1)

-- a content that is none of these is no line
pub made_of_none : (databases sessions : ℕ) (content : List ℕ) → is_nothing content ≡ false → is_join content ≡ false
    → ((place : ℕ) → IsRestart databases content place → ⊥)
    → ((place session : ℕ) (text : List ℕ) → IsStatement databases sessions content place session text → ⊥)
    → (reading : Reading) → IsMadeOf databases sessions content reading → ⊥
made_of_none databases sessions content something no_join no_restarts no_statement nothing made = true≢false (sym (nothing_is content made) ∙ something)
made_of_none databases sessions content something no_join no_restarts no_statement join made = true≢false (sym (join_is content made) ∙ no_join)
made_of_none databases sessions content something no_join no_restarts no_statement (restart place) made = no_restarts place made
made_of_none databases sessions content something no_join no_restarts no_statement (statement place session text) made = no_statement place session text made
made_of_none databases sessions content something no_join no_restarts no_statement no_line made = made

-- HOW A LINE IS READ

-- what holds for an empty option
pub at_none : {X : Type 0} (P : Type 0) (r : Option X) → r ≡ None → P → IfNone r P
at_none {X} P r none p = subst (λ (r : Option X). IfNone r P) (sym none) p

-- a name that is not found belongs to no database
pub no_place : (databases : ℕ) (name : List ℕ) (found : Option ℕ) → found ≡ database_place databases name → found ≡ None
    → (place : ℕ) → place < databases → name ≡ database_name place → ⊥
no_place databases name found is none =
    subst (λ (r : Option ℕ). MatchOption r ((place : ℕ) → place < databases → name ≡ database_name place → ⊥) (λ place. (place < databases) × (name ≡ database_name place)))
    (sym is ∙ none) (place_of_is databases name)

pub this_place : (databases : ℕ) (name : List ℕ) (found : Option ℕ) (place : ℕ) → found ≡ database_place databases name → found ≡ Some place
    → (place < databases) × (name ≡ database_name place)
this_place databases name found place is some =
    subst (λ (r : Option ℕ). MatchOption r ((place : ℕ) → place < databases → name ≡ database_name place → ⊥) (λ place. (place < databases) × (name ≡ database_name place)))
    (sym is ∙ some) (place_of_is databases name)

-- if no session is found, the digits spell none

-- THE PARTS OF A RESTART

-- items that pass a test, followed by a list whose first item fails
prefix_before : (p : ℕ → Bool) (xs ys : List ℕ) → list_all p xs ≡ true → prefix_len p ys ≡ 0 → prefix_len p (xs ++ ys) ≡ length xs
prefix_before p [] ys all stops = stops
prefix_before p (x ∷ xs) ys all stops =
    let parts = and_parts (p x) (list_all p xs) all in
    let rest = prefix_before p xs ys parts.1 stops in
    rw parts.0 (omega (arith, rest))

drop_front : (xs ys : List ℕ) → drop (length xs) (xs ++ ys) ≡ ys
drop_front [] ys = refl
drop_front (x ∷ xs) ys = drop_front xs ys

take_front : (xs ys : List ℕ) → take (length xs) (xs ++ ys) ≡ xs
take_front [] ys = refl
take_front (x ∷ xs) ys = ap (λ (rest : List ℕ). x ∷ rest) (take_front xs ys)

-- a name has no blank
digits_plain : (ds : List ℕ) → AllDigits 10 ds → list_all (λ c. not (is_blank c)) ds ≡ true
digits_plain [] digits = refl
digits_plain (d ∷ ds) digits =
    let range = digit_from_value d digits.0 in
    let low = range.0 in
    let plain : is_blank d ≡ false = grind (arith, nat_tests) in
    and_from (not (is_blank d)) (list_all (λ c. not (is_blank c)) ds) (ap not plain) (digits_plain ds digits.1)

name_plain : (place : ℕ) → place < MAX_DATABASES → list_all (λ c. not (is_blank c)) (database_name place) ≡ true
name_plain zero few = refl
name_plain (suc place) few =
    let further : (suc place == 0) ≡ false = grind (arith, nat_tests) in
    rw further (digits_plain (decimal (suc place + 1)) (decimal_is_IsNumeral (suc place + 1) (omega arith)).0.1)

name_begins : (place : ℕ) (back : List ℕ) → prefix_len is_blank (database_name place ++ back) ≡ 0
name_begins zero back = refl
name_begins (suc place) back =
    let further : (suc place == 0) ≡ false = grind (arith, nat_tests) in
    rw further refl

-- blanks end a name
blanks_end : (back : List ℕ) → AllPass is_blank back → prefix_len (λ c. not (is_blank c)) back ≡ 0
blanks_end [] blank = refl
blanks_end (b ∷ back) blank =
    let is : is_blank b ≡ true = blank 0 0 (omega arith) in
    rw is refl

-- the index of a name, from the number of blanks before it and its length
abbrev pick : ℕ → List ℕ → ℕ → ℕ → Option ℕ
pick databases named front len = if front == 0 || not (list_all is_blank (drop len named)) then None else database_place databases (take len named)

-- the parts of the text after `@restart`
module _ (front back : List ℕ) (place : ℕ) (few : place < MAX_DATABASES) (front_blank : AllPass is_blank front) (back_blank : AllPass is_blank back) where
  blanks_before : prefix_len is_blank (front ++ (database_name place ++ back)) ≡ length front
  blanks_before = prefix_before is_blank front (database_name place ++ back) (list_all-from_AllPass is_blank front front_blank) (name_begins place back)

  name_behind : after_blanks (front ++ (database_name place ++ back)) ≡ database_name place ++ back
  name_behind = ap (λ (n : ℕ). drop n (front ++ (database_name place ++ back))) blanks_before ∙ drop_front front (database_name place ++ back)

  name_len : word_len (database_name place ++ back) ≡ length (database_name place)
  name_len = prefix_before (λ c. not (is_blank c)) (database_name place) back (name_plain place few) (blanks_end back back_blank)

  name_alone : take (word_len (database_name place ++ back)) (database_name place ++ back) ≡ database_name place
  name_alone = ap (λ (n : ℕ). take n (database_name place ++ back)) name_len ∙ take_front (database_name place) back

  named_found : (databases : ℕ) → 0 < length front → named_place databases (front ++ (database_name place ++ back)) ≡ database_place databases (database_name place)
  named_found databases apart =
      let bytes = front ++ (database_name place ++ back) in
      let some : (length front == 0) ≡ false = grind (arith, nat_tests) in
      let rest : drop (length (database_name place)) (database_name place ++ back) ≡ back = drop_front (database_name place) back in
      let name : take (length (database_name place)) (database_name place ++ back) ≡ database_name place = take_front (database_name place) back in
      let blank : list_all is_blank back ≡ true = list_all-from_AllPass is_blank back back_blank in
      ap (λ (m : List ℕ). pick databases m (prefix_len is_blank bytes) (word_len m)) name_behind
      ∙ ap (λ (n : ℕ). pick databases (database_name place ++ back) n (word_len (database_name place ++ back))) blanks_before
      ∙ ap (λ (n : ℕ). pick databases (database_name place ++ back) (length front) n) name_len
      ∙ rw (some, rest, blank, name) refl

-- the word after `@restart`
abbrev pub word_of : List ℕ → List ℕ
word_of content = take (word_len (after_blanks (drop 8 content))) (after_blanks (drop 8 content))

-- that word is the name of the database to restart
pub restart_names : (databases : ℕ) (content : List ℕ) (place : ℕ) → databases ≤ MAX_DATABASES → IsRestart databases content place → word_of content ≡ database_name place
restart_names databases content place few is =
    let small : place < MAX_DATABASES = omega (arith, is.within) in
    ap (λ (rest : List ℕ). take (word_len (after_blanks rest)) (after_blanks rest)) (ap (drop 8) is.parts)
    ∙ ap (λ (m : List ℕ). take (word_len m) m) (name_behind is.front is.back place small is.front_blank is.back_blank)
    ∙ name_alone is.front is.back place small is.front_blank is.back_blank

restart_found : (databases : ℕ) (content : List ℕ) (place : ℕ) → databases ≤ MAX_DATABASES → IsRestart databases content place → restart_of databases content ≡ database_place databases (database_name place)
restart_found databases content place few is =
    let small : place < MAX_DATABASES = omega (arith, is.within) in
    let starts : starts_with nat_eq content (codes "@restart") ≡ true =
    (starts_is same_byte content (codes "@restart") (starts_with nat_eq content (codes "@restart")) refl).1 (is.front ++ (database_name place ++ is.back)) is.parts in
    let behind : drop 8 content ≡ is.front ++ (database_name place ++ is.back) = ap (drop 8) is.parts in
    ap (λ (b : Bool). if b then named_place databases (drop 8 content) else None) starts ∙ ap (named_place databases) behind
    ∙ named_found is.front is.back place small is.front_blank is.back_blank databases is.apart

-- `@restart`: if no database has this name, the content is no restart; otherwise it is that database's
pub no_restart : (databases : ℕ) (content : List ℕ) (found : Option ℕ) → databases ≤ MAX_DATABASES → found ≡ restart_of databases content → found ≡ None
    → (place : ℕ) → IsRestart databases content place → ⊥
no_restart databases content found few is none place restarts =
    no_place databases (database_name place) found (is ∙ restart_found databases content place few restarts) none place restarts.within refl

-- the parts found after `@restart`
named_made : (databases : ℕ) (bytes : List ℕ) (place : ℕ) (none : Bool)
    → (prefix_len is_blank bytes == 0 || not (list_all is_blank (drop (word_len (after_blanks bytes)) (after_blanks bytes)))) ≡ none
    → (if none then None else database_place databases (take (word_len (after_blanks bytes)) (after_blanks bytes))) ≡ Some place → IsRestart databases (codes "@restart" ++ bytes) place
named_made databases bytes place true is found = absurd (cc)
named_made databases bytes place false is found =
    let n = prefix_len is_blank bytes in
    let named = after_blanks bytes in
    let parts = or_parts (n == 0) (not (list_all is_blank (drop (word_len named) named))) is in
    let here = this_place databases (take (word_len named) named) (Some place) place (sym found) refl in
    let some = parts.0 in
    let more : 0 < n = grind (arith, nat_tests) in
    let long = prefix_len-le-length is_blank bytes in
    record {
      within = here.0;
      front = take n bytes;
      back = drop (word_len named) named;
      apart = omega (arith, more, long, length-take n bytes);
      front_blank = λ k d inside.
          let below : k < n = omega (arith, inside, length-take n bytes) in
          ap is_blank (get_or-take n bytes k d below) ∙ prefix_len_passes is_blank bytes k d below;
      back_blank = AllPass-from_list_all is_blank (drop (word_len named) named) (not-false (list_all is_blank (drop (word_len named) named)) parts.1);
      parts = ap (λ (rest : List ℕ). codes "@restart" ++ rest) (sym (take-append-drop n bytes) ∙ ap (λ (m : List ℕ). take n bytes ++ m)
          (sym (take-append-drop (word_len named) named) ∙ ap (λ (name : List ℕ). name ++ drop (word_len named) named) here.1));
    }

restart_by : (databases : ℕ) (content : List ℕ) (place : ℕ) (starts : Bool) → starts_with nat_eq content (codes "@restart") ≡ starts
    → (if starts then named_place databases (drop 8 content) else None) ≡ Some place → IsRestart databases content place
restart_by databases content place false is found = absurd (cc)
restart_by databases content place true is found =
    let whole : content ≡ codes "@restart" ++ drop 8 content = (starts_is same_byte content (codes "@restart") (starts_with nat_eq content (codes "@restart")) refl).0 is in
    subst (λ (c : List ℕ). IsRestart databases c place) (sym whole) (named_made databases (drop 8 content) place _ refl found)

pub restart_made : (databases : ℕ) (content : List ℕ) (found : Option ℕ) (place : ℕ) → found ≡ restart_of databases content → found ≡ Some place → IsRestart databases content place
restart_made databases content found place is some = restart_by databases content place (starts_with nat_eq content (codes "@restart")) refl (sym is ∙ some)

-- THE DATABASE THAT A LINE NAMES

-- a statement is a line
is_line : (place session : ℕ) (text : List ℕ) → statement place session text ≡ no_line → ⊥
is_line place session text e = cc

-- a statement's line names one of the databases
pub names_one : (databases sessions : ℕ) (bytes : List ℕ) (place session : ℕ) (text : List ℕ) → Reads databases sessions bytes (statement place session text) → place < databases
names_one databases sessions bytes place session text (inl good) = good.1.within
names_one databases sessions bytes place session text (inr bad) = absurd (is_line place session text bad.1)

-- so does the line of a restart
is_restart : (place : ℕ) → restart place ≡ no_line → ⊥
is_restart place e = cc

pub restarts_one : (databases sessions : ℕ) (bytes : List ℕ) (place : ℕ) → Reads databases sessions bytes (restart place) → place < databases
restarts_one databases sessions bytes place (inl good) = good.1.within
restarts_one databases sessions bytes place (inr bad) = absurd (is_restart place bad.1)
