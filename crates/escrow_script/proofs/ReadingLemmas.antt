-- A line has at most one reading.
use Rattle.std.proofs.Common.{◌≡◌, ◌⊎◌, ◌==◌, ℕ, zero, suc, ◌+◌, ◌<◌, ◌≤◌, false, List, [], ◌∷◌, ◌++◌, length, get_or, arith, refl, sym, ap, ◌∙◌, inl, inr}
use Rattle.std.specs.Prelude.{codes, decimal}
use Rattle.std.specs.List.{before_first, after_first}
use Rattle.std.proofs.lemmas.Bool.Decides.{nat_tests}
use Rattle.std.proofs.lemmas.Fmt.{decimal_injective, decimal_nonempty}
use Rattle.std.proofs.lemmas.List.{append_cancel_left}
use Rattle.clap.proofs.CutLemmas.{Lacks, before_first-at, after_first-at}
use Rattle.escrow_script.specs.Line.{Reading, nothing, join, restart, statement, no_line, database_name, IsComment, IsJoin, IsRestart, IsStatement, IsMadeOf, ReadsContent, content_of}
use Rattle.escrow_script.specs.Laws.{HasOneReading}
use Rattle.escrow_script.specs.declared.limits.TheConstants.{MAX_DATABASES}
use Rattle.escrow_script.proofs.LineLemmas.{parts_of, restart_names}

-- the name of each database after the first
further_name : (place : ℕ) → database_name (suc place) ≡ codes "bank" ++ decimal (suc place + 1)
further_name place =
    let further : (suc place == 0) ≡ false = grind (arith, nat_tests) in
    rw further refl

longer_name : (place : ℕ) → place < MAX_DATABASES → codes "bank" ≡ database_name (suc place) → ⊥
longer_name place few same = omega (arith, ap length (same ∙ further_name place), decimal_nonempty (suc place + 1) (omega arith))

-- a name belongs to one place
same_place : (place other : ℕ) → place < MAX_DATABASES → other < MAX_DATABASES → database_name place ≡ database_name other → place ≡ other
same_place zero zero few few' same = refl
same_place zero (suc other) few few' same = absurd (longer_name other (omega arith) same)
same_place (suc place) zero few few' same = absurd (longer_name place (omega arith) (sym same))
same_place (suc place) (suc other) few few' same =
    let number = append_cancel_left (codes "bank") (decimal (suc place + 1)) (decimal (suc other + 1)) (sym (further_name place) ∙ same ∙ further_name other) in
    omega (arith, decimal_injective (suc place + 1) (suc other + 1) (omega arith) (omega arith) number)

-- two statements of the same content are equal
cut_once : (c : ℕ) (front back front' back' : List ℕ) → Lacks c front → Lacks c front' → front ++ c ∷ back ≡ front' ++ c ∷ back' → (front ≡ front') × (back ≡ back')
cut_once c front back front' back' lacks lacks' same = (
  sym (before_first-at c front back lacks) ∙ ap (before_first (λ b. b == c)) same ∙ before_first-at c front' back' lacks',
  sym (after_first-at c front back lacks) ∙ ap (after_first (λ b. b == c)) same ∙ after_first-at c front' back' lacks',
)

same_statement : (databases sessions : ℕ) (content : List ℕ) (place session place' session' : ℕ) (text text' : List ℕ) → databases ≤ MAX_DATABASES
    → IsStatement databases sessions content place session text → IsStatement databases sessions content place' session' text'
    → statement place session text ≡ statement place' session' text'
same_statement databases sessions content place session place' session' text text' few is is' =
    let parts = parts_of databases sessions content place session text few is in
    let parts' = parts_of databases sessions content place' session' text' few is' in
    let at_point = cut_once 46 (database_name place) (decimal session ++ 58 ∷ text) (database_name place') (decimal session' ++ 58 ∷ text') parts.name_lacks parts'.name_lacks
    (sym parts.whole ∙ parts'.whole) in
    let at_colon = cut_once 58 (decimal session) text (decimal session') text' parts.number_lacks parts'.number_lacks at_point.1 in
    let this_place : place ≡ place' = same_place place place' (omega (arith, is.within)) (omega (arith, is'.within)) at_point.0 in
    let same_session : session ≡ session' = decimal_injective session session' (omega (arith, is.is_session.1)) (omega (arith, is'.is_session.1)) at_colon.0 in
    ap (λ (p : ℕ). statement p session text) this_place ∙ ap (λ (s : ℕ). statement place' s text) same_session ∙ ap (statement place' session') at_colon.1

-- two restarts of the same content are equal
same_restart : (databases : ℕ) (content : List ℕ) (place place' : ℕ) → databases ≤ MAX_DATABASES → IsRestart databases content place → IsRestart databases content place'
    → restart place ≡ restart place'
same_restart databases content place place' few is is' =
    ap restart (same_place place place' (omega (arith, is.within)) (omega (arith, is'.within))
    (sym (restart_names databases content place few is) ∙ restart_names databases content place' few is'))

-- the first byte of a content, or the second, decides which reading it may have
abbrev first_byte : List ℕ → ℕ
first_byte content = get_or content 0 0

nothing_first : (content : List ℕ) → ((content ≡ []) ⊎ IsComment content) → (first_byte content ≡ 0) ⊎ (first_byte content ≡ 45)
nothing_first content (inl none) = inl (ap first_byte none)
nothing_first content (inr comment) = inr (ap first_byte comment.1)

join_first : (content : List ℕ) → IsJoin content → first_byte content ≡ 64
join_first content is = ap first_byte is.2

restart_first : (databases : ℕ) (content : List ℕ) (place : ℕ) → IsRestart databases content place → first_byte content ≡ 64
restart_first databases content place is = ap first_byte is.parts

-- the byte after the `@`
abbrev second_byte : List ℕ → ℕ
second_byte content = get_or content 1 0

join_second : (content : List ℕ) → IsJoin content → second_byte content ≡ 106
join_second content is = ap second_byte is.2

restart_second : (databases : ℕ) (content : List ℕ) (place : ℕ) → IsRestart databases content place → second_byte content ≡ 114
restart_second databases content place is = ap second_byte is.parts

name_first : (place : ℕ) (rest : List ℕ) → first_byte (database_name place ++ rest) ≡ 98
name_first zero rest = refl
name_first (suc place) rest = ap (λ (name : List ℕ). first_byte (name ++ rest)) (further_name place)

statement_first : (databases sessions : ℕ) (content : List ℕ) (place session : ℕ) (text : List ℕ) → databases ≤ MAX_DATABASES → IsStatement databases sessions content place session text → first_byte content ≡ 98
statement_first databases sessions content place session text few is =
    let parts = parts_of databases sessions content place session text few is in
    ap first_byte parts.whole ∙ name_first place (46 ∷ (decimal session ++ 58 ∷ text))

-- a content is composed in only one way
made_once : (databases sessions : ℕ) (content : List ℕ) (one other : Reading) → databases ≤ MAX_DATABASES → IsMadeOf databases sessions content one → IsMadeOf databases sessions content other → one ≡ other
made_once databases sessions content nothing nothing few is is' = refl
made_once databases sessions content nothing join few is is' = absurd (omega (arith, nothing_first content is, join_first content is'))
made_once databases sessions content nothing (statement place session text) few is is' =
    absurd (omega (arith, nothing_first content is, statement_first databases sessions content place session text few is'))
made_once databases sessions content nothing (restart place) few is is' = absurd (omega (arith, nothing_first content is, restart_first databases content place is'))
made_once databases sessions content (restart place) nothing few is is' = absurd (omega (arith, restart_first databases content place is, nothing_first content is'))
made_once databases sessions content (restart place) join few is is' = absurd (omega (arith, restart_second databases content place is, join_second content is'))
made_once databases sessions content (restart place) (restart place') few is is' = same_restart databases content place place' few is is'
made_once databases sessions content (restart place) (statement place' session text) few is is' =
    absurd (omega (arith, restart_first databases content place is, statement_first databases sessions content place' session text few is'))
made_once databases sessions content join (restart place) few is is' = absurd (omega (arith, join_second content is, restart_second databases content place is'))
made_once databases sessions content (statement place session text) (restart place') few is is' =
    absurd (omega (arith, statement_first databases sessions content place session text few is, restart_first databases content place' is'))
made_once databases sessions content join nothing few is is' = absurd (omega (arith, join_first content is, nothing_first content is'))
made_once databases sessions content join join few is is' = refl
made_once databases sessions content join (statement place session text) few is is' =
    absurd (omega (arith, join_first content is, statement_first databases sessions content place session text few is'))
made_once databases sessions content (statement place session text) nothing few is is' =
    absurd (omega (arith, statement_first databases sessions content place session text few is, nothing_first content is'))
made_once databases sessions content (statement place session text) join few is is' =
    absurd (omega (arith, statement_first databases sessions content place session text few is, join_first content is'))
made_once databases sessions content (statement place session text) (statement place' session' text') few is is' =
    same_statement databases sessions content place session place' session' text text' few is is'
made_once databases sessions content no_line other few is is' = absurd is
made_once databases sessions content one no_line few is is' = absurd is'

content_once : (databases sessions : ℕ) (content : List ℕ) (one other : Reading) → databases ≤ MAX_DATABASES → ReadsContent databases sessions content one → ReadsContent databases sessions content other → one ≡ other
content_once databases sessions content no_line no_line few is is' = refl
content_once databases sessions content no_line nothing few is is' = absurd (is nothing is')
content_once databases sessions content no_line join few is is' = absurd (is join is')
content_once databases sessions content no_line (statement place session text) few is is' = absurd (is (statement place session text) is')
content_once databases sessions content no_line (restart place) few is is' = absurd (is (restart place) is')
content_once databases sessions content (restart place) no_line few is is' = absurd (is' (restart place) is)
content_once databases sessions content (restart place) nothing few is is' = made_once databases sessions content (restart place) nothing few is is'
content_once databases sessions content (restart place) join few is is' = made_once databases sessions content (restart place) join few is is'
content_once databases sessions content (restart place) (restart place') few is is' = made_once databases sessions content (restart place) (restart place') few is is'
content_once databases sessions content (restart place) (statement place' session text) few is is' = made_once databases sessions content (restart place) (statement place' session text) few is is'
content_once databases sessions content nothing (restart place) few is is' = made_once databases sessions content nothing (restart place) few is is'
content_once databases sessions content join (restart place) few is is' = made_once databases sessions content join (restart place) few is is'
content_once databases sessions content (statement place session text) (restart place') few is is' = made_once databases sessions content (statement place session text) (restart place') few is is'
content_once databases sessions content nothing no_line few is is' = absurd (is' nothing is)
content_once databases sessions content join no_line few is is' = absurd (is' join is)
content_once databases sessions content (statement place session text) no_line few is is' = absurd (is' (statement place session text) is)
content_once databases sessions content nothing nothing few is is' = refl
content_once databases sessions content nothing join few is is' = made_once databases sessions content nothing join few is is'
content_once databases sessions content nothing (statement place session text) few is is' = made_once databases sessions content nothing (statement place session text) few is is'
content_once databases sessions content join nothing few is is' = made_once databases sessions content join nothing few is is'
content_once databases sessions content join join few is is' = refl
content_once databases sessions content join (statement place session text) few is is' = made_once databases sessions content join (statement place session text) few is is'
content_once databases sessions content (statement place session text) nothing few is is' = made_once databases sessions content (statement place session text) nothing few is is'
content_once databases sessions content (statement place session text) join few is is' = made_once databases sessions content (statement place session text) join few is is'
content_once databases sessions content (statement place session text) (statement place' session' text') few is is' =
    made_once databases sessions content (statement place session text) (statement place' session' text') few is is'

-- a line has at most one reading
pub has_one_reading : HasOneReading
has_one_reading databases sessions bytes one other few (inl good) (inl good') = content_once databases sessions (content_of bytes) one other few good.1 good'.1
has_one_reading databases sessions bytes one other few (inl good) (inr bad) = absurd (bad.0 good.0)
has_one_reading databases sessions bytes one other few (inr bad) (inl good) = absurd (bad.0 good.0)
has_one_reading databases sessions bytes one other few (inr bad) (inr bad') = bad.1 ∙ sym bad'.1
