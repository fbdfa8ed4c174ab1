-- How the checks of a table are found, condition by condition and CHECK by CHECK.
use Rattle.std.proofs.Common.{◌≡◌, ℕ, ◌+◌, ◌≤◌, ◌<◌, true, false, cond, List, [], ◌∷◌, ◌++◌, length, drop, get_or, Option, Some, None, refl, ap, ◌∙◌, sym, arith, append_assoc, length-append}
use Rattle.std.specs.Prelude.{nat_le, option_map, option_and_then}
use Rattle.std.proofs.lemmas.Bool.Decides.{nat_tests}
use Rattle.std.proofs.lemmas.List.{append-nil, at_drop_more, at_drop_all}
use Rattle.escrow_statement.specs.declared.statement.CheckText.{CheckText}
use Rattle.escrow_statement.specs.declared.statement.Condition.{Condition}
use Rattle.escrow_checks.specs.declared.check.Check.{Check}
use Rattle.escrow_checks.specs.declared.condition.TheConstants.{MAX_CHECKS}
use Rattle.escrow_checks.specs.Checks.{check_name, check_of, checks_of_conditions, checks_from, checks_behind}
use Rattle.escrow_checks.specs.Found.{followed_by, found, few}

-- ---- condition by condition

-- one more check is found
found_step : (checks : List Check) (check : Check) (rest others : Option (List Check))
    → found checks (option_map (λ more. check ∷ more) rest) others ≡ found (checks ++ check ∷ []) rest others
found_step checks check None others = refl
found_step checks check (Some more) None = refl
found_step checks check (Some more) (Some last) = ap (λ (zs : List Check). Some zs) (sym (append_assoc checks (check ∷ []) (more ++ last)))

-- one more check is found, since its condition gives it
found_more : (columns : List (List ℕ)) (scales : List ℕ) (name : Option (List ℕ)) (k n : ℕ) (condition : Condition) (conditions : List Condition) (checks : List Check) (check : Check) (others : Option (List Check))
    → check_of columns scales (check_name name k n) condition ≡ Some check
    → found checks (checks_of_conditions columns scales name k n (condition ∷ conditions)) others ≡ found (checks ++ check ∷ []) (checks_of_conditions columns scales name (k + 1) (n + 1) conditions) others
found_more columns scales name k n condition conditions checks check others e =
    let rest = checks_of_conditions columns scales name (k + 1) (n + 1) conditions in
    ap (λ (o : Option Check). found checks (option_and_then (λ c. option_map (λ more. c ∷ more) rest) o) others) e
    ∙ found_step checks check rest others

-- the next condition gives no check
found_none : (columns : List (List ℕ)) (scales : List ℕ) (name : Option (List ℕ)) (k n : ℕ) (condition : Condition) (conditions : List Condition) (checks : List Check) (others : Option (List Check))
    → check_of columns scales (check_name name k n) condition ≡ None
    → few (found checks (checks_of_conditions columns scales name k n (condition ∷ conditions)) others) ≡ None
found_none columns scales name k n condition conditions checks others e =
    let rest = checks_of_conditions columns scales name (k + 1) (n + 1) conditions in
    ap (λ (o : Option Check). few (found checks (option_and_then (λ c. option_map (λ more. c ∷ more) rest) o) others)) e

-- too many checks count as none
few_many : (checks : List Check) → MAX_CHECKS < length checks → few (Some checks) ≡ None
few_many checks many =
    let past : nat_le (length checks) MAX_CHECKS ≡ false = grind (arith, nat_tests) in
    ap (λ b. cond b (Some checks) None) past

few_step : (checks : List Check) (check : Check) (rest others : Option (List Check)) → MAX_CHECKS ≤ length checks → few (found (checks ++ check ∷ []) rest others) ≡ None
few_step checks check None others full = refl
few_step checks check (Some more) None full = refl
few_step checks check (Some more) (Some last) full =
    few_many ((checks ++ check ∷ []) ++ (more ++ last)) (omega (arith, length-append (checks ++ check ∷ []) (more ++ last), length-append checks (check ∷ [])))

-- a condition remains after 32 checks
found_many : (columns : List (List ℕ)) (scales : List ℕ) (name : Option (List ℕ)) (k n : ℕ) (condition : Condition) (conditions : List Condition) (checks : List Check) (others : Option (List Check))
    → MAX_CHECKS ≤ length checks → few (found checks (checks_of_conditions columns scales name k n (condition ∷ conditions)) others) ≡ None
found_many columns scales name k n condition conditions checks others full = go (check_of columns scales (check_name name k n) condition) refl
  where
    go : (o : Option Check) → check_of columns scales (check_name name k n) condition ≡ o → few (found checks (checks_of_conditions columns scales name k n (condition ∷ conditions)) others) ≡ None
    go None e = found_none columns scales name k n condition conditions checks others e
    go (Some check) e =
        ap few (found_more columns scales name k n condition conditions checks check others e)
        ∙ few_step checks check (checks_of_conditions columns scales name (k + 1) (n + 1) conditions) others full

-- ---- the same at an index of a CHECK's conditions

-- the checks of the conditions from an index on
abbrev pub from_place : List (List ℕ) → List ℕ → Option (List ℕ) → List Condition → ℕ → List Check → Option (List Check)
from_place columns scales name conditions k checks = checks_of_conditions columns scales name (k + 1) (length checks + 1) (drop k conditions)

pub place_more : (columns : List (List ℕ)) (scales : List ℕ) (name : Option (List ℕ)) (conditions : List Condition) (k : ℕ) (condition : Condition) (checks : List Check) (check : Check) (others : Option (List Check))
    → k < length conditions → condition ≡ get_or conditions k condition → check_of columns scales (check_name name (k + 1) (length checks + 1)) condition ≡ Some check
    → found checks (from_place columns scales name conditions k checks) others ≡ found (checks ++ check ∷ []) (from_place columns scales name conditions (k + 1) (checks ++ check ∷ [])) others
place_more columns scales name conditions k condition checks check others within is e =
    let F : List Condition → Option (List Check) = λ cs. found checks (checks_of_conditions columns scales name (k + 1) (length checks + 1) cs) others in
    let counted : length checks + 1 + 1 ≡ length (checks ++ check ∷ []) + 1 = omega (arith, length-append checks (check ∷ [])) in
    at_drop_more F conditions k condition within
    ∙ ap (λ c. F (c ∷ drop (k + 1) conditions)) (sym is)
    ∙ found_more columns scales name (k + 1) (length checks + 1) condition (drop (k + 1) conditions) checks check others e
    ∙ ap (λ n. found (checks ++ check ∷ []) (checks_of_conditions columns scales name (k + 1 + 1) n (drop (k + 1) conditions)) others) counted

pub place_many : (columns : List (List ℕ)) (scales : List ℕ) (name : Option (List ℕ)) (conditions : List Condition) (k : ℕ) (condition : Condition) (checks : List Check) (others : Option (List Check))
    → k < length conditions → MAX_CHECKS ≤ length checks
    → few (found checks (from_place columns scales name conditions k checks) others) ≡ None
place_many columns scales name conditions k condition checks others within full =
    let F : List Condition → Option (List Check) = λ cs. few (found checks (checks_of_conditions columns scales name (k + 1) (length checks + 1) cs) others) in
    at_drop_more F conditions k condition within
    ∙ found_many columns scales name (k + 1) (length checks + 1) (get_or conditions k condition) (drop (k + 1) conditions) checks others full

-- ---- CHECK by CHECK

-- the checks of the CHECKs from an index on
abbrev pub from_text : List (List ℕ) → List ℕ → List CheckText → ℕ → List Check → Option (List Check)
from_text columns scales texts i checks = checks_from columns scales (drop i texts) (length checks + 1)

-- the CHECK at the index comes first
pub text_first : (columns : List (List ℕ)) (scales : List ℕ) (texts : List CheckText) (i : ℕ) (text : CheckText) (checks : List Check) → i < length texts → text ≡ get_or texts i text
    → followed_by checks (from_text columns scales texts i checks)
    ≡ found checks (checks_of_conditions columns scales text.name 1 (length checks + 1) text.conditions) (checks_from columns scales (drop (i + 1) texts) (length checks + 1 + length text.conditions))
text_first columns scales texts i text checks within is =
    let F : List CheckText → Option (List Check) = λ ts. followed_by checks (checks_from columns scales ts (length checks + 1)) in
    at_drop_more F texts i text within
    ∙ ap (λ t. F (t ∷ drop (i + 1) texts)) (sym is)

pub text_more : (columns : List (List ℕ)) (scales : List ℕ) (texts : List CheckText) (i : ℕ) (text : CheckText) (checks after : List Check) → i < length texts → text ≡ get_or texts i text
    → ((others : Option (List Check)) → found checks (checks_of_conditions columns scales text.name 1 (length checks + 1) text.conditions) others ≡ followed_by after others)
    → length after ≡ length checks + length text.conditions
    → followed_by checks (from_text columns scales texts i checks) ≡ followed_by after (from_text columns scales texts (i + 1) after)
text_more columns scales texts i text checks after within is step counted =
    let place : length checks + 1 + length text.conditions ≡ length after + 1 = omega (arith, counted) in
    text_first columns scales texts i text checks within is
    ∙ step (checks_from columns scales (drop (i + 1) texts) (length checks + 1 + length text.conditions))
    ∙ ap (λ n. followed_by after (checks_from columns scales (drop (i + 1) texts) n)) place

-- the checks after the declared ones, if those of the CHECKs before an index are found
abbrev pub IsFound : List (List ℕ) → List ℕ → List Check → List CheckText → ℕ → List Check → Type 0
IsFound columns scales declared texts i checks =
    followed_by declared (checks_from columns scales texts (length declared + 1)) ≡ followed_by checks (from_text columns scales texts i checks)

-- the checks after the declared ones are found if they are not too many
behind_few : (columns : List (List ℕ)) (scales : List ℕ) (declared : List Check) (texts : List CheckText)
    → checks_behind columns scales declared texts ≡ few (followed_by declared (checks_from columns scales texts (length declared + 1)))
behind_few columns scales declared texts = go (checks_from columns scales texts (length declared + 1))
  where
    go : (o : Option (List Check))
        → option_and_then (λ more. cond (nat_le (length (declared ++ more)) MAX_CHECKS) (Some (declared ++ more)) None) o ≡ few (followed_by declared o)
    go None = refl
    go (Some more) = refl

pub text_none : (columns : List (List ℕ)) (scales : List ℕ) (declared : List Check) (texts : List CheckText) (i : ℕ) (text : CheckText) (checks : List Check) → i < length texts → text ≡ get_or texts i text
    → IsFound columns scales declared texts i checks
    → ((others : Option (List Check)) → few (found checks (checks_of_conditions columns scales text.name 1 (length checks + 1) text.conditions) others) ≡ None)
    → checks_behind columns scales declared texts ≡ None
text_none columns scales declared texts i text checks within is before none =
    behind_few columns scales declared texts
    ∙ ap few (before ∙ text_first columns scales texts i text checks within is)
    ∙ none (checks_from columns scales (drop (i + 1) texts) (length checks + 1 + length text.conditions))

-- no CHECK remains
pub text_all : (columns : List (List ℕ)) (scales : List ℕ) (declared : List Check) (texts : List CheckText) (i : ℕ) (checks : List Check) → length texts ≤ i → length checks ≤ MAX_CHECKS
    → IsFound columns scales declared texts i checks
    → checks_behind columns scales declared texts ≡ Some checks
text_all columns scales declared texts i checks past within before =
    let F : List CheckText → Option (List Check) = λ ts. followed_by checks (checks_from columns scales ts (length checks + 1)) in
    let all : followed_by declared (checks_from columns scales texts (length declared + 1)) ≡ Some checks = before ∙ at_drop_all F texts i past ∙ ap (λ (zs : List Check). Some zs) (append-nil checks) in
    let enough : nat_le (length checks) MAX_CHECKS ≡ true = grind (arith, nat_tests) in
    behind_few columns scales declared texts ∙ ap few all ∙ ap (λ b. cond b (Some checks) None) enough
