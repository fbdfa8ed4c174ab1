-- The names of the checks that CHECK constraints declare.
use Rattle.std.proofs.Common.{◌≡◌, ℕ, zero, suc, ◌+◌, ◌<◌, ◌==◌, List, [], ◌∷◌, ◌++◌, length, map, take, Option, Some, refl, ap, ap₂, sym, subst, ◌∙◌, arith, length-append, ne_eqb, codes, decimal, slice_get, flat_map}
use Rattle.std.proofs.lemmas.Bool.{cond-false}
use Rattle.std.proofs.lemmas.List.{length-map, map-append}
use Rattle.std.proofs.lemmas.Option.{none-some, same_Some}
use Rattle.escrow_statement.specs.declared.statement.CheckText.{CheckText}
use Rattle.escrow_statement.specs.declared.statement.Condition.{Condition}
use Rattle.escrow_checks.specs.declared.check.Check.{Check}
use Rattle.escrow_checks.specs.Checks.{check_name, check_of, checks_of_conditions, checks_from}
use Rattle.escrow_checks.specs.Laws.{ChecksAreNamed, conditions_before}
use Rattle.escrow_checks.proofs.ConditionLemmas.{checks_whole, each_in_text, gives, unpack, unpack_all, within_most}

-- the item at an index of two lists joined
at_left : {A : Type 0} (xs ys : List A) (k : ℕ) → k < length xs → slice_get (xs ++ ys) k ≡ slice_get xs k
at_left [] ys k within = absurd (omega arith)
at_left (x ∷ xs) ys zero within = refl
at_left (x ∷ xs) ys (suc k) within = at_left xs ys k (omega arith)

at_right : {A : Type 0} (xs ys : List A) (k : ℕ) → slice_get (xs ++ ys) (length xs + k) ≡ slice_get ys k
at_right [] ys k = let place : 0 + k ≡ k = omega arith in ap (λ (n : ℕ). slice_get ys n) place
at_right (x ∷ xs) ys k =
    let place : suc (length xs) + k ≡ suc (length xs + k) = omega arith in
    ap (λ (n : ℕ). slice_get (x ∷ xs ++ ys) n) place ∙ at_right xs ys k

-- the names of checks
abbrev names : List Check → List (List ℕ)
names checks = map (λ (check : Check). check.name) checks

-- the names of one CHECK's checks; its first condition is its k-th one, and the n-th of the table
conditions_named : (columns : List (List ℕ)) (scales : List ℕ) (name : Option (List ℕ)) (k n : ℕ) (conditions : List Condition) (checks : List Check)
    → checks_of_conditions columns scales name k n conditions ≡ Some checks
    → (j : ℕ) → j < length conditions → slice_get (names checks) j ≡ Some (check_name name (k + j) (n + j))
conditions_named columns scales name k n [] checks e j within = absurd (omega arith)
conditions_named columns scales name k n (condition ∷ conditions) checks e zero within =
    let parts = unpack (check_of columns scales (check_name name k n) condition) (checks_of_conditions columns scales name (k + 1) (n + 1) conditions) checks e in
    let called : check_name name k n ≡ parts.0.name = ap (λ (c : Check). c.name) (gives columns scales (check_name name k n) condition parts.0 parts.2).is in
    let in_check : k ≡ k + 0 = omega arith in
    let in_table : n ≡ n + 0 = omega arith in
    subst (λ (cs : List Check). slice_get (names cs) 0 ≡ Some (check_name name (k + 0) (n + 0))) parts.4
    (ap (λ (x : List ℕ). Some x) (sym called) ∙ ap₂ (λ (a : ℕ) (b : ℕ). Some (check_name name a b)) in_check in_table)
conditions_named columns scales name k n (condition ∷ conditions) checks e (suc j) within =
    let parts = unpack (check_of columns scales (check_name name k n) condition) (checks_of_conditions columns scales name (k + 1) (n + 1) conditions) checks e in
    let rest : slice_get (names parts.1) j ≡ Some (check_name name (k + 1 + j) (n + 1 + j)) =
    conditions_named columns scales name (k + 1) (n + 1) conditions parts.1 parts.3 j (omega arith) in
    let in_check : k + 1 + j ≡ k + suc j = omega arith in
    let in_table : n + 1 + j ≡ n + suc j = omega arith in
    subst (λ (cs : List Check). slice_get (names cs) (suc j) ≡ Some (check_name name (k + suc j) (n + suc j))) parts.4
    (rest ∙ ap₂ (λ (a : ℕ) (b : ℕ). Some (check_name name a b)) in_check in_table)

-- there is one check for each condition
as_many : (columns : List (List ℕ)) (scales : List ℕ) (name : Option (List ℕ)) (k n : ℕ) (conditions : List Condition) (checks : List Check)
    → checks_of_conditions columns scales name k n conditions ≡ Some checks → length (names checks) ≡ length conditions
as_many columns scales name k n conditions checks e =
    length-map checks (λ (check : Check). check.name)
    ∙ (each_in_text columns scales (λ (check : Check). Unit {0}) (λ _ _ _ _. tt) name k n conditions checks e).0

-- the names of the checks of all CHECKs; the first condition is the n-th of the table
texts_named : (columns : List (List ℕ)) (scales : List ℕ) (texts : List CheckText) (n : ℕ) (checks : List Check) → checks_from columns scales texts n ≡ Some checks
    → (i j : ℕ) (text : CheckText) → slice_get texts i ≡ Some text → j < length text.conditions
    → slice_get (names checks) (conditions_before texts i + j) ≡ Some (check_name text.name (1 + j) (n + (conditions_before texts i + j)))
texts_named columns scales [] n checks e i j text at within = absurd (none-some text at)
texts_named columns scales (first ∷ texts) n checks e zero j text at within =
    let parts = unpack_all (checks_of_conditions columns scales first.name 1 n first.conditions) (checks_from columns scales texts (n + length first.conditions)) checks e in
    let is : first ≡ text = same_Some first text at in
    let inside : j < length first.conditions = subst (λ (t : CheckText). j < length t.conditions) (sym is) within in
    let long : length (names parts.0) ≡ length first.conditions = as_many columns scales first.name 1 n first.conditions parts.0 parts.2 in
    let here : slice_get (names parts.0) j ≡ Some (check_name first.name (1 + j) (n + j)) =
    conditions_named columns scales first.name 1 n first.conditions parts.0 parts.2 j inside in
    let place : 0 + j ≡ j = omega arith in
    subst (λ (t : CheckText). slice_get (names checks) (0 + j) ≡ Some (check_name t.name (1 + j) (n + (0 + j)))) is
    (subst (λ (cs : List Check). slice_get (names cs) (0 + j) ≡ Some (check_name first.name (1 + j) (n + (0 + j)))) parts.4
    (ap (λ (ns : List (List ℕ)). slice_get ns (0 + j)) (map-append (λ (check : Check). check.name) parts.0 parts.1)
    ∙ ap (λ (m : ℕ). slice_get (names parts.0 ++ names parts.1) m) place
    ∙ at_left (names parts.0) (names parts.1) j (omega arith)
    ∙ here
    ∙ ap (λ (m : ℕ). Some (check_name first.name (1 + j) (n + m))) (sym place)))
texts_named columns scales (first ∷ texts) n checks e (suc i) j text at within =
    let parts = unpack_all (checks_of_conditions columns scales first.name 1 n first.conditions) (checks_from columns scales texts (n + length first.conditions)) checks e in
    let long : length (names parts.0) ≡ length first.conditions = as_many columns scales first.name 1 n first.conditions parts.0 parts.2 in
    let rest : slice_get (names parts.1) (conditions_before texts i + j) ≡ Some (check_name text.name (1 + j) (n + length first.conditions + (conditions_before texts i + j))) =
    texts_named columns scales texts (n + length first.conditions) parts.1 parts.3 i j text at within in
    let front : conditions_before (first ∷ texts) (suc i) ≡ length first.conditions + conditions_before texts i =
    length-append first.conditions (flat_map (λ (t : CheckText). t.conditions) (take i texts)) in
    let place : conditions_before (first ∷ texts) (suc i) + j ≡ length (names parts.0) + (conditions_before texts i + j) =
    moved (conditions_before (first ∷ texts) (suc i)) (length first.conditions) (length (names parts.0)) (conditions_before texts i) j front long in
    let in_table : n + length first.conditions + (conditions_before texts i + j) ≡ n + (conditions_before (first ∷ texts) (suc i) + j) =
    counted (conditions_before (first ∷ texts) (suc i)) (length first.conditions) (conditions_before texts i) n j front in
    subst (λ (cs : List Check). slice_get (names cs) (conditions_before (first ∷ texts) (suc i) + j) ≡ Some (check_name text.name (1 + j) (n + (conditions_before (first ∷ texts) (suc i) + j)))) parts.4
    (ap (λ (ns : List (List ℕ)). slice_get ns (conditions_before (first ∷ texts) (suc i) + j)) (map-append (λ (check : Check). check.name) parts.0 parts.1)
    ∙ ap (λ (m : ℕ). slice_get (names parts.0 ++ names parts.1) m) place
    ∙ at_right (names parts.0) (names parts.1) (conditions_before texts i + j)
    ∙ rest
    ∙ ap (λ (m : ℕ). Some (check_name text.name (1 + j) m)) in_table)
  where
    moved : (whole here names before j : ℕ) → whole ≡ here + before → names ≡ here → whole + j ≡ names + (before + j)
    moved whole here names before j e long = omega arith

    counted : (whole here before n j : ℕ) → whole ≡ here + before → n + here + (before + j) ≡ n + (whole + j)
    counted whole here before n j e = omega arith

-- a CHECK's name with a number appended
later_name : (name : List ℕ) (j n : ℕ) → check_name (Some name) (1 + (j + 1)) n ≡ name ++ codes "_" ++ decimal (j + 2)
later_name name j n =
    let same : 1 + (j + 1) ≡ j + 2 = omega arith in
    cond-false ((1 + (j + 1)) == 1) name (name ++ codes "_" ++ decimal (1 + (j + 1))) (ne_eqb (1 + (j + 1)) 1 (λ one. absurd (omega arith)))
    ∙ ap (λ (k : ℕ). name ++ codes "_" ++ decimal k) same

pub checks_are_named : ChecksAreNamed
checks_are_named columns scales texts checks e =
    let named = texts_named columns scales texts 1 checks (within_most columns scales texts checks e).1 in
    record {
      each = length-map checks (λ (check : Check). check.name) ∙ (checks_whole columns scales texts checks e).0;
      first = λ i text name at is some.
          let start : conditions_before texts i ≡ conditions_before texts i + 0 = omega arith in
          ap (λ (m : ℕ). slice_get (names checks) m) start
          ∙ named i 0 text at some
          ∙ ap (λ (o : Option (List ℕ)). Some (check_name o (1 + 0) (1 + (conditions_before texts i + 0)))) is;
      later = λ i j text name at is some.
          named i (j + 1) text at some
          ∙ ap (λ (o : Option (List ℕ)). Some (check_name o (1 + (j + 1)) (1 + (conditions_before texts i + (j + 1))))) is
          ∙ ap (λ (x : List ℕ). Some x) (later_name name j (1 + (conditions_before texts i + (j + 1))));
      unnamed = λ i j text at is some.
          let number : 1 + (conditions_before texts i + j) ≡ conditions_before texts i + j + 1 = omega arith in
          named i j text at some
          ∙ ap (λ (o : Option (List ℕ)). Some (check_name o (1 + j) (1 + (conditions_before texts i + j)))) is
          ∙ ap (λ (k : ℕ). Some (codes "CHECK_" ++ decimal k)) number;
    }
