-- The form is linear in its coefficients; a sum of terms is the form of its coefficients plus its numbers.
use Rattle.std.proofs.Common.{◌≡◌, ℕ, Bool, true, false, cond, ℤ, pos, ◌+ℤ◌, ◌-ℤ◌, ◌*ℤ◌, List, [], ◌∷◌, map, refl, ap, ap₂, ◌∙◌, sym, subst, arith}
use Rattle.std.specs.Prelude.{bytes_eq, if◌then◌else◌}
use Rattle.std.specs.List.{IsDistinct, AllByRecursion}
use Rattle.std.specs.Cmp.Lexicographic.{bytes_decides}
use Rattle.std.proofs.lemmas.Int.{ints}
use Rattle.std.proofs.Math.IntN.{*ℤ_comm, *ℤ-zero, zero-*ℤ}
use Rattle.escrow_statement.specs.declared.statement.Condition.{Condition}
use Rattle.escrow_statement.specs.declared.statement.Term.{Term}
use Rattle.escrow_statement.specs.declared.statement.Term.TheVariants as term
use Rattle.escrow_checks.specs.Form.{form}
use Rattle.escrow_checks.specs.Condition.{amount_of, total, sum_at}
use Rattle.escrow_checks.specs.Checks.{coefficient_in, coefficient_of, number_in, right_of, unit_of}
use Rattle.escrow_checks.proofs.Products.{*ℤ-up, *ℤ-sum}

-- ---- products of a sum and of a difference

pub sum-*ℤ : (a b c : ℤ) → (a +ℤ b) *ℤ c ≡ (a *ℤ c) +ℤ (b *ℤ c)
sum-*ℤ a b c = *ℤ_comm (a +ℤ b) c ∙ *ℤ-sum c a b ∙ ap₂ (λ (x y : ℤ). x +ℤ y) (*ℤ_comm c a) (*ℤ_comm c b)

pub less-*ℤ : (a b c : ℤ) → (a -ℤ b) *ℤ c ≡ (a *ℤ c) -ℤ (b *ℤ c)
less-*ℤ a b c =
    let back : (a -ℤ b) +ℤ b ≡ a = omega (arith, ints) in
    omega (arith, ints, sym (sum-*ℤ (a -ℤ b) b c) ∙ ap (λ z. z *ℤ c) back)

one_times : (a : ℤ) → pos 1 *ℤ a ≡ a
one_times a = omega (arith, ints, *ℤ-up (pos 0) a, zero-*ℤ a)

-- ---- the form of coefficients computed column by column

form-plus : (f g : List ℕ → ℤ) (columns : List (List ℕ)) (amounts : List ℤ) → form (map (λ name. f name +ℤ g name) columns) amounts ≡ form (map f columns) amounts +ℤ form (map g columns) amounts
form-plus f g [] amounts = refl
form-plus f g (name ∷ columns) [] = refl
form-plus f g (name ∷ columns) (a ∷ amounts) = omega (arith, ints, form-plus f g columns amounts, sum-*ℤ (f name) (g name) a)

form-less : (f g : List ℕ → ℤ) (columns : List (List ℕ)) (amounts : List ℤ) → form (map (λ name. f name -ℤ g name) columns) amounts ≡ form (map f columns) amounts -ℤ form (map g columns) amounts
form-less f g [] amounts = refl
form-less f g (name ∷ columns) [] = refl
form-less f g (name ∷ columns) (a ∷ amounts) = omega (arith, ints, form-less f g columns amounts, less-*ℤ (f name) (g name) a)

form-zeros : (columns : List (List ℕ)) (amounts : List ℤ) → form (map (λ name. pos 0) columns) amounts ≡ pos 0
form-zeros [] amounts = refl
form-zeros (name ∷ columns) [] = refl
form-zeros (name ∷ columns) (a ∷ amounts) = omega (arith, ints, zero-*ℤ a, form-zeros columns amounts)

-- ---- the form of a single column's coefficient

-- comparing two names is symmetric
bytes_eq_turned : (a b : List ℕ) → bytes_eq a b ≡ bytes_eq b a
bytes_eq_turned a b = go (bytes_eq a b) (bytes_eq b a) refl refl
  where
    go : (s t : Bool) → bytes_eq a b ≡ s → bytes_eq b a ≡ t → s ≡ t
    go true true e e' = refl
    go false false e e' = refl
    go true false e e' = sym ((sym e') ∙ (bytes_decides b a).1 (sym ((bytes_decides a b).0 e)))
    go false true e e' = sym e ∙ (bytes_decides a b).1 (sym ((bytes_decides b a).0 e'))

-- if no column has the name, the form is zero
form-no_column : (columns : List (List ℕ)) (amounts : List ℤ) (name : List ℕ) (c : ℤ) → AllByRecursion (λ y. bytes_eq name y ≡ false) columns
    → form (map (λ column. if bytes_eq name column then c else pos 0) columns) amounts ≡ pos 0
form-no_column [] amounts name c none = refl
form-no_column (column ∷ columns) [] name c none = refl
form-no_column (column ∷ columns) (a ∷ amounts) name c none =
    ap (λ b. (cond b c (pos 0) *ℤ a) +ℤ form (map (λ column. if bytes_eq name column then c else pos 0) columns) amounts) none.0
    ∙ omega (arith, ints, zero-*ℤ a, form-no_column columns amounts name c none.1)

-- the form of a single column's coefficient is that coefficient times the column's amount
form-one_column : (columns : List (List ℕ)) (amounts : List ℤ) (name : List ℕ) (c : ℤ) → IsDistinct bytes_eq columns
    → form (map (λ column. if bytes_eq name column then c else pos 0) columns) amounts ≡ c *ℤ amount_of columns amounts name
unfolding IsDistinct
form-one_column [] amounts name c distinct = sym (*ℤ-zero c)
form-one_column (column ∷ columns) [] name c distinct = sym (*ℤ-zero c)
form-one_column (column ∷ columns) (a ∷ amounts) name c distinct =
    let rest : ℤ = form (map (λ column. if bytes_eq name column then c else pos 0) columns) amounts in
    ap (λ b. (cond b c (pos 0) *ℤ a) +ℤ rest) (bytes_eq_turned name column)
    ∙ go (bytes_eq column name) rest refl (λ none. form-no_column columns amounts name c none) (form-one_column columns amounts name c distinct.1)
  where
    go : (b : Bool) (rest : ℤ) → bytes_eq column name ≡ b → (AllByRecursion (λ y. bytes_eq name y ≡ false) columns → rest ≡ pos 0) → rest ≡ c *ℤ amount_of columns amounts name
        → (cond b c (pos 0) *ℤ a) +ℤ rest ≡ c *ℤ cond b a (amount_of columns amounts name)
    go true rest e none found =
        let same : column ≡ name = (bytes_decides column name).0 e in
        omega (arith, ints, none (subst (λ (n : List ℕ). AllByRecursion (λ y. bytes_eq n y ≡ false) columns) same distinct.0))
    go false rest e none found = omega (arith, ints, zero-*ℤ a)

-- the same coefficients, with names compared in the other order
unit_turned : (columns : List (List ℕ)) (name : List ℕ) → unit_of columns name ≡ map (λ column. if bytes_eq name column then pos 1 else pos 0) columns
unit_turned [] name = refl
unit_turned (column ∷ columns) name = ap₂ (λ (b : Bool) (cs : List ℤ). cond b (pos 1) (pos 0) ∷ cs) (bytes_eq_turned column name) (unit_turned columns name)

-- the form of the unit coefficients of a column is its amount
pub form-column : (columns : List (List ℕ)) (amounts : List ℤ) (name : List ℕ) → IsDistinct bytes_eq columns
    → amount_of columns amounts name ≡ form (unit_of columns name) amounts
form-column columns amounts name distinct =
    sym (one_times (amount_of columns amounts name)) ∙ sym (form-one_column columns amounts name (pos 1) distinct)
    ∙ ap (λ (cs : List ℤ). form cs amounts) (sym (unit_turned columns name))

-- ---- sums of terms

pub sum-form : (columns : List (List ℕ)) (amounts : List ℤ) (terms : List Term) → IsDistinct bytes_eq columns
    → form (map (λ name. total (coefficient_in name) terms) columns) amounts +ℤ total number_in terms ≡ sum_at columns amounts terms
sum-form columns amounts [] distinct = omega (arith, ints, form-zeros columns amounts)
sum-form columns amounts (term.Number n ∷ terms) distinct =
    omega (arith, ints, form-plus (λ name. pos 0) (λ name. total (coefficient_in name) terms) columns amounts, form-zeros columns amounts, sum-form columns amounts terms distinct)
sum-form columns amounts (term.Column c column ∷ terms) distinct =
    omega (arith, ints, form-plus (λ name. if bytes_eq column name then c else pos 0) (λ name. total (coefficient_in name) terms) columns amounts, form-one_column columns amounts column c distinct, sum-form columns amounts terms distinct)

-- the form of a condition's coefficients: the left side less the right one, both without their numbers
pub condition-form : (columns : List (List ℕ)) (amounts : List ℤ) (condition : Condition) → IsDistinct bytes_eq columns
    → form (map (coefficient_of condition) columns) amounts
    ≡ (sum_at columns amounts condition.sum -ℤ total number_in condition.sum) -ℤ (sum_at columns amounts (right_of condition.test) -ℤ total number_in (right_of condition.test))
condition-form columns amounts condition distinct =
    let left : List Term = condition.sum in
    let right : List Term = right_of condition.test in
    form-less (λ name. total (coefficient_in name) left) (λ name. total (coefficient_in name) right) columns amounts
    ∙ omega (arith, ints, sum-form columns amounts left distinct, sum-form columns amounts right distinct)
