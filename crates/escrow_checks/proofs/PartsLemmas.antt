-- Numbers in parts: their sums, and their units.
use Rattle.std.proofs.Common.{◌≡◌, ℕ, ◌*◌, ◌^◌, ◌<◌, ◌≤◌, inl, inr, true, false, Bool, ℤ, pos, neg_ℤ, ◌+ℤ◌, ◌*ℤ◌, ◌≤ℤ◌, int_le, int_div, int_rem, FitsSigned, List, [], ◌∷◌, refl, arith}
use Rattle.std.specs.Int.{cast_signed, cast_unsigned, w128}
use Rattle.std.specs.Int.RustNames.{unsigned_abs}
use Rattle.std.proofs.lemmas.Bool.{and_parts}
use Rattle.std.proofs.lemmas.Int.{ints, quot-rem, quot_fits, rem_below, to_z-of_z}
use Rattle.escrow_num.specs.Scale.{unit_at}
use Rattle.escrow_num.proofs.ScaleLemmas.{unit-least, unit-most}
use Rattle.escrow_statement.specs.declared.statement.Term.{Term}
use Rattle.escrow_statement.specs.declared.statement.Term.TheVariants as term
use Rattle.escrow_checks.specs.Checks.{number_in, units_in}
use Rattle.escrow_checks.specs.Condition.{total}
use Rattle.escrow_checks.specs.Contribution.{IsDifference}
use Rattle.escrow_checks.specs.Parts.{AreFew, IsJoined, IsPast, is_near, joined, rest, rest_in, wholes, wholes_in}
use Rattle.escrow_checks.proofs.LinearLemmas.{sum-*ℤ}
use Rattle.escrow_checks.proofs.Products.{abs_within, product_within, within_abs}

-- ---- sums

-- the parts of a number add up to it
pub parts_of : (z : ℤ) → joined (wholes z) (rest z) ≡ z
parts_of z = quot-rem z (pos 1000000)

part_in : (t : Term) → joined (wholes_in t) (rest_in t) ≡ number_in t
part_in (term.Number n) = parts_of n
part_in (term.Column coefficient column) = refl

joined-sum : (a b c d : ℤ) → joined (a +ℤ b) (c +ℤ d) ≡ joined a c +ℤ joined b d
joined-sum a b c d = omega (arith, ints, sum-*ℤ a b (pos 1000000))

-- the sums of the parts are the parts of the sum
pub total-joined : (terms : List Term) → joined (total wholes_in terms) (total rest_in terms) ≡ total number_in terms
total-joined [] = refl
total-joined (t ∷ terms) = omega (arith, ints, joined-sum (wholes_in t) (total wholes_in terms) (rest_in t) (total rest_in terms), part_in t, total-joined terms)

-- they fit into 128 bits unchanged
pub in_128 : (z : ℤ) → IsDifference z → cast_signed w128 (cast_unsigned w128 z) ≡ z
in_128 z small = to_z-of_z w128 z (omega (arith, ints, small))

pub joined_in_128 : (z : ℤ) → IsJoined z → cast_signed w128 (cast_unsigned w128 z) ≡ z
joined_in_128 z small = to_z-of_z w128 z (omega (arith, ints, small))

-- ---- millionths carried into wholes

pub carries : (whole part : ℤ) → joined (whole +ℤ wholes part) (rest part) ≡ joined whole part
carries whole part = omega (arith, ints, sum-*ℤ whole (wholes part) (pos 1000000), parts_of part)

-- the remaining millionths are less than one whole
left_below : (part : ℤ) → (neg_ℤ (pos 1000000) ≤ℤ rest part) × (rest part ≤ℤ pos 1000000)
left_below part =
    let below : unsigned_abs (rest part) < 1000000 = rem_below part (pos 1000000) (omega arith) in
    abs_within (rest part) 1000000 (omega (arith, below))

pub rest_within : (part : ℤ) → IsDifference (rest part)
rest_within part = let small = left_below part in (omega (arith, ints, small.0), omega (arith, ints, small.1))

pub joined_within : (whole part : ℤ) → AreFew whole → IsJoined (joined whole (rest part))
joined_within whole part few =
    let small = left_below part in
    (omega (arith, ints, few.0, small.0), omega (arith, ints, few.1, small.1))

-- ---- units

-- division by a unit fits into 128 bits
unit_in_128 : (scale : ℕ) → FitsSigned w128 (pos (unit_at scale))
unit_in_128 scale = omega (arith, ints, unit-most scale)

pub divides : (z u : ℤ) (scale : ℕ) → IsJoined z → u ≡ pos (unit_at scale)
    → (0 < cast_unsigned w128 u) × FitsSigned w128 (int_div (cast_signed w128 (cast_unsigned w128 z)) (cast_signed w128 (cast_unsigned w128 u)))
divides z u scale small e =
    let z_fits : FitsSigned w128 z = omega (arith, ints, small) in
    rw (e, to_z-of_z w128 z z_fits, to_z-of_z w128 (pos (unit_at scale)) (unit_in_128 scale))
    (unit-least scale, quot_fits w128 z (pos (unit_at scale)) z_fits (omega (arith, ints, unit-least scale)))

-- near units have at most 10^15 wholes
pub near_within : (q : ℤ) → is_near q ≡ true → unsigned_abs q ≤ 10 ^ 15
near_within q e =
    let ends = and_parts (int_le (neg_ℤ (pos (10 ^ 15))) q) (int_le q (pos (10 ^ 15))) e in
    within_abs q (10 ^ 15) (grind (arith, ints, ends.0)) (grind (arith, ints, ends.1))

pub past_not_near : (scale : ℕ) (z : ℤ) → IsPast z → is_near (units_in scale z) ≡ false
past_not_near scale z past = go (is_near (units_in scale z)) refl
  where
    go : (b : Bool) → is_near (units_in scale z) ≡ b → b ≡ false
    go false e = refl
    go true e =
        let u : ℕ = unit_at scale in
        let q : ℤ = units_in scale z in
        let product = abs_within (q *ℤ pos u) (10 ^ 15 * 1000000) (product_within q (pos u) (10 ^ 15) 1000000 (near_within q e) (unit-most scale)) in
        let left = abs_within (int_rem z (pos u)) 1000000 (omega (arith, rem_below z (pos u) (unit-least scale), unit-most scale)) in
        absurd (elim past [
          | inl below ↦ omega (arith, ints, below, product.0, left.0, quot-rem z (pos u))
          | inr above ↦ omega (arith, ints, above, product.1, left.1, quot-rem z (pos u))
        ])
