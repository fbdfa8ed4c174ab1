use Rattle.std.proofs.Common.{◌≡◌, ℤ, ◌-ℤ◌, List, ap, ap₂, sym, ◌∙◌}
use Rattle.escrow_statement.specs.declared.statement.Term.{Term}
use Rattle.escrow_statement.specs.declared.statement.Test.{Test}
use Rattle.escrow_checks.specs.Checks.{number_in}
use Rattle.escrow_checks.specs.Condition.{total}
use Rattle.escrow_checks.specs.Parts.{millionths}
use Rattle.escrow_checks.proofs.LimitLemmas.{between_some, compare_none, compare_some, high_none, limits_found, low_none}
use Rattle.escrow_checks.proofs.condition.limits.limits_of.Goals as goal

-- the difference of two known numbers
difference : (z a b a' b' : ℤ) → z ≡ a -ℤ b → a ≡ a' → b ≡ b' → z ≡ a' -ℤ b'
difference z a b a' b' e is is' = e ∙ ap₂ (λ (x y : ℤ). x -ℤ y) is is'

-- the difference of the sums of two lists of terms
sums_less : (z a b : ℤ) (sum left sum' left' : List Term) → z ≡ a -ℤ b → a ≡ total number_in sum → b ≡ total number_in left → sum ≡ sum' → left ≡ left'
    → z ≡ total number_in sum' -ℤ total number_in left'
sums_less z a b sum left sum' left' e is is' same same' = difference _ _ _ _ _ e (is ∙ ap (total number_in) same) (is' ∙ ap (total number_in) same')

pub returns-in_err-number-in-Compare : goal.returns-in_err-number-in-Compare
returns-in_err-number-in-Compare c =
    let left : ℤ = total number_in c.args.condition.now.sum in
    let is = sums_less _ _ _ _ _ _ _ c.less.ensures.value c.number_sum.ensures.value c.number_sum-left.ensures.value c.as_slice-in-Compare.ensures c.as_slice.ensures in
    c.from_residual.ensures
    ∙ sym (ap (λ (t : Test). limits_found c.args.scale t left) c.in-Compare.is
    ∙ compare_none c.args.scale c.in-Compare.comparison c.in-Compare.sum left (millionths c.less.result) is (sym c.units.ensures ∙ c.in_err-number-in-Compare.was))

pub returns-in_ok-number-in-Compare : goal.returns-in_ok-number-in-Compare
returns-in_ok-number-in-Compare c =
    let left : ℤ = total number_in c.args.condition.now.sum in
    let is = sums_less _ _ _ _ _ _ _ c.less.ensures.value c.number_sum.ensures.value c.number_sum-left.ensures.value c.as_slice-in-Compare.ensures c.as_slice.ensures in
    c.span_of.ensures
    ∙ compare_some c.args.scale c.in-Compare.comparison c.in-Compare.sum left (millionths c.less.result) c.in_ok-number-in-Compare.number is (sym c.units.ensures ∙ c.in_ok-number-in-Compare.was)
    ∙ sym (ap (λ (t : Test). limits_found c.args.scale t left) c.in-Compare.is)

pub returns-in_err-low-in-Between : goal.returns-in_err-low-in-Between
returns-in_err-low-in-Between c =
    let left : ℤ = total number_in c.args.condition.now.sum in
    let is_left = c.number_sum-left.ensures.value ∙ ap (total number_in) c.as_slice.ensures in
    let is = difference _ _ _ _ _ c.less-in-Between.ensures.value c.of.ensures.value is_left in
    c.from_residual-in_err-low-in-Between.ensures
    ∙ sym (ap (λ (t : Test). limits_found c.args.scale t left) c.in-Between.is
    ∙ low_none c.args.scale c.in-Between.low c.in-Between.high left (millionths c.less-in-Between.result) is (sym c.units-in-Between.ensures ∙ c.in_err-low-in-Between.was))

pub returns-in_err-high-in-Between : goal.returns-in_err-high-in-Between
returns-in_err-high-in-Between c =
    let left : ℤ = total number_in c.args.condition.now.sum in
    let is_left = c.number_sum-left.ensures.value ∙ ap (total number_in) c.as_slice.ensures in
    let is = difference _ _ _ _ _ c.less-in-Between-2.ensures.value c.of-in-Between.ensures.value is_left in
    c.from_residual-in_err-high-in-Between.ensures
    ∙ sym (ap (λ (t : Test). limits_found c.args.scale t left) c.in-Between.is
    ∙ high_none c.args.scale c.in-Between.low c.in-Between.high left (millionths c.less-in-Between-2.result) is (sym c.units-in-Between-2.ensures ∙ c.in_err-high-in-Between.was))

pub returns-in_ok-high-in-Between : goal.returns-in_ok-high-in-Between
returns-in_ok-high-in-Between c =
    let left : ℤ = total number_in c.args.condition.now.sum in
    let is_left = c.number_sum-left.ensures.value ∙ ap (total number_in) c.as_slice.ensures in
    let is = difference _ _ _ _ _ c.less-in-Between.ensures.value c.of.ensures.value is_left in
    let is' = difference _ _ _ _ _ c.less-in-Between-2.ensures.value c.of-in-Between.ensures.value is_left in
    c.good_span.ensures
    ∙ between_some c.args.scale c.in-Between.low c.in-Between.high left (millionths c.less-in-Between.result) (millionths c.less-in-Between-2.result) c.in_ok-low-in-Between.low c.in_ok-high-in-Between.high
    is (sym c.units-in-Between.ensures ∙ c.in_ok-low-in-Between.was) is' (sym c.units-in-Between-2.ensures ∙ c.in_ok-high-in-Between.was)
    ∙ sym (ap (λ (t : Test). limits_found c.args.scale t left) c.in-Between.is)
