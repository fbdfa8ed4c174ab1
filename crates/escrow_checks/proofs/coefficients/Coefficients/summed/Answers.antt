use Rattle.std.proofs.Common.{◌≡◌, ◌∙◌, sym, ap, arith, List, ℕ, ℤ, Bool, true, false, cond, Some, None, map, refl}
use Rattle.std.proofs.lemmas.Option.{cond_some}
use Rattle.escrow_checks.specs.Checks.{coefficient_of, is_coefficient}
use Rattle.escrow_checks.proofs.CoefficientsLemmas.{mapped-more, small-more, small-not, summed_kept}
use Rattle.escrow_checks.proofs.coefficients.Coefficients.summed.Goals as goal

-- if it is no coefficient, it is beyond the greatest magnitude
past : (c : ℤ) → None ≡ cond (is_coefficient c) (Some c) None → is_coefficient c ≡ false
past c e = go (is_coefficient c) e
  where
    go : (b : Bool) → None ≡ cond b (Some c) None → b ≡ false
    go false e = refl
    go true e = absurd cc

pub returns-in_err-values : goal.returns-in_err-values
returns-in_err-values c =
    let f : List ℕ → ℤ = coefficient_of c.args.condition.now in
    let column : List ℕ = c.index-columns-i.result in
    let not = small-not f c.args.columns.now column c.loop-i.i c.loop-i-test.true c.index-columns-i.is (past (f column) (sym c.in_err-values.was ∙ c.coefficient_of.ensures)) in
    c.from_residual.ensures ∙ sym (ap (λ b. cond b (Some (map f c.args.columns.now)) None) not)

pub loop-i-preserved : goal.loop-i-preserved
loop-i-preserved c =
    let f : List ℕ → ℤ = coefficient_of c.args.condition.now in
    let column : List ℕ = c.index-columns-i.result in
    let known = cond_some (is_coefficient (f column)) (f column) c.in_ok-values.field-0 (sym c.coefficient_of.ensures ∙ c.in_ok-values.was) in
    record {
      written = rw c.loop-i.invariant.written (mapped-more f c.args.columns.now column c.loop-i.i c.in_ok-values.field-0 c.loop-i-test.true c.requires c.index-columns-i.is (sym known.1));
      small = small-more f c.args.columns.now column c.loop-i.i c.loop-i-test.true c.index-columns-i.is c.loop-i.invariant.small known.0;
    }

pub invariant_of-result : goal.invariant_of-result
invariant_of-result c =
    let known = (summed_kept (coefficient_of c.args.condition.now) c.args.columns.now c.loop-i.values c.loop-i.i (omega arith) c.requires c.loop-i.invariant.small c.loop-i.invariant.written).0 in
    (known.are, known.few, known.whole)

pub returns : goal.returns
returns c =
    let known = summed_kept (coefficient_of c.args.condition.now) c.args.columns.now c.loop-i.values c.loop-i.i (omega arith) c.requires c.loop-i.invariant.small c.loop-i.invariant.written in
    rw (known.1, known.0.shown) refl
