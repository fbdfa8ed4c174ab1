use Rattle.std.proofs.Common.{◌≡◌, ◌<◌, ◌≤◌, ◌∙◌, ℕ, ℤ, List, length, get_or, sym, subst, arith}
use Rattle.escrow_checks.specs.Coefficients.{IsCoefficient}
use Rattle.escrow_checks.specs.Scales.{written_coeffs}
use Rattle.escrow_checks.specs.declared.coefficients.TheConstants.Coefficients.{MAX_LEN}
use Rattle.escrow_checks.proofs.CoefficientsLemmas.{All-taken, all_kept, invariant_kept, taken-more}
use Rattle.escrow_checks.proofs.ScaledLemmas.{length-written_coeffs, written-at, written-past}
use Rattle.escrow_checks.proofs.coefficients.Coefficients.written.Goals as goal
use Rattle.escrow_checks.proofs.coefficients.Coefficients.written.Goals.{in-None, in-Some}

pub loop-i-preserved : goal.loop-i-preserved
loop-i-preserved c =
    let coeffs : List ℤ = c.args.self.now in
    let scales : List ℕ = c.args.scales.now in
    let all : List ℤ = written_coeffs c.args.scale coeffs scales in
    let value : ℤ = c.match-get.values in
    let long : length all ≡ length coeffs = length-written_coeffs c.args.scale coeffs scales in
    let few : length coeffs ≤ MAX_LEN = rw c.as_slice-coeffs.ensures.value at c.as_slice-coeffs.ensures.within.0 in
    let at : c.loop-i.i < length coeffs = rw c.as_slice-coeffs.ensures.value at c.loop-i-test.true in
    let of : c.index-coeffs-i.result ≡ get_or coeffs c.loop-i.i c.index-coeffs-i.result = rw c.as_slice-coeffs.ensures.value at c.index-coeffs-i.is in
    let kept : IsCoefficient c.index-coeffs-i.result = subst IsCoefficient (sym c.index-coeffs-i.is) (c.as_slice-coeffs.ensures.within.1 c.loop-i.i c.index-coeffs-i.result c.loop-i-test.true) in
    let found : (value ≡ get_or all c.loop-i.i value) × IsCoefficient value = elim c.match-get.branch [
      | in-Some w ↦
          let is : value ≡ get_or all c.loop-i.i value =
          w.values-is ∙ w.written.ensures.value
          ∙ written-at c.args.scale coeffs scales c.loop-i.i c.index-coeffs-i.result value w.in-Some.own.now at w.in-Some.ensures.lookup.3.0 of w.in-Some.ensures.lookup.1 in
          (is, subst IsCoefficient (sym w.values-is) w.written.ensures.within)
      | in-None w ↦
          let is : c.index-coeffs-i.result ≡ get_or all c.loop-i.i c.index-coeffs-i.result = written-past c.args.scale coeffs scales c.loop-i.i c.index-coeffs-i.result at w.in-None.ensures.lookup.3 of in
          (subst (λ (z : ℤ). z ≡ get_or all c.loop-i.i z) (sym w.values-is) is, subst IsCoefficient (sym w.values-is) kept)
    ] in
    record {
      written = rw c.loop-i.invariant.written (taken-more all c.loop-i.i value (omega (arith, at, long)) (omega (arith, few, long)) found.0);
      are = All-taken all c.loop-i.i value (omega (arith, at, long)) found.0 found.1 c.loop-i.invariant.are;
    }

pub invariant_of-result : goal.invariant_of-result
invariant_of-result c = invariant_kept _ _ _ (all_kept _ _ _ _ _ c.as_slice-coeffs.ensures.value (length-written_coeffs c.args.scale c.args.self.now c.args.scales.now) c.as_slice-coeffs.ensures.within.0 c.loop-i-test.false c.loop-i.invariant.are c.loop-i.invariant.written)

pub returns : goal.returns
returns c = (all_kept _ _ _ _ _ c.as_slice-coeffs.ensures.value (length-written_coeffs c.args.scale c.args.self.now c.args.scales.now) c.as_slice-coeffs.ensures.within.0 c.loop-i-test.false c.loop-i.invariant.are c.loop-i.invariant.written).shown
