use Rattle.std.proofs.Common.{◌≡◌, ◌<◌, ◌≤◌, ◌∙◌, ℕ, ℤ, List, length, get_or, arith}
use Rattle.escrow_checks.specs.Scales.{scaled_coeffs}
use Rattle.escrow_checks.specs.declared.coefficients.TheConstants.Coefficients.{MAX_LEN}
use Rattle.escrow_checks.proofs.CoefficientsLemmas.{All-taken, all_kept, invariant_kept, taken-more}
use Rattle.escrow_checks.proofs.ScaledLemmas.{length-scaled_coeffs, scaled-at}
use Rattle.escrow_checks.proofs.coefficients.Coefficients.scaled.Goals as goal

pub loop-i-preserved : goal.loop-i-preserved
loop-i-preserved c =
    let coeffs : List ℤ = c.args.self.now in
    let scales : List ℕ = c.args.scales.now in
    let all : List ℤ = scaled_coeffs c.args.scale coeffs scales in
    let long : length all ≡ length coeffs = length-scaled_coeffs c.args.scale coeffs scales in
    let few : length coeffs ≤ MAX_LEN = rw c.as_slice-coeffs.ensures.value at c.as_slice-coeffs.ensures.within.0 in
    let at : c.loop-i.i < length coeffs = rw c.as_slice-coeffs.ensures.value at c.loop-i-test.true in
    let of : c.index-coeffs-i.result ≡ get_or coeffs c.loop-i.i c.index-coeffs-i.result = rw c.as_slice-coeffs.ensures.value at c.index-coeffs-i.is in
    let is : c.scaled.result ≡ get_or all c.loop-i.i c.scaled.result =
    c.scaled.ensures.value ∙ scaled-at c.args.scale coeffs scales c.loop-i.i c.index-coeffs-i.result c.scaled.result c.index-scales-i.result at (omega (arith, c.requires.scales)) of c.index-scales-i.is in
    record {
      written = rw c.loop-i.invariant.written (taken-more all c.loop-i.i c.scaled.result (omega (arith, long)) (omega (arith, long)) is);
      are = All-taken all c.loop-i.i c.scaled.result (omega (arith, long)) is c.scaled.ensures.within c.loop-i.invariant.are;
    }

pub invariant_of-result : goal.invariant_of-result
invariant_of-result c = invariant_kept _ _ _ (all_kept _ _ _ _ _ c.as_slice-coeffs.ensures.value (length-scaled_coeffs c.args.scale c.args.self.now c.args.scales.now) c.as_slice-coeffs.ensures.within.0 c.loop-i-test.false c.loop-i.invariant.are c.loop-i.invariant.written)

pub returns : goal.returns
returns c = (all_kept _ _ _ _ _ c.as_slice-coeffs.ensures.value (length-scaled_coeffs c.args.scale c.args.self.now c.args.scales.now) c.as_slice-coeffs.ensures.within.0 c.loop-i-test.false c.loop-i.invariant.are c.loop-i.invariant.written).shown
