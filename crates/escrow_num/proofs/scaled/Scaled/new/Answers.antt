use Rattle.std.proofs.Common.{arith}
use Rattle.escrow_num.proofs.ScaledLemmas.{text-written, wide-utf8}
use Rattle.escrow_num.proofs.scaled.Scaled.new.Goals as goal

pub invariant_of-result : goal.invariant_of-result
invariant_of-result c =
    let text =
    text-written c.get.result c.args.scale c.unsigned_abs.result c.args.units c.get-number.result _ _ c.get-number.ensures.within c.get-number.ensures.value
    c.unsigned_abs.ensures.value c.get.ensures.value c.put_sign-start.ensures.written c.put_magnitude-first.ensures.written in
    (wide-utf8 c.args.scale c.get-number.result c.args.units _ c.get-number.ensures.within c.get-number.ensures.value text, omega arith)

pub returns : goal.returns
returns c =
    text-written c.get.result c.args.scale c.unsigned_abs.result c.args.units c.get-number.result _ _ c.get-number.ensures.within c.get-number.ensures.value
    c.unsigned_abs.ensures.value c.get.ensures.value c.put_sign-start.ensures.written c.put_magnitude-first.ensures.written
