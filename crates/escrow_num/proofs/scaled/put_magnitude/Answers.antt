use Rattle.std.proofs.Common.{arith}
use Rattle.std.proofs.lemmas.List.{drop_all}
use Rattle.escrow_num.proofs.ScaledLemmas.{magnitude-written, whole-fits}
use Rattle.escrow_num.proofs.scaled.put_magnitude.Goals as goal

pub put_number-requires : goal.put_number-requires
put_number-requires c =
    let short = whole-fits c.put_last-whole.result c.from-digits.result c.args.scale c.args.magnitude c.put_last-whole.ensures.rest c.from-digits.ensures c.requires.scale c.requires.within in
    (omega (arith, short), omega arith)

pub returns-clause-room : goal.returns-clause-room
returns-clause-room c =
    let short = whole-fits c.put_last-whole.result c.from-digits.result c.args.scale c.args.magnitude c.put_last-whole.ensures.rest c.from-digits.ensures c.requires.scale c.requires.within in
    (omega (arith, short), omega arith)

pub returns-clause-written : goal.returns-clause-written
returns-clause-written c =
    magnitude-written c.from-digits.result c.args.scale c.args.magnitude c.put_last-whole.result _ _ _ _ c.from-digits.ensures c.put_last-whole.ensures.rest
    c.put_number.ensures.written c.put_point-end.ensures.written c.put_last-whole.ensures.written (drop_all 36 c.args.bytes.now (omega arith))
