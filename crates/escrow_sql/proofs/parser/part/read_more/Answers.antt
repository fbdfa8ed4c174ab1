use Rattle.std.proofs.Common.{arith, sym}
use Rattle.escrow_sql.proofs.Reading.{run-shorter, more-kept}
use Rattle.escrow_sql.proofs.parser.part.read_more.Goals as goal

pub parts-smaller : goal.parts-smaller
parts-smaller g c =
    let l = run-shorter g.P.Part.grammar g.met.P.Repeated.not_empty c.parts.cursor.tokens.now _ c.in_ok-part.ensures in
    omega (arith, l)

pub parts-preserved : goal.parts-preserved
parts-preserved g c =
    rw c.in_ok-push.ensures.ok (more-kept g.P.Part.grammar g.met.P.Repeated.not_empty c.parts.parts c.parts.cursor.tokens.now c.read.new.cursor.tokens.now c.in_ok-part.part _
    (sym c.parts-test.ensures) c.in_ok-part.ensures c.parts.invariant)
