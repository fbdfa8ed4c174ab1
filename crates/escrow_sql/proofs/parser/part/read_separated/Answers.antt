use Rattle.std.proofs.Common.{refl, arith}
use Rattle.escrow_sql.specs.Cursor.{bare}
use Rattle.escrow_sql.proofs.Reading.{run-takes, run-shorter, parted-kept}
use Rattle.escrow_sql.proofs.parser.part.read_separated.Goals as goal

pub parts-smaller : goal.parts-smaller
parts-smaller g c =
    let l = run-takes g.P.Part.grammar c.parts.cursor.tokens.now _ c.in_ok-part.ensures in
    let h = run-shorter (bare _) refl c.read.new.cursor.tokens.now _ c.if-not-takes.ensures in
    omega (arith, l, h)

pub parts-preserved : goal.parts-preserved
parts-preserved g c =
    rw c.in_ok-push.ensures.ok (parted-kept _ g.P.Part.grammar c.parts.parts c.parts.cursor.tokens.now c.read.new.cursor.tokens.now c.takes.new.self.tokens.now c.in_ok-part.part _
    c.in_ok-part.ensures c.if-not-takes.ensures c.parts.invariant)
