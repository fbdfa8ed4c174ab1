use Rattle.std.proofs.Common.{map, arith}
use Rattle.std.proofs.Math.ListN.{get_or-map}
use Rattle.std.proofs.lemmas.List.{length-map}
use Rattle.std.specs.Char.{to_ascii_uppercase}
use Rattle.escrow_num.proofs.NameLemmas.{padded-more}
use Rattle.escrow_num.proofs.name.Name.in_upper_case.Goals as goal

pub loop-i-preserved : goal.loop-i-preserved
loop-i-preserved c =
    rw (c.loop-i.invariant, c.to_ascii_uppercase.ensures.value, ← get_or-map to_ascii_uppercase c.args.text.now c.loop-i.i 0)
    (padded-more (map to_ascii_uppercase c.args.text.now) c.loop-i.i (omega (arith, c.loop-i-test.true, length-map c.args.text.now to_ascii_uppercase)) c.requires.short)
