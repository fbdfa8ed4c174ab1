use Rattle.std.proofs.Common.{arith, ◌+◌, ap, sym, ◌∙◌, drop, length}
use Rattle.std.proofs.lemmas.Bool.{ltb-true}
use Rattle.escrow_script.proofs.ScriptLemmas.{shorter, shorter_by_feed}
use Rattle.escrow_script.proofs.script.Script.take_front.Goals as goal

pub returns-clause-less : goal.returns-clause-less
returns-clause-less c =
    let kept = c.in_ok-keep.ensures in
    let fewer = shorter c.args.self.now.line.items c.as_slice-bytes.result.now c.keep.new.line.items c.skip.new.self c.line_len-len.result (omega (arith, ap length c.as_slice-bytes.ensures)) kept.ok (c.skip.ensures ∙ ap (drop (c.line_len-len.result + 1)) (sym c.as_slice-bytes.ensures)) in
    omega (arith, fewer, ap length c.as_slice-bytes.ensures, c.keep.new.line.ok.0, c.args.self.now.line.ok.0)

pub returns-clause-fewer : goal.returns-clause-fewer
returns-clause-fewer c found =
    let kept = c.in_ok-keep.ensures in
    let below = ltb-true c.line_len-len.result (length c.as_slice-bytes.result.now) found in
    let fewer = shorter_by_feed c.args.self.now.line.items c.as_slice-bytes.result.now c.keep.new.line.items c.skip.new.self c.line_len-len.result (omega (arith, ap length c.as_slice-bytes.ensures)) kept.ok (c.skip.ensures ∙ ap (drop (c.line_len-len.result + 1)) (sym c.as_slice-bytes.ensures)) in
    omega (arith, fewer, ap length c.as_slice-bytes.ensures, c.keep.new.line.ok.0, c.args.self.now.line.ok.0)
