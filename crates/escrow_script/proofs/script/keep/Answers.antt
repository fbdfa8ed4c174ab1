use Rattle.std.proofs.Common.{arith, ◌+◌, ◌-◌, ◌++◌, take, ap, ◌∙◌}
use Rattle.escrow_script.proofs.ScriptLemmas.{keeps}
use Rattle.escrow_script.specs.declared.limits.TheConstants.{MAX_LINE}
use Rattle.escrow_script.proofs.script.keep.Goals as goal

pub returns-clause-ok : goal.returns-clause-ok
returns-clause-ok c =
    c.in_ok-extend_from_slice.ensures.items
    ∙ ap (λ m. c.args.line.now.items ++ take m c.args.bytes.now) c.min.ensures
    ∙ keeps c.args.line.now.items c.args.bytes.now (MAX_LINE + 1) (MAX_LINE + 1 - c.len.result) (omega arith)
