use Rattle.std.proofs.Common.{◌-◌, ◌<◌, sym, ◌∙◌, ap, arith}
use Rattle.std.specs.Prelude.{count_by}
use Rattle.escrow_memory.specs.Probe.{passes}
use Rattle.escrow_memory.proofs.Cuts.{passes_before}
use Rattle.escrow_memory.proofs.entries.Entries.passes_before.Goals as goal

pub returns-in-Some : goal.returns-in-Some
returns-in-Some g c passed =
    let (within, row) = c.in-Some.ensures.some in
    let test = passes c.args.probe in
    let behind : c.args.at - 1 < count_by test c.args.self.now = passes_before test c.args.self.now (c.args.at - 1) c.requires within (ap test (sym row) ∙ sym c.passes.ensures ∙ passed) in
    omega arith
