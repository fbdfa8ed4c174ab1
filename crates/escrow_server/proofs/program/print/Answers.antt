use Rattle.std.proofs.Common.{List, ℕ, subst}
use Rattle.escrow_server.specs.Program.{WritesPrefix}
use Rattle.escrow_server.proofs.ProgramLemmas.{writes_of, front_of}
use Rattle.escrow_server.proofs.program.print.Goals as goal

pub returns : goal.returns
returns g c =
    let old = g.W.Write.contents c.args.output.now in
    let new = g.W.Write.contents c.write_whole.new.writer in
    let wrote = writes_of old new c.as_bytes.result.now c.write_whole.result c.write_whole.ensures.ok c.write_whole.ensures.err in
    subst (λ (b : List ℕ). WritesPrefix old new b) c.as_bytes.ensures.value (front_of old new c.as_bytes.result.now c.write_whole.result wrote)
