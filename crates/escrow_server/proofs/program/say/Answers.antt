use Rattle.std.proofs.Common.{List, ℕ, sym, subst, ◌∙◌}
use Rattle.escrow_server.specs.Program.{WritesPrefix}
use Rattle.escrow_server.proofs.ProgramLemmas.{Writes, writes_of, front_of, front_first, front_second}
use Rattle.escrow_server.proofs.program.say.Goals as goal

pub returns-then-is_ok : goal.returns-then-is_ok
returns-then-is_ok g c =
    let contents = g.F.Write.contents in
    let old = contents c.args.errors.now in
    let mid = contents c.write_whole.new.writer in
    let new = contents c.write_whole-then-is_ok.new.writer in
    let first = subst (λ (b : List ℕ). Writes old mid b c.write_whole.result) c.as_bytes.ensures.value
    (writes_of old mid c.as_bytes.result.now c.write_whole.result c.write_whole.ensures.ok c.write_whole.ensures.err) in
    let second = writes_of mid new c.as_bytes-then-is_ok.result.now c.write_whole-then-is_ok.result c.write_whole-then-is_ok.ensures.ok c.write_whole-then-is_ok.ensures.err in
    let front = subst (λ (b : List ℕ). WritesPrefix mid new b) c.as_bytes-then-is_ok.ensures.value (front_of mid new c.as_bytes-then-is_ok.result.now c.write_whole-then-is_ok.result second) in
    front_second old mid new c.args.head.now c.args.text.now c.write_whole.result first (sym c.is_ok.ensures.value ∙ c.if-is_ok.true) front

pub returns-else-is_ok : goal.returns-else-is_ok
returns-else-is_ok g c =
    let contents = g.F.Write.contents in
    let old = contents c.args.errors.now in
    let mid = contents c.write_whole.new.writer in
    let first = subst (λ (b : List ℕ). Writes old mid b c.write_whole.result) c.as_bytes.ensures.value
    (writes_of old mid c.as_bytes.result.now c.write_whole.result c.write_whole.ensures.ok c.write_whole.ensures.err) in
    front_first old mid c.args.head.now c.args.text.now c.write_whole.result first (sym c.is_ok.ensures.value ∙ c.if-is_ok.false)
