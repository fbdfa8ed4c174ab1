use Rattle.std.proofs.Common.{◌≤◌, ◌+◌, ◌*◌, ℕ, List, length, ap, arith, refl, subst, sym, ◌∙◌, vec_len}
use Rattle.std.specs.Prelude.{vec_capacity}
use Rattle.escrow_reply.specs.declared.short.TheConstants.{MAX_SHORT}
use Rattle.escrow_script.specs.declared.limits.TheConstants.{MAX_LINE}
use Rattle.escrow_serve.specs.Task.{IsTask}
use Rattle.escrow_serve.proofs.GatherLemmas.{gathers_first, gathers_next, none_of, room_of}
use Rattle.escrow_serve.proofs.serve.gather_lines.Goals as goal

pub admit-alone-requires : goal.admit-alone-requires
admit-alone-requires c =
    let line = c.line.result.now in
    let count = sym (c.args.batch.now.parts.ok.0 ∙ c.requires.empty.count) in
    (c.args.sessions, line, subst (λ (n : ℕ). IsTask c.args.sessions n line c.read_task.result) count c.read_task.ensures)

pub admit-alone-requires-in-loop-script : goal.admit-alone-requires-in-loop-script
admit-alone-requires-in-loop-script c =
    let line = c.line-in-loop-script.result.now in
    let count = sym (c.loop-script.batch.parts.ok.0 ∙ c.loop-script.invariant.lines.gathers.count) in
    (c.args.sessions, line, subst (λ (n : ℕ). IsTask c.args.sessions n line c.read_task-in-loop-script.result) count c.read_task-in-loop-script.ensures)

pub loop-script-init : goal.loop-script-init
loop-script-init c =
    let line = c.line.ensures in
    let script = c.args.script.now in
    let batch = c.args.batch.now in
    let after = c.admit-alone.new.self in
    let admits = c.admit-alone.ensures in
    let none = batch.waiting.ok.0 ∙ ap length c.requires.empty.waits in
    record {
      lines = gathers_first c.args.sessions c.args.databases script.line.items script.unread c.read_task.result batch.waiting.items after.waiting.items batch.parts.items after.parts.items c.admit-alone.result
          (subst (λ (l : List ℕ). length l ≤ MAX_LINE + 1) line.value line.within) (subst (λ (l : List ℕ). IsTask c.args.sessions c.args.databases l c.read_task.result) line.value c.read_task.ensures)
          (record { waiting = admits.waits; back = admits.alone }) c.requires.empty;
      room = room_of c.admit-alone.result (vec_len batch.waiting) (vec_len after.waiting) (vec_len c.args.replies.now) (vec_capacity c.args.replies.now) admits.len (omega (arith, c.requires.room, none));
      same = refl;
      bytes = refl;
      ended = refl;
    }

pub loop-script-preserved : goal.loop-script-preserved
loop-script-preserved c =
    let so_far = c.loop-script.invariant in
    let line = c.line-in-loop-script.ensures in
    let script = c.take_next.new.script in
    let batch = c.loop-script.batch in
    let after = c.admit-alone-in-loop-script.new.self in
    let admits = c.admit-alone-in-loop-script.ensures in
    let next = c.take_next.ensures in
    let asked = c.read_task-in-loop-script.result in
    let room = subst (λ (n : ℕ). vec_len c.take_next.new.replies + MAX_SHORT * (n + 1) ≤ vec_capacity c.take_next.new.replies) c.len.ensures (next.room c.if-take_next.true) in
    record {
      lines = gathers_next c.args.sessions c.args.databases c.args.script.now.line.items c.args.script.now.unread c.loop-script.script.unread script.unread script.line.items asked batch.waiting.items after.waiting.items
          batch.parts.items after.parts.items c.loop-script.alone c.admit-alone-in-loop-script.result (none_of c.loop-script.alone c.is_none.result c.is_none.ensures c.loop-script-test.true)
          (subst (λ (l : List ℕ). length l ≤ MAX_LINE + 1) line.value line.within) (next.taken c.if-take_next.true) (next.fewer c.if-take_next.true)
          (subst (λ (l : List ℕ). IsTask c.args.sessions c.args.databases l asked) line.value c.read_task-in-loop-script.ensures) (record { waiting = admits.waits; back = admits.alone }) so_far.lines;
      room = room_of c.admit-alone-in-loop-script.result (vec_len batch.waiting) (vec_len after.waiting) (vec_len c.take_next.new.replies) (vec_capacity c.take_next.new.replies) admits.len room;
      same = next.same ∙ so_far.same;
      bytes = next.bytes ∙ so_far.bytes;
      ended = next.ended ∙ so_far.ended;
    }
