use Rattle.std.proofs.Common.{arith, ◌∙◌}
use Rattle.escrow_script.specs.Script.{left}
use Rattle.escrow_script.proofs.ScriptLemmas.{spends_more}
use Rattle.escrow_free.proofs.Phases.{read_one}
use Rattle.escrow_free.proofs.reading.read_phase.Goals as goal

pub returns-then-branch-2-clause-read : goal.returns-then-branch-2-clause-read
returns-then-branch-2-clause-read g c =
    let at = c.lines in
    read_one c.args.databases (left c.args.script.now.unread (g.C.Client.remaining c.args.client.now)) (left at.script.unread (g.C.Client.remaining at.client))
    (left c.next_line.new.self.unread (g.C.Client.remaining c.next_line.new.client)) c.next_line.new.self.line.items c.line.result.now c.in_ok-next_line.field-0 at.plan c.add.new.self
    c.if-branch.true c.line.ensures.value c.line.ensures.within c.in_ok-next_line.ensures.taken c.in_ok-add.ensures at.invariant.read

pub lines-preserved : goal.lines-preserved
lines-preserved g c =
    let at = c.lines in
    let next = c.in_ok-next_line.ensures in
    let fewer = next.less c.if-branch.true in
    record {
      read =
          read_one c.args.databases (left c.args.script.now.unread (g.C.Client.remaining c.args.client.now)) (left at.script.unread (g.C.Client.remaining at.client))
          (left c.next_line.new.self.unread (g.C.Client.remaining c.next_line.new.client)) c.next_line.new.self.line.items c.line.result.now c.in_ok-next_line.field-0 at.plan c.add.new.self
          c.if-branch.true c.line.ensures.value c.line.ensures.within next.taken c.in_ok-add.ensures at.invariant.read;
      less = omega (arith, at.invariant.less, fewer);
      spent = spends_more _ _ _ c.args.script.now.bytes_left at.script.bytes_left c.next_line.new.self.bytes_left at.invariant.spent next.spent;
      sent = c.next_line.ensures.sent ∙ at.invariant.sent;
      ended = next.ended;
    }

pub next_line-requires-clause-may : goal.next_line-requires-clause-may
next_line-requires-clause-may g c = λ _ _ client _ _. c.requires.always client
