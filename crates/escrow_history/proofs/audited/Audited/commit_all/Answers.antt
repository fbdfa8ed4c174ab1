use Rattle.std.proofs.Common.{◌≡◌, ◌+◌, ◌≤◌, ◌++◌, List, length, ap, arith}
use Rattle.escrow_machine.specs.declared.reply.Reply.{Reply}
use Rattle.escrow_transcript.specs.declared.transcript.TheConstants.Transcript.{MAX_ENTRIES}
use Rattle.escrow_history.specs.Commits.{Commits}
use Rattle.escrow_history.specs.Entered.{asked_by}
use Rattle.escrow_history.specs.Inside.{audited_of}
use Rattle.escrow_history.proofs.Kept.{commits_made, committed_keeps}
use Rattle.escrow_history.proofs.audited.Audited.commit_all.Given.{Over}
use Rattle.escrow_history.proofs.audited.Audited.commit_all.Goals as goal
use Rattle.escrow_history.proofs.audited.Audited.commit_all.Goals.{After-enter_all}

-- what is entered is what the database served of the events
made : (g : Over) (c : After-enter_all g)
    → Commits g.S.Store (audited_of c.self.inside.database c.self.inside.base c.self.inside.entries) c.args.sessions.now c.enter_all.new.outcomes.items
    (audited_of c.run_into.new.self c.self.inside.base c.enter_all.new.entries)
made g c =
    let d = c.self.inside.database in
    let sessions = c.args.sessions.now in
    let served = c.run_into.ensures.served in
    let events_value = c.deref.ensures.value in
    let events_made = c.in_ok-events.ensures in
    let asked : c.deref.result.now ≡ asked_by sessions = cc in
    let told_value = c.deref-2.ensures.value in
    let told_made = served.2 in
    let none = ap (λ (rs : List Reply). rs ++ served.0) c.in_ok-replies.ensures.items in
    let told : c.deref-2.result.now ≡ served.0 = cc in
    commits_made g.S.Store d c.run_into.new.self c.self.inside.base c.self.inside.entries c.reserve.new.self c.enter_all.new.entries sessions c.deref.result.now served.0
    c.deref-2.result.now c.enter_all.new.outcomes.items asked served.1 told served.3 c.reserve.ensures.items (omega (arith, c.reserve.ensures.len, c.self.inside.entries.ok.0))
    c.enter_all.ensures.entered c.enter_all.ensures.named c.enter_all.ensures.entries

pub invariant_of-self-2 : goal.invariant_of-self-2
invariant_of-self-2 g c =
    let old = audited_of c.self.inside.database c.self.inside.base c.self.inside.entries in
    let new = audited_of c.run_into.new.self c.self.inside.base c.enter_all.new.entries in
    let sessions = c.args.sessions.now in
    let room : length old.entries + length sessions ≤ MAX_ENTRIES = omega (arith, c.len.ensures, c.self.inside.entries.ok.0, c.self.invariant.few, c.if-len-sessions.false) in
    committed_keeps g.S.Store old new sessions c.enter_all.new.outcomes.items c.self.invariant room c.run_into.ensures.clean (made g (goal.at.invariant_of-self-2 g c).After-enter_all)

pub returns-clause-served : goal.returns-clause-served
returns-clause-served g c = rw (← c.self.view_is) (made g (goal.at.returns-clause-served g c).After-enter_all)
