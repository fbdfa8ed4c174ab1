use Rattle.std.proofs.Common.{◌≡◌, ◌-◌, ◌≤◌, ◌++◌, List, length, take, drop, sym, ap, subst, ◌∙◌, arith}
use Rattle.escrow_transcript.specs.declared.entry.Entry.{Entry}
use Rattle.escrow_transcript.specs.Legal.{AreNumbered, IsLegal}
use Rattle.escrow_history.specs.Commits.{commits_of}
use Rattle.escrow_shards.proofs.Showing.{more_doubts, stays_shown}
use Rattle.escrow_shards.proofs.Together.{all_shown, more_few, more_legal, more_numbered, part_is, within_all}
use Rattle.escrow_shards.proofs.watched.WatchedUnderLock.commit_locked.Given.{Over}
use Rattle.escrow_shards.proofs.watched.WatchedUnderLock.commit_locked.Goals as goal
use Rattle.escrow_shards.proofs.watched.WatchedUnderLock.commit_locked.Goals.{After-entries}

pub invariant_of-self : goal.invariant_of-self
invariant_of-self g c =
    let e = c.in_err-outcomes.ensures in
    stays_shown g.S.Store c.self.inside.locked.audited c.commit_all.new.self.audited c.self.inside.board c.self.invariant e.unserved e.clean

-- the entries that were there before stand in front of all
within : (g : Over) (c : After-entries g) → length c.entries-before.result.now ≤ length c.entries.result.now
within g c =
    let old = c.self.inside.locked.audited in
    let e = c.in_ok-outcomes.ensures in
    let more = commits_of c.args.sessions.now c.in_ok-outcomes.outcomes.items in
    within_all c.entries.result.now old.entries more (length c.entries-before.result.now) (c.entries.ensures.entries ∙ e.served.entries) (ap length (sym c.entries-before.ensures.entries))

-- behind them stand those of the COMMITs that were served
part : (g : Over) (c : After-entries g) → take (length c.entries.result.now - length c.entries-before.result.now) (drop (length c.entries-before.result.now) c.entries.result.now)
    ≡ commits_of c.args.sessions.now c.in_ok-outcomes.outcomes.items
part g c =
    let old = c.self.inside.locked.audited in
    let e = c.in_ok-outcomes.ensures in
    let more = commits_of c.args.sessions.now c.in_ok-outcomes.outcomes.items in
    part_is c.entries.result.now old.entries more (length c.entries-before.result.now) (c.entries.ensures.entries ∙ e.served.entries) (ap length (sym c.entries-before.ensures.entries))

pub slice_bounds-show_all-count : goal.slice_bounds-show_all-count
slice_bounds-show_all-count g c = within g (goal.at.slice_bounds-show_all-count g c).After-entries

pub slice_bounds-show_all-start : goal.slice_bounds-show_all-start
slice_bounds-show_all-start g c = within g (goal.at.slice_bounds-show_all-start g c).After-entries

pub show_all-requires-clause-numbered : goal.show_all-requires-clause-numbered
show_all-requires-clause-numbered g c =
    let e = c.in_ok-outcomes.ensures in
    subst (AreNumbered (length c.self.inside.board.entries)) (sym (part g (goal.at.show_all-requires-clause-numbered g c).After-entries))
    (more_numbered g.S.Store c.self.inside.locked.audited c.commit_all.new.self.audited c.self.inside.board c.args.sessions.now c.in_ok-outcomes.outcomes.items c.self.invariant e.served e.clean)

pub show_all-requires-clause-few : goal.show_all-requires-clause-few
show_all-requires-clause-few g c =
    let e = c.in_ok-outcomes.ensures in
    let long = ap length (part g (goal.at.show_all-requires-clause-few g c).After-entries) in
    let few = more_few g.S.Store c.self.inside.locked.audited c.commit_all.new.self.audited c.self.inside.board c.args.sessions.now c.in_ok-outcomes.outcomes.items c.self.invariant e.served e.clean
    c.entries.ensures.kept in
    omega (arith, long, few)

pub show_all-requires-clause-legal : goal.show_all-requires-clause-legal
show_all-requires-clause-legal g c =
    let new = c.commit_all.new.self.audited in
    let board = c.self.inside.board in
    let e = c.in_ok-outcomes.ensures in
    λ now.
    subst (λ (es : List Entry). IsLegal board.base (board.entries ++ es) new.state) (sym (part g (goal.at.show_all-requires-clause-legal g c).After-entries))
    (more_legal g.S.Store c.self.inside.locked.audited new board c.args.sessions.now c.in_ok-outcomes.outcomes.items c.self.invariant e.served e.clean now)

pub show_all-requires-clause-more : goal.show_all-requires-clause-more
show_all-requires-clause-more g c =
    more_doubts g.S.Store c.self.inside.locked.audited.store c.commit_all.new.self.audited.store c.self.inside.board c.in_ok-outcomes.ensures.clean c.self.invariant.fewer

pub invariant_of-self-2 : goal.invariant_of-self-2
invariant_of-self-2 g c =
    let board = c.self.inside.board in
    let e = c.in_ok-outcomes.ensures in
    let shown = c.show_all.ensures in
    all_shown g.S.Store c.self.inside.locked.audited c.commit_all.new.self.audited board c.args.sessions.now c.in_ok-outcomes.outcomes.items c.self.invariant e.served e.clean
    c.show_all.new.board shown.base (shown.entries ∙ ap (λ (es : List Entry). board.entries ++ es) (part g (goal.at.invariant_of-self-2 g c).After-entries)) shown.shown shown.sure
