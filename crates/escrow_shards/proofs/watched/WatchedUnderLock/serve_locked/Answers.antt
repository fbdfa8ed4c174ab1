use Rattle.std.proofs.Common.{◌≡◌, ◌∷◌, [], ◌++◌, ◌-◌, List, length, sym, ap, subst, ◌∙◌}
use Rattle.std.specs.List.{slice_get}
use Rattle.escrow_transcript.specs.declared.entry.Entry.{Entry}
use Rattle.escrow_transcript.specs.Legal.{IsLegal}
use Rattle.escrow_shards.proofs.Showing.{last_is, legal_more, more_doubts, more_shown, stays_shown}
use Rattle.escrow_shards.proofs.watched.WatchedUnderLock.serve_locked.Given.{Over}
use Rattle.escrow_shards.proofs.watched.WatchedUnderLock.serve_locked.Goals as goal
use Rattle.escrow_shards.proofs.watched.WatchedUnderLock.serve_locked.Goals.{In-Some}

pub invariant_of-self : goal.invariant_of-self
invariant_of-self g c =
    let e = c.in_err-served.ensures in
    stays_shown g.S.Store c.self.inside.locked.audited c.serve.new.self.audited c.self.inside.board c.self.invariant e.unserved e.clean

-- the last entry is that of the statement
last : (g : Over) (c : In-Some g)
    → c.in-Some.entry.now ≡ record { number = c.in_ok-served.served.number; session = c.args.session; statement = c.args.statement.now; reply = c.in_ok-served.served.reply }
last g c =
    last_is c.serve.new.self.audited.entries c.self.inside.locked.audited.entries _ c.in-Some.entry.now c.in_ok-served.ensures.served.entries
    (ap (λ (es : List Entry). slice_get es (length es - 1)) (sym c.entries.ensures.entries) ∙ sym c.in-Some.ensures.value)

pub show-requires-clause-legal : goal.show-requires-clause-legal
show-requires-clause-legal g c =
    let new = c.serve.new.self.audited in
    let board = c.self.inside.board in
    let e = c.in_ok-served.ensures in
    let s = c.in_ok-served.served in
    λ now. (
      new.state,
      subst (λ (x : Entry). IsLegal board.base (board.entries ++ x ∷ []) new.state) (sym (last g (goal.at.show-requires-clause-legal g c).In-Some))
          (legal_more g.S.Store c.self.inside.locked.audited new board c.args.session c.args.statement.now s.number s.reply c.self.invariant e.served e.clean now),
    )

pub show-requires-clause-more : goal.show-requires-clause-more
show-requires-clause-more g c =
    more_doubts g.S.Store c.self.inside.locked.audited.store c.serve.new.self.audited.store c.self.inside.board c.in_ok-served.ensures.clean c.self.invariant.fewer

pub invariant_of-self-2 : goal.invariant_of-self-2
invariant_of-self-2 g c =
    let board = c.self.inside.board in
    let e = c.in_ok-served.ensures in
    let s = c.in_ok-served.served in
    let shown = c.show.ensures in
    more_shown g.S.Store c.self.inside.locked.audited c.serve.new.self.audited board c.args.session c.args.statement.now s.number s.reply c.self.invariant e.served e.clean
    c.show.new.board shown.base (shown.entries ∙ ap (λ (x : Entry). board.entries ++ x ∷ []) (last g (goal.at.invariant_of-self-2 g c).In-Some)) shown.shown shown.doubts
