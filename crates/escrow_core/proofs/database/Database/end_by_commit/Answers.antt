use Rattle.std.specs.Prelude.{◌≡◌, false, length, nat_lt, true}
use Rattle.std.proofs.Common.{sym, ap, ◌∙◌}
use Rattle.escrow_journal.specs.Open.{Open}
use Rattle.escrow_journal.specs.Reservations.{own}
use Rattle.escrow_core.specs.Database.{Database}
use Rattle.escrow_core.proofs.Committing.{holds_none, holds_some, just_ended, just_ended_holds}
use Rattle.escrow_core.proofs.Together.{one_counted, one_done, one_failed}
use Rattle.escrow_core.proofs.database.Database.end_by_commit.Given as given
use Rattle.escrow_core.proofs.database.Database.end_by_commit.Goals as goal
use Rattle.escrow_core.proofs.database.Database.end_by_commit.Goals.{After-is_empty}

-- the applied reservations are those of the session
mine : (g : given.Over) (c : After-is_empty g) → c.reservations.result.now ≡ own c.args.session c.self.inside.reserved.txns.reservations
mine g c = c.reservations.ensures.all ∙ ap (λ (o : Open). own c.args.session o.reservations) c.txns.ensures

pub invariant_of-self : goal.invariant_of-self
invariant_of-self g c =
    just_ended_holds g.S.Store c.args.session c.self.inside.tables c.self.inside.reserved.txns c.self.inside.reserved.places c.end.new.self c.self.inside.recent c.self.invariant
    c.end.ensures.txns c.end.ensures.places c.end.ensures.placed

pub returns-then-is_empty-clause-done : goal.returns-then-is_empty-clause-done
returns-then-is_empty-clause-done g c =
    let at = (goal.at.returns-then-is_empty-clause-done g c).After-is_empty in
    let none = holds_none c.reservations.result.now (own c.args.session c.self.inside.reserved.txns.reservations) (mine g at) (sym c.if-is_empty.true ∙ c.is_empty.ensures) in
    rw (← c.self.view_is, c.end.ensures.count, c.end.ensures.txns) (just_ended g.S.Store c.args.session c.self.inside.tables c.self.inside.reserved.txns none)

-- the session holds a reservation
holds : (g : given.Over) (c : After-is_empty g) → false ≡ c.is_empty.result → nat_lt 0 (length (own c.args.session c.args.self.now.state.reservations)) ≡ true
holds g c some =
    holds_some c.reservations.result.now (own c.args.session c.args.self.now.state.reservations)
    (mine g c ∙ ap (λ (d : Database _). own c.args.session d.state.reservations) c.self.view_is) (some ∙ c.is_empty.ensures)

pub returns-clause-count : goal.returns-clause-count
returns-clause-count g c =
    let at = (goal.at.returns-clause-count g c).After-is_empty in
    one_counted g.S.Store c.args.session c.args.self.now c.commit_all.new.self (holds g at (sym c.if-is_empty.false)) c.commit_all.result c.commit_all.ensures.count c.commit_all.ensures.left

pub returns-clause-done : goal.returns-clause-done
returns-clause-done g c =
    let at = (goal.at.returns-clause-done g c).After-is_empty in
    let some = holds g at (sym c.if-is_empty.false) in
    let r = c.commit_all.result in
    one_done g.S.Store c.args.session c.args.self.now c.commit_all.new.self some c.commit_all.ensures.crash c.commit_all.ensures.usable r c.commit_all.ensures.done c.commit_all.ensures.durable
    (one_counted g.S.Store c.args.session c.args.self.now c.commit_all.new.self some r c.commit_all.ensures.count c.commit_all.ensures.left)

pub returns-clause-failed : goal.returns-clause-failed
returns-clause-failed g c =
    let at = (goal.at.returns-clause-failed g c).After-is_empty in
    one_failed g.S.Store c.args.session c.args.self.now c.commit_all.new.self (holds g at (sym c.if-is_empty.false)) c.commit_all.ensures.crash c.commit_all.ensures.usable c.commit_all.result c.commit_all.ensures.failed
