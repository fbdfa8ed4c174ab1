use Rattle.escrow_bounds.proofs.Kept.{gives_back, gives_committed}
use Rattle.escrow_bounds.proofs.place.Place.give_back.Goals as goal

pub returns-in-Commit : goal.returns-in-Commit
returns-in-Commit c = rw c.in-Commit.is (gives_committed c.args.changes.now c.args.self.now c.recount.new.self c.commit.new.self c.recount.ensures c.commit.ensures)

pub returns-in-Rollback : goal.returns-in-Rollback
returns-in-Rollback c = rw c.in-Rollback.is (gives_back c.args.changes.now c.args.self.now c.recount.new.self c.recount.ensures)
