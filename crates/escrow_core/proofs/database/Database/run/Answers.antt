use Rattle.escrow_core.proofs.database.Database.run.Goals as goal

pub returns-clause-crash : goal.returns-clause-crash
returns-clause-crash g c = rw c.in_ok-replies.ensures.items at c.run_into.ensures.crash

pub returns-clause-durable : goal.returns-clause-durable
returns-clause-durable g c = rw c.in_ok-replies.ensures.items at c.run_into.ensures.durable
