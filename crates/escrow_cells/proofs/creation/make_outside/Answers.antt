use Rattle.std.proofs.Common.{arith, rules}
use Rattle.sqlite.specs.Held.{state}
use Rattle.escrow_cells.specs.Making.{made_of}
use Rattle.escrow_cells.proofs.AllOrNone.{ends, goes_first}
use Rattle.escrow_cells.proofs.creation.make_outside.Goals as goal

pub returns-clause-writes : goal.returns-clause-writes
returns-clause-writes g c =
    let made = goes_first g.S.Store c.args.conn.now _ (state g.S.Store c.make_inside.new.tx.conn.now) 1 (made_of c.args.origin) c.transaction-tx.ensures.begun c.in_ok-make_inside.ensures.acts in
    let it = ends _ _ _ c.requires.settled (made_of c.args.origin) 1 (omega arith) made c.commit.ensures.survives (g.met.S.Store.settled c.commit.new.self.0.store) c.commit.result c.commit.ensures.ok c.commit.ensures.err in
    search (rules, it)
