use Rattle.std.proofs.Common.{[], rules}
use Rattle.escrow_cells.proofs.AllOrNone.{could_not_write, wrote_nothing}
use Rattle.escrow_cells.proofs.Resting.{idle_from, not_run_kept}
use Rattle.escrow_cells.proofs.transaction.do_nothing.Goals as goal

pub returns-in_err-prepare-clause-writes : goal.returns-in_err-prepare-clause-writes
returns-in_err-prepare-clause-writes g c =
    let idle = idle_from g.S.Store c.args.conn.now c.prepare.new.self c.requires.settled (c.prepare.ensures.mode c.requires.outside) c.prepare.ensures.survives (λ clean. not_run_kept _ _ _ _ _ (c.in_err-prepare.ensures.err clean [])) in
    let it = could_not_write _ _ idle.only_reads in
    search (rules, it)

pub returns-clause-writes : goal.returns-clause-writes
returns-clause-writes g c =
    wrote_nothing _ _ c.requires.settled (g.met.S.Store.settled c.prepare.new.self.store) c.prepare.ensures.survives (λ clean. (c.in_ok-prepare.ensures.ok clean).1)
