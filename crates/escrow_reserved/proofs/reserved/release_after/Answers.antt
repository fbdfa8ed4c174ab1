use Rattle.escrow_journal.specs.Open.{open_after_rollback_to}
use Rattle.escrow_reserved.proofs.Counting.{later_first, later_short}
use Rattle.escrow_reserved.proofs.reserved.release_after.Goals as goal

pub remove_all-requires-clause-counted : goal.remove_all-requires-clause-counted
remove_all-requires-clause-counted c =
    let o = c.args.txns.now in
    ((open_after_rollback_to c.args.session c.args.name o).reservations, later_first c.args.session c.args.name o c.in-Some.later.now c.args.bounds.now c.in-Some.ensures c.requires.counts)

pub remove_all-requires-clause-short : goal.remove_all-requires-clause-short
remove_all-requires-clause-short c = later_short c.args.session c.args.name c.args.txns.now c.in-Some.later.now c.in-Some.ensures c.requires.short

pub returns-in-Some-clause-counts : goal.returns-in-Some-clause-counts
returns-in-Some-clause-counts c =
    let o = c.args.txns.now in
    c.remove_all.ensures.counts (open_after_rollback_to c.args.session c.args.name o).reservations
    (later_first c.args.session c.args.name o c.in-Some.later.now c.args.bounds.now c.in-Some.ensures c.requires.counts)
