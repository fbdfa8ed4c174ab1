use Rattle.sqlite.specs.Held.{state}
use Rattle.escrow_recover.proofs.OpenedLemmas.{opened_by}
use Rattle.escrow_recover.proofs.open.read_store.Goals as goal

pub returns-in-Ok-clause-store : goal.returns-in-Ok-clause-store
returns-in-Ok-clause-store g c =
    rw c.of.ensures (opened_by (state g.S.Store c.args.store) (state g.S.Store c.verify_format.new.store) c.in-Ok.tables.items c.verify_format.ensures.only_reads c.in-Ok.ensures.store)
