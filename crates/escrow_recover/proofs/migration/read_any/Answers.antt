use Rattle.sqlite.specs.Held.{state}
use Rattle.escrow_recover.proofs.Migrating.{made_then}
use Rattle.escrow_recover.proofs.migration.read_any.Goals as goal

pub returns-in-Ok-read_before-clause-crash_opened : goal.returns-in-Ok-read_before-clause-crash_opened
returns-in-Ok-read_before-clause-crash_opened g c =
    made_then (state g.S.Store c.args.store) (state g.S.Store c.in-Err-default-OtherFormat.store) (state g.S.Store c.in-Ok-read_before.store)
    c.in-Err-default-OtherFormat.ensures.only_reads_refused c.in-Ok-read_before.ensures.crash_opened

pub returns-in-Err-read_before-clause-crash_refused : goal.returns-in-Err-read_before-clause-crash_refused
returns-in-Err-read_before-clause-crash_refused g c =
    made_then (state g.S.Store c.args.store) (state g.S.Store c.in-Err-default-OtherFormat.store) (state g.S.Store c.in-Err-read_before.refused.0)
    c.in-Err-default-OtherFormat.ensures.only_reads_refused c.in-Err-read_before.ensures.crash_refused
