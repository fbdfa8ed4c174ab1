use Rattle.std.proofs.Common.{ap, is_ok}
use Rattle.sqlite.specs.Held.{state}
use Rattle.escrow_recover.proofs.Migrating.{crash, migrated_from, opened_migrated}
use Rattle.escrow_recover.proofs.migration.read_before.Goals as goal

pub returns-in-Ok-migrate-clause-store : goal.returns-in-Ok-migrate-clause-store
returns-in-Ok-migrate-clause-store g c =
    opened_migrated (state g.S.Store c.args.store) (state g.S.Store c.verify_format_1.new.store) (state g.S.Store c.migrate.new.self) c.in-Ok.catalog
    c.in-Ok.ensures.store c.in-Ok.ensures.only_reads _ c.migrate.ensures (ap is_ok c.in-Ok-migrate.is)

pub returns-in-Ok-migrate-clause-migrated : goal.returns-in-Ok-migrate-clause-migrated
returns-in-Ok-migrate-clause-migrated g c =
    migrated_from (state g.S.Store c.args.store) (state g.S.Store c.verify_format_1.new.store) (state g.S.Store c.migrate.new.self) c.in-Ok.catalog
    c.in-Ok.ensures.store c.in-Ok.ensures.only_reads _ c.migrate.ensures (ap is_ok c.in-Ok-migrate.is)

pub returns-in-Ok-migrate-clause-crash_opened : goal.returns-in-Ok-migrate-clause-crash_opened
returns-in-Ok-migrate-clause-crash_opened g c =
    crash (state g.S.Store c.args.store) (state g.S.Store c.verify_format_1.new.store) (state g.S.Store c.migrate.new.self) c.in-Ok.catalog
    c.in-Ok.ensures.store c.in-Ok.ensures.only_reads _ c.migrate.ensures

pub returns-in-Err-migrate-clause-crash_refused : goal.returns-in-Err-migrate-clause-crash_refused
returns-in-Err-migrate-clause-crash_refused g c =
    crash (state g.S.Store c.args.store) (state g.S.Store c.verify_format_1.new.store) (state g.S.Store c.migrate.new.self) c.in-Ok.catalog
    c.in-Ok.ensures.store c.in-Ok.ensures.only_reads _ c.migrate.ensures
