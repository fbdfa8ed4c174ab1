use Rattle.std.proofs.Common.{refl}
use Rattle.sqlite.specs.Held.{state}
use Rattle.escrow_recover.proofs.OpenedLemmas.{opened_by, opening, was_foreign, was_other_format}
use Rattle.escrow_recover.proofs.whole.verify.Goals as goal

pub returns-in-Ok-clause-store : goal.returns-in-Ok-clause-store
returns-in-Ok-clause-store g c =
    rw c.of.ensures (opened_by (state g.S.Store c.args.store.now) (state g.S.Store c.verify_format.new.store) c.in-Ok.tables.items c.verify_format.ensures.only_reads c.in-Ok.ensures.store)

pub returns-in-Err-clause-foreign : goal.returns-in-Err-clause-foreign
returns-in-Err-clause-foreign g c = λ usable same.
    c.verify_format.ensures.foreign usable (was_foreign c.in-Err.cause c.from.result _ c.verify_format.result same c.in-Err.is c.from.ensures refl)

pub returns-in-Err-clause-version : goal.returns-in-Err-clause-version
returns-in-Err-clause-version g c = λ usable same.
    c.verify_format.ensures.version usable (was_other_format c.in-Err.cause c.from.result _ c.verify_format.result same c.in-Err.is c.from.ensures refl)

pub returns-in-Err-clause-other : goal.returns-in-Err-clause-other
returns-in-Err-clause-other g c = λ usable same.
    c.verify_format.ensures.other usable (was_foreign c.in-Err.cause c.from.result _ c.verify_format.result same c.in-Err.is c.from.ensures refl)

pub returns-in-Err-clause-only : goal.returns-in-Err-clause-only
returns-in-Err-clause-only g c = rw c.from.ensures (opening c.in-Err.cause)
