use Rattle.escrow_core.proofs.database.Database.shown_values.Goals as goal

pub keyed-requires-clause-row : goal.keyed-requires-clause-row
keyed-requires-clause-row g c = rw c.in-Some.is at c.requires.row

pub returns-in-Some-clause-told : goal.returns-in-Some-clause-told
returns-in-Some-clause-told g c = rw c.in-Some.is c.keyed.ensures.told
