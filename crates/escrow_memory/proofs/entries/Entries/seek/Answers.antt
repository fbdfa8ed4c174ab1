use Rattle.escrow_memory.proofs.Cuts.{place_of_count}
use Rattle.escrow_memory.proofs.entries.Entries.seek.Goals as goal

pub returns-clause-place : goal.returns-clause-place
returns-clause-place g c = rw (c.seek-at.ensures.place, c.self.view_is) (place_of_count _ _ c.requires)
