use Rattle.std.proofs.Common.{[], refl}
use Rattle.sqlite.specs.Held.{state}
use Rattle.escrow_recover.proofs.OpenedLemmas.{empty_stores}
use Rattle.escrow_recover.proofs.open.make_empty.Goals as goal

pub returns-in-Ok-clause-store : goal.returns-in-Ok-clause-store
returns-in-Ok-clause-store g c = rw (c.over.ensures, c.new.ensures) (λ clean. ([], empty_stores (state g.S.Store c.make_store.new.connection) (c.in-Ok.ensures.image clean)))

pub returns-in-Ok-clause-made : goal.returns-in-Ok-clause-made
returns-in-Ok-clause-made g c = rw (c.over.ensures, c.new.ensures) (refl, λ clean. empty_stores (state g.S.Store c.make_store.new.connection) (c.in-Ok.ensures.image clean))
