-- What a call of `run` does to a store, in the words of its callers.
use Rattle.std.proofs.Common.{◌≡◌, Bool, subst}
use Rattle.sqlite_trees.specs.declared.store.Store.{Ghosts}
use Rattle.sqlite.specs.Effect.{Database}
use Rattle.sqlite.specs.Held.{Held, state}
use Rattle.sqlite.proofs.StateLemmas.{survives_weaker}
use Rattle.escrow_cells.specs.Calls.{Transacts}

-- the connection in the store is the one that the call saw, and the steps do what the call says
pub writes_as : {S : Type 0} (g : Ghosts S) (inside old new : Held S) (is_done : Bool) (P Q : Database → Database → Type 0) → inside ≡ old → ((before after : Database) → P before after → Q before after)
    → Transacts (state g inside) (state g new) is_done P → Transacts (state g old) (state g new) is_done Q
writes_as g inside old new is_done P Q same says it = subst (λ (c : Held _). Transacts (state g c) (state g new) is_done Q) same (record {
  done = λ e clean. let made = it.done e clean in (made.0, says _ _ made.1);
  refused = it.refused;
  usable = it.usable;
  durable = it.durable;
  survives = survives_weaker _ _ _ _ (λ _ trees made. (made.0, made.1, says _ made.1 made.2, made.3)) it.survives;
})
