use Rattle.std.proofs.Common.{◌≡◌, ◌+◌, ℕ, List, [], ◌∷◌, ◌++◌, false, ap, sym, subst, ◌∙◌}
use Rattle.std.specs.Prelude.{is_err, vec_len}
use Rattle.escrow_core.specs.Database.{Database}
use Rattle.escrow_serve.specs.Output.{states_of, HaveCleanDisks}
use Rattle.escrow_server.specs.Program.{AreFound}
use Rattle.escrow_server.proofs.FoundLemmas.{found_more, if_pushed}
use Rattle.escrow_server.proofs.databases.open_databases.Goals as goal

pub loop-place-preserved : goal.loop-place-preserved
loop-place-preserved g c =
    let old = c.loop-place.databases.items in
    let d = c.in-Ok-open_database.database in
    let pushed : is_err c.push.result ≡ false = sym c.is_err.ensures.value ∙ c.if-is_err.false in
    let more : c.push.new.self.items ≡ old ++ d ∷ [] = if_pushed c.push.result _ _ _ pushed c.push.ensures.items in
    let len : vec_len c.push.new.self ≡ vec_len c.loop-place.databases + 1 = if_pushed c.push.result _ _ _ pushed c.push.ensures.len in
    let may_hold = g.O.OpenStore.may_hold c.args.stores.now in
    record {
      len = len ∙ ap (λ (n : ℕ). n + 1) c.loop-place.invariant.len;
      found = λ used. subst (λ (ds : List (Database g.row.S.Denot)). AreFound may_hold (c.loop-place.place + 1) (states_of ds)) (sym more)
          (found_more g.S.Store may_hold c.loop-place.place old d c.loop-place.invariant.found c.in-Ok-open_database.ensures
          (subst (λ (ds : List (Database g.row.S.Denot)). HaveCleanDisks g.S.Store ds) more used));
    }
