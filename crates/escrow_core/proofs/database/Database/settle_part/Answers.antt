use Rattle.std.proofs.Common.{◌≡◌, ◌<◌, Some, ap, arith, inr, le_refl, length, refl, subst, sym, ◌∙◌}
use Rattle.std.proofs.lemmas.Option.{slice_get-get_or}
use Rattle.sqlite.specs.Held.{state}
use Rattle.sqlite.proofs.StateLemmas.{survives_then, survives_weaker}
use Rattle.escrow_machine.proofs.Settling.{stops}
use Rattle.escrow_machine.specs.Settle.{after_ends}
use Rattle.escrow_machine.specs.State.{State}
use Rattle.escrow_core.specs.Ends.{IsGroup, Settles}
use Rattle.escrow_core.specs.Serves.{AreAfterAtLeast, AreHeldOf}
use Rattle.escrow_core.specs.Database.{Database}
use Rattle.escrow_core.proofs.Lasting.{lasts_survives, none_first}
use Rattle.escrow_core.proofs.Parts.{after_all, all_at_least, commits_counts, first_commits, settles_after}
use Rattle.escrow_core.proofs.database.Database.settle_part.Goals as goal
use Rattle.escrow_core.proofs.database.Database.settle_part.Goals.{then-part-gt1+in-Err+else-not-store_answers, else-part-gt1}

pub returns-in-Ok : goal.returns-in-Ok
returns-in-Ok g c =
    let part = c.args.part.now in
    let s = c.args.self.now.state in
    let run : IsGroup s.reservations part = c.requires c.if-part-gt1.true in
    record {
      ok = c.in-Ok.ensures.done;
      counts = commits_counts part s.reservations c.commit_all.new.self.state.reservations c.in-Ok.committed run.commits c.in-Ok.ensures.left c.in-Ok.ensures.count;
      left = c.in-Ok.ensures.left;
      stays = λ clean _. c.in-Ok.ensures.open clean;
      stop = λ _. tt;
      within = tt;
      usable = c.commit_all.ensures.usable;
      crash = survives_weaker (state g.S.Store c.args.self.now.store) (state g.S.Store c.commit_all.new.self.store) _ _ (λ clean trees k. (k.0, after_all part s trees k.1)) c.commit_all.ensures.crash;
      durable = λ clean trees may.
          inr (all_at_least part s (length part) trees (le_refl (length part)) (subst (λ (t : State). AreHeldOf t trees) (c.in-Ok.ensures.done clean) (c.in-Ok.ensures.durable clean trees may)));
    }

pub returns-then-not-store_answers : goal.returns-then-not-store_answers
returns-then-not-store_answers g c =
    let part = c.args.part.now in
    let s = c.args.self.now.state in
    let new = c.store_answers.new.self in
    let run : IsGroup s.reservations part = c.requires c.if-part-gt1.true in
    let entry = c.index-part-0.result in
    let some : 0 < _ = omega (arith, c.if-part-gt1.true) in
    let same : new.state ≡ s = c.store_answers.ensures.reads.same ∙ c.in-Err.ensures.failed in
    record {
      ok = λ _. tt;
      counts = tt;
      left = tt;
      stays = λ _. tt;
      stop = λ clean.
          stops part (record { place = 0; cause = c.in-Err.cause }) entry s s new.state some c.index-part-0.is refl same (first_commits part entry some c.index-part-0.is run.commits)
          (run.holds entry (slice_get-get_or part 0 entry some ∙ ap (λ e. Some e) (sym c.index-part-0.is)));
      within = some;
      usable = λ still. c.commit_all.ensures.usable (c.store_answers.ensures.reads.usable still);
      crash =
          survives_then (state g.S.Store c.args.self.now.store) (state g.S.Store c.commit_all.new.self.store) (state g.S.Store new.store) _ _ _
          (λ clean trees k. (k.0, after_all part s trees k.1)) (λ clean trees none. absurd none) c.commit_all.ensures.crash c.store_answers.ensures.reads.survives;
      durable =
          lasts_survives (state g.S.Store c.args.self.now.store) (state g.S.Store new.store) _ _ (AreAfterAtLeast 0 part s) (none_first s.reservations)
          (λ clean trees k. all_at_least part s 0 trees (omega arith) k)
          (survives_then (state g.S.Store c.args.self.now.store) (state g.S.Store c.commit_all.new.self.store) (state g.S.Store new.store) _ _ (AreHeldOf (after_ends s part))
          (λ clean trees k. k.1) (λ clean trees none. absurd none) c.commit_all.ensures.crash c.store_answers.ensures.reads.survives);
    }

pub returns : goal.returns
returns g c =
    let part = c.args.part.now in
    let result = c.settle_each.result in
    let new = c.settle_each.new.self in
    elim c.if-part-gt1.branch [
      | then-part-gt1+in-Err+else-not-store_answers w ↦
          let old = c.args.self.now in
          let mid = w.commit_all.new.self in
          let at = w.store_answers.new.self in
          let survives =
          survives_then (state g.S.Store old.store) (state g.S.Store mid.store) (state g.S.Store at.store) _ _ _
          (λ clean trees k. k) (λ clean trees none. absurd none) w.commit_all.ensures.crash w.store_answers.ensures.reads.survives in
          settles_after g.S.Store part old at new result (w.store_answers.ensures.reads.same ∙ w.in-Err.ensures.failed)
          (λ clean. w.store_answers.ensures.open clean w.if-not-store_answers.false)
          (λ still. w.commit_all.ensures.usable (w.store_answers.ensures.reads.usable still)) survives
          (subst (λ (d : Database _). Settles g.S.Store part d result new) w.self-is c.settle_each.ensures)
      | else-part-gt1 w ↦ subst (λ (d : Database _). Settles g.S.Store part d result new) w.self-is c.settle_each.ensures
    ]
