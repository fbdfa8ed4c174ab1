use Rattle.std.proofs.Common.{inr, refl, length, map, sym, ap, ◌∙◌}
use Rattle.std.proofs.lemmas.List.{length-map}
use Rattle.escrow_journal.specs.Open.{Open}
use Rattle.escrow_machine.proofs.Shapes.{few_reservations}
use Rattle.escrow_core.specs.Ends.{left_after}
use Rattle.escrow_core.specs.Inside.{database_of}
use Rattle.escrow_core.specs.Database.{Database}
use Rattle.escrow_core.proofs.Committing.{as_many, given as are_given}
use Rattle.escrow_core.proofs.Serving.{unwritten_holds, unwritten_same}
use Rattle.escrow_core.proofs.Together.{all_left, together_done, together_holds, together_survives}
use Rattle.escrow_core.proofs.database.Database.commit_all.Goals as goal

pub amounts_of-requires : goal.amounts_of-requires
amounts_of-requires g c = rw c.deref.ensures.value c.in_ok-reservations.ensures.placed

pub apply-written-requires-clause-many : goal.apply-written-requires-clause-many
apply-written-requires-clause-many g c =
    let items = c.in_ok-amounts.amounts.items in
    let held = c.in_ok-reservations.reservations.items in
    let amounts = rw c.deref.ensures.value at c.in_ok-amounts.ensures in
    ap length c.deref-3.ensures.value ∙ sym (length-map items (λ amounts. amounts.now))
    ∙ as_many c.self.inside.reserved.places (map (λ r. r.now) held) (map (λ amounts. amounts.now) items) amounts
    ∙ length-map held (λ r. r.now) ∙ sym (ap length c.deref-2.ensures.value)

pub apply-written-requires-clause-given : goal.apply-written-requires-clause-given
apply-written-requires-clause-given g c = λ clean.
    let amounts = rw c.deref.ensures.value at c.in_ok-amounts.ensures in
    rw (c.deref-2.ensures.value, c.deref-3.ensures.value)
    (are_given c.self.inside.tables.rows c.self.inside.reserved.places (map (λ r. r.now) c.in_ok-reservations.reservations.items) (map (λ amounts. amounts.now) c.in_ok-amounts.amounts.items)
    (c.self.invariant.keeps.amounts clean) amounts)

pub end_all-requires : goal.end_all-requires
end_all-requires g c = few_reservations (database_of c.self.inside.tables c.self.inside.reserved.txns).state c.self.invariant.keeps.kept.orderly

pub invariant_of-self : goal.invariant_of-self
invariant_of-self g c =
    let writes = rw (c.deref-2.ensures.value, c.in_ok-reservations.ensures.all, c.in-Ok.is) at c.apply-written.ensures in
    let committed = rw (c.deref-in-Ok.ensures.value, c.in_ok-reservations.ensures.all) at c.commit.ensures in
    rw c.end_all.ensures.txns
    (together_holds g.S.Store c.args.plan.now c.requires c.self.inside.tables c.apply-written.new.self c.self.inside.reserved.txns writes c.self.inside.reserved.places c.end_all.new.self.places c.self.inside.recent c.commit.new.self
    c.self.invariant c.end_all.ensures.places (rw c.end_all.ensures.txns at (c.end_all.ensures.placed c.self.invariant.keeps.placed)) committed)

pub invariant_of-self-in-Err-1 : goal.invariant_of-self-in-Err-1
invariant_of-self-in-Err-1 g c =
    let writes = rw c.in-Err.is at c.apply-written.ensures in
    unwritten_holds g.S.Store c.self.inside.tables c.apply-written.new.self c.self.inside.reserved.txns c.self.inside.reserved.places _ _ c.self.inside.recent c.self.inside.recent c.self.invariant writes (λ name. inr refl)

pub returns-in-Ok-clause-done : goal.returns-in-Ok-clause-done
returns-in-Ok-clause-done g c =
    let writes = rw (c.deref-2.ensures.value, c.in_ok-reservations.ensures.all, c.in-Ok.is) at c.apply-written.ensures in
    rw (← c.self.view_is, c.end_all.ensures.txns)
    (together_done g.S.Store c.args.plan.now c.requires c.self.inside.tables c.apply-written.new.self c.self.inside.reserved.txns writes)

pub returns-in-Ok-clause-left : goal.returns-in-Ok-clause-left
returns-in-Ok-clause-left g c =
    ap (λ (o : Open). o.reservations) c.end_all.ensures.txns ∙ all_left c.args.plan.now c.self.inside.reserved.txns
    ∙ ap (λ (d : Database _). left_after c.args.plan.now d.state.reservations) c.self.view_is

pub returns-in-Ok-clause-crash : goal.returns-in-Ok-clause-crash
returns-in-Ok-clause-crash g c =
    let writes = rw (c.deref-2.ensures.value, c.in_ok-reservations.ensures.all) at c.apply-written.ensures in
    rw (← c.self.view_is) (together_survives g.S.Store c.args.plan.now c.requires c.self.inside.tables c.apply-written.new.self c.self.inside.reserved.txns _ writes)

pub returns-in-Err-clause-failed : goal.returns-in-Err-clause-failed
returns-in-Err-clause-failed g c =
    let writes = rw c.in-Err.is at c.apply-written.ensures in
    unwritten_same g.S.Store c.self.inside.tables c.apply-written.new.self c.self.inside.reserved.txns _ _ writes ∙ ap (λ (d : Database _). d.state) c.self.view_is

pub returns-in-Err-clause-crash : goal.returns-in-Err-clause-crash
returns-in-Err-clause-crash g c =
    let writes = rw (c.deref-2.ensures.value, c.in_ok-reservations.ensures.all) at c.apply-written.ensures in
    rw (← c.self.view_is) (together_survives g.S.Store c.args.plan.now c.requires c.self.inside.tables c.apply-written.new.self c.self.inside.reserved.txns _ writes)

pub returns-in-Ok-clause-usable : goal.returns-in-Ok-clause-usable
returns-in-Ok-clause-usable g c = rw (← c.self.view_is) c.apply-written.ensures.usable

pub returns-in-Err-clause-usable : goal.returns-in-Err-clause-usable
returns-in-Err-clause-usable g c = rw (← c.self.view_is) c.apply-written.ensures.usable
