use Rattle.std.proofs.Common.{◌≡◌, ℤ, List, refl, sym, ap, ap₂, ◌∙◌, length, subst, arith}
use Rattle.std.specs.List.{AllByRecursion}
use Rattle.std.specs.Vec.{with_items}
use Rattle.std.proofs.lemmas.List.{with_items_is}
use Rattle.escrow_checks.specs.Contribution.{IsContribution}
use Rattle.escrow_bounds.specs.Inside.{place_of}
use Rattle.escrow_bounds.specs.Listed.{all_tracked}
use Rattle.escrow_bounds.specs.Place.{Place, checks_of}
use Rattle.escrow_bounds.specs.Moved.{all_moved}
use Rattle.escrow_bounds.proofs.Forms.{values_at}
use Rattle.escrow_bounds.proofs.Kept.{lent, place_kept}
use Rattle.escrow_bounds.proofs.Moving.{length-all_moved}
use Rattle.escrow_bounds.proofs.place.Place.commit.Goals as goal

pub invariant_of-self : goal.invariant_of-self
invariant_of-self c =
    let old = place_of c.self.inside in
    let list = c.self.inside.list.value in
    let sums = c.self.inside.sums.items in
    let place = c.self.invariant.0 in
    let changes = c.args.changes.now in
    let amounts = lent (λ held new. new ≡ all_moved held changes) c.self.inside.amounts c.deref_mut.result.now c.move_all.new.amounts c.deref_mut.ensures.value (omega (arith, c.move_all.auto.amounts, c.deref_mut.ensures.len)) c.move_all.ensures in
    let new : Place = record old { amounts = (with_items c.self.inside.amounts c.move_all.new.amounts).items } in
    let values = with_items_is c.self.inside.values c.revalue.new.values (omega (arith, c.revalue.auto.values, c.deref_mut-2.ensures.len)) in
    let many = ap length amounts ∙ length-all_moved old.amounts changes in (
      place_kept old new place.reservations place many refl refl place.counts,
      values ∙ c.revalue.ensures.values
          ∙ ap₂ (λ held read. values_at held (checks_of (all_tracked c.as_slice.result.now read))) c.deref-3.ensures.value c.deref-2.ensures.value
          ∙ ap (λ listed. values_at new.amounts (checks_of (all_tracked listed sums))) (c.as_slice.ensures ∙ c.deref.ensures),
      subst (AllByRecursion IsContribution) (sym values) c.revalue.ensures.within,
      c.self.invariant.3,
      omega (arith, many, c.self.invariant.4),
    )

pub returns : goal.returns
returns c =
    let old = place_of c.self.inside in
    let changes = c.args.changes.now in
    let new : Place = record old { amounts = (with_items c.self.inside.amounts c.move_all.new.amounts).items } in
    let amounts = lent (λ held new. new ≡ all_moved held changes) c.self.inside.amounts c.deref_mut.result.now c.move_all.new.amounts c.deref_mut.ensures.value (omega (arith, c.move_all.auto.amounts, c.deref_mut.ensures.len)) c.move_all.ensures in
    subst (λ (kept : Place). new ≡ record kept { amounts = all_moved kept.amounts changes }) c.self.view_is (ap (λ (held : List ℤ). record old { amounts = held }) amounts)
