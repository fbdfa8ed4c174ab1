use Rattle.std.proofs.Common.{◌<◌, length, refl, sym, ap, ◌∙◌, subst, arith}
use Rattle.std.specs.List.{AllByRecursion}
use Rattle.escrow_checks.specs.Contribution.{IsContribution}
use Rattle.escrow_bounds.specs.declared.sums.Sum.{Sum}
use Rattle.escrow_bounds.specs.Altered.{IsWithout}
use Rattle.escrow_bounds.specs.Inside.{place_of}
use Rattle.escrow_bounds.specs.Listed.{all_tracked, AreListed}
use Rattle.escrow_bounds.specs.Place.{Place, checks_of}
use Rattle.escrow_bounds.proofs.Forms.{values_at}
use Rattle.escrow_bounds.proofs.Altering.{all_without, is_without, place_without, tracked_without, values_without, remove_past}
use Rattle.escrow_bounds.proofs.Listing.{length-tracked}
use Rattle.escrow_bounds.proofs.place.Place.drop_check.Goals as goal

pub invariant_of-self : goal.invariant_of-self
invariant_of-self c =
    let old = place_of c.self.inside in
    let list = c.self.inside.list.value in
    let sums = c.self.inside.sums.items in
    let left = c.remove.new.self.items in
    let checks = tracked_without list sums left c.args.index c.remove.ensures.items in (
      place_without c.args.index old (record old { checks = all_tracked list left }) c.self.invariant.0 refl refl checks refl,
      c.remove-then-index-len.ensures.items ∙ values_without old.checks old.amounts c.self.inside.values.items c.args.index c.self.invariant.1
          ∙ ap (λ forms. values_at old.amounts (checks_of forms)) (sym checks),
      subst (AllByRecursion IsContribution) (sym c.remove-then-index-len.ensures.items) (all_without IsContribution c.self.inside.values.items c.args.index c.self.invariant.2),
      subst (AreListed list) (sym c.remove.ensures.items) (all_without (λ (sum : Sum). sum.check < length list) sums c.args.index c.self.invariant.3),
      c.self.invariant.4,
    )

pub returns-then-index-len : goal.returns-then-index-len
returns-then-index-len c =
    let old = place_of c.self.inside in
    let list = c.self.inside.list.value in
    let left = c.remove.new.self.items in
    let new : Place = record old { checks = all_tracked list left } in
    subst (λ (kept : Place). IsWithout c.args.index kept new) c.self.view_is
    (is_without c.args.index old new refl refl (tracked_without list c.self.inside.sums.items left c.args.index c.remove.ensures.items) refl)

pub returns-else-index-len : goal.returns-else-index-len
returns-else-index-len c =
    let old = place_of c.self.inside in
    let many = length-tracked c.self.inside.list.value c.self.inside.sums.items in
    subst (λ (kept : Place). IsWithout c.args.index kept kept) c.self.view_is
    (is_without c.args.index old old refl refl (sym (remove_past old.checks c.args.index (omega (arith, many, c.if-index-len.false, c.len.ensures)))) refl)
