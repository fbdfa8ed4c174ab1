use Rattle.std.proofs.Common.{ℤ, List, ◌++◌, length, refl, sym, ap, ◌∙◌, subst, arith}
use Rattle.std.specs.Vec.{with_items}
use Rattle.std.proofs.lemmas.List.{with_items_is}
use Rattle.escrow_checks.specs.declared.check.Check.{Check}
use Rattle.escrow_checks.specs.declared.spread.Spread.{Spread}
use Rattle.escrow_bounds.specs.declared.sums.Sum.{Sum}
use Rattle.escrow_bounds.specs.Counts.{Counts, HaveSums}
use Rattle.escrow_bounds.specs.Inside.{place_of}
use Rattle.escrow_bounds.specs.Listed.{all_tracked, AreListed, all_columns}
use Rattle.escrow_bounds.specs.Place.{Place}
use Rattle.escrow_bounds.specs.Recounting.{counted_before, AreRecounted, CanRecount, HasRoom, IsRecounted}
use Rattle.escrow_bounds.proofs.Forms.{values_at}
use Rattle.escrow_bounds.proofs.Kept.{lent, columns_fit, recountable, recounted, place_recounted}
use Rattle.escrow_bounds.proofs.Listing.{length-columns}
use Rattle.escrow_bounds.proofs.place.Place.recount.Goals as goal
use Rattle.escrow_bounds.proofs.place.Place.recount.Goals.{After-number-self-inside, After-self}

-- the reservations that the place counts beside the changes, and the room for these
counted : (c : After-self) → (before : List (List ℤ)) × (after : List (List ℤ)) × Counts (place_of c.self.inside) (counted_before c.args.counting before c.of-changes.result after) × HasRoom c.args.counting (before ++ after)
counted c =
    let can = subst (λ (kept : Place). CanRecount c.args.counting c.args.changes.now kept) (sym c.self.view_is) c.requires in
    recountable c.args.counting c.of-changes.result (place_of c.self.inside) c.self.invariant.0 (subst (λ (changes : List ℤ). CanRecount c.args.counting changes (place_of c.self.inside)) (sym c.of-changes.ensures) can)

pub recount-requires-clause-listed : goal.recount-requires-clause-listed
recount-requires-clause-listed c =
    subst (λ (list : List Check). AreListed list c.deref_mut.result.now) (sym (c.as_slice.ensures ∙ c.deref.ensures))
    (subst (AreListed c.self.inside.list.value) (sym c.deref_mut.ensures.value) c.self.invariant.3)

pub recount-requires-clause-counted : goal.recount-requires-clause-counted
recount-requires-clause-counted c =
    let known = counted (goal.at.recount-requires-clause-counted c).After-self in
    let counting = counted_before c.args.counting known.0 c.of-changes.result known.1 in (
      known.0,
      known.1,
      subst (λ (list : List Check). HaveSums (all_tracked list c.deref_mut.result.now) counting) (sym (c.as_slice.ensures ∙ c.deref.ensures))
          (subst (λ (sums : List Sum). HaveSums (all_tracked c.self.inside.list.value sums) counting) (sym c.deref_mut.ensures.value) known.2.1),
      known.3,
    )

pub recount_columns-requires-clause-few : goal.recount_columns-requires-clause-few
recount_columns-requires-clause-few c =
    let columns = c.self.inside.columns.items in
    omega (arith, ap length c.deref_mut-2.ensures.value, columns_fit (place_of c.self.inside) c.self.invariant.0, length-columns (length columns) 0 columns, c.self.invariant.4)

pub recount_columns-requires-clause-counted : goal.recount_columns-requires-clause-counted
recount_columns-requires-clause-counted c =
    let known = counted (goal.at.recount_columns-requires-clause-counted c).After-self in
    (known.0, known.1, subst (λ (columns : List Spread). HaveSums (all_columns columns) (counted_before c.args.counting known.0 c.of-changes.result known.1)) (sym c.deref_mut-2.ensures.value) known.2.2, known.3)

pub number-self-inside-requires : goal.number-self-inside-requires
number-self-inside-requires c =
    let known = counted (goal.at.number-self-inside-requires c).After-self in
    (known.0, c.of-changes.result, known.1, known.2.0, known.3)

-- the place after its fields are written
abbrev kept : (c : After-number-self-inside) → Place
kept c = record {
  amounts = (place_of c.self.inside).amounts;
  count = c.number-self-inside.result;
  checks = all_tracked c.self.inside.list.value (with_items c.self.inside.sums c.recount.new.sums).items;
  columns = all_columns (with_items c.self.inside.columns c.recount_columns.new.columns).items;
}

checks : (c : After-number-self-inside) → AreRecounted c.args.counting c.of-changes.result (place_of c.self.inside).checks (kept c).checks
checks c =
    let list = c.self.inside.list.value in
    let moved = subst (λ (cs : List Check). AreRecounted c.args.counting c.of-changes.result (all_tracked cs c.deref_mut.result.now) (all_tracked cs c.recount.new.sums)) (c.as_slice.ensures ∙ c.deref.ensures) c.recount.ensures.counted in
    lent (λ (old new : List Sum). AreRecounted c.args.counting c.of-changes.result (all_tracked list old) (all_tracked list new)) c.self.inside.sums c.deref_mut.result.now c.recount.new.sums c.deref_mut.ensures.value
    (omega (arith, c.recount.auto.sums, c.deref_mut.ensures.len)) moved

columns : (c : After-number-self-inside) → AreRecounted c.args.counting c.of-changes.result (place_of c.self.inside).columns (kept c).columns
columns c =
    lent (λ (old new : List Spread). AreRecounted c.args.counting c.of-changes.result (all_columns old) (all_columns new)) c.self.inside.columns c.deref_mut-2.result.now c.recount_columns.new.columns c.deref_mut-2.ensures.value
    (omega (arith, c.recount_columns.auto.columns, c.deref_mut-2.ensures.len)) c.recount_columns.ensures

listed_still : (c : After-number-self-inside) → AreListed c.self.inside.list.value (with_items c.self.inside.sums c.recount.new.sums).items
listed_still c =
    subst (AreListed c.self.inside.list.value) (sym (with_items_is c.self.inside.sums c.recount.new.sums (omega (arith, c.recount.auto.sums, c.deref_mut.ensures.len))))
    (subst (λ (list : List Check). AreListed list c.recount.new.sums) (c.as_slice.ensures ∙ c.deref.ensures) c.recount.ensures.listed)

is_recounted : (c : After-number-self-inside) → IsRecounted c.args.counting c.of-changes.result (place_of c.self.inside) (kept c)
is_recounted c = recounted c.args.counting c.of-changes.result (place_of c.self.inside) (kept c) refl c.number-self-inside.ensures (checks c) (columns c)

pub invariant_of-self : goal.invariant_of-self
invariant_of-self c =
    let known = counted (goal.at.invariant_of-self c).After-self in
    let at = (goal.at.invariant_of-self c).After-number-self-inside in (
      place_recounted c.args.counting c.of-changes.result known.0 known.1 (place_of c.self.inside) (kept at) c.self.invariant.0 known.2 (is_recounted at) (columns at).0,
      c.self.invariant.1 ∙ ap (values_at (place_of c.self.inside).amounts) (sym (checks at).0),
      c.self.invariant.2,
      listed_still at,
      c.self.invariant.4,
    )

pub returns : goal.returns
returns c =
    let at = (goal.at.returns c).After-number-self-inside in
    subst (λ (changes : List ℤ). IsRecounted c.args.counting changes c.args.self.now (kept at)) c.of-changes.ensures
    (subst (λ (old : Place). IsRecounted c.args.counting c.of-changes.result old (kept at)) c.self.view_is (is_recounted at))
