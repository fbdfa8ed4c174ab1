use Rattle.std.proofs.Common.{◌≡◌, ◌<◌, ℕ, ℤ, List, length, sym, ap, ◌∙◌, subst, arith}
use Rattle.escrow_checks.specs.declared.check.Check.{Check}
use Rattle.escrow_checks.specs.Extremes.{least, greatest}
use Rattle.escrow_checks.specs.Form.{IsCovered}
use Rattle.escrow_checks.specs.Spread.{IsSpread}
use Rattle.escrow_bounds.specs.Columns.{unit_form, column_check}
use Rattle.escrow_bounds.specs.Counts.{Counts}
use Rattle.escrow_bounds.specs.Inside.{place_of}
use Rattle.escrow_bounds.specs.Listed.{tracked_column}
use Rattle.escrow_bounds.specs.Place.{Place}
use Rattle.escrow_bounds.proofs.Kept.{columns_fit, inf_sup_is}
use Rattle.escrow_bounds.proofs.Listing.{column_here, length-columns}
use Rattle.escrow_bounds.proofs.place.Place.inf_sup.Goals as goal

pub index-spread-requires : goal.index-spread-requires
index-spread-requires c =
    let columns = c.self.inside.columns.items in
    let within : c.args.column < length c.self.inside.amounts.items = subst (λ (kept : Place). c.args.column < length kept.amounts) (sym c.self.view_is) c.requires in
    omega (arith, columns_fit (place_of c.self.inside) c.self.invariant.0, length-columns (length columns) 0 columns, within)

pub returns : goal.returns
returns c = λ reservations.
    let low = c.extremes.result.0 in
    let high = c.extremes.result.1 in
    let columns = c.self.inside.columns.items in
    let column = c.args.column in
    let n = length columns in
    let spread = c.index-spread.result.now in
    let amounts = c.deref.result.now in
    let within : column < length c.self.inside.amounts.items = subst (λ (kept : Place). column < length kept.amounts) (sym c.self.view_is) c.requires in
    let many : n ≡ length c.self.inside.amounts.items = sym (length-columns n 0 columns) ∙ columns_fit (place_of c.self.inside) c.self.invariant.0 in
    let below : column < n = omega (arith, many, within) in
    let is = column_here n columns column spread below c.index-spread.ensures in
    let len : c.len.result ≡ n = c.len.ensures ∙ sym c.deref.ensures.len ∙ ap length c.deref.ensures.value ∙ sym many in
    let read : c.column_check.result ≡ column_check n column = c.column_check.ensures ∙ ap (λ (k : ℕ). column_check k column) len in
    subst (λ (kept : Place). Counts kept reservations → (low ≡ least (unit_form (length kept.amounts) column) kept.amounts reservations) × (high ≡ greatest (unit_form (length kept.amounts) column) kept.amounts reservations))
    c.self.view_is
    (λ counts.
    inf_sup_is (place_of c.self.inside) column (tracked_column n column spread) amounts reservations low high c.self.invariant.0 within is c.deref.ensures.value counts
    (subst (λ (k : Check). (rs : List (List ℤ)) → IsCovered k.coeffs amounts → IsSpread k.coeffs rs spread → low ≡ least k.coeffs amounts rs) read c.extremes.ensures.least)
    (subst (λ (k : Check). (rs : List (List ℤ)) → IsCovered k.coeffs amounts → IsSpread k.coeffs rs spread → high ≡ greatest k.coeffs amounts rs) read c.extremes.ensures.greatest))
