use Rattle.std.proofs.Common.{◌≡◌, ◌-◌, List, length, map, drop, take, refl, ◌∙◌, ap, ap₂}
use Rattle.escrow_bounds.specs.Place.{Place}
use Rattle.escrow_schema.specs.declared.column.Column.{Column}
use Rattle.escrow_schema.specs.Column.{names_of, reservables}
use Rattle.escrow_schema.specs.Print.{declared_checks}
use Rattle.escrow_machine.specs.declared.reply.CheckBounds.{CheckBounds}
use Rattle.escrow_machine.specs.declared.reply.ColumnBounds.{ColumnBounds}
use Rattle.escrow_machine.specs.declared.reply.Reply.TheVariants as reply
use Rattle.escrow_machine.specs.Bounds.{check_bounds, column_bounds}
use Rattle.escrow_machine.proofs.BoundsLemmas.{columns_same, split, shown_checks, shown_columns}
use Rattle.std.specs.Prelude.{option_map}
use Rattle.escrow_reserved.proofs.Places.{some_same}
use Rattle.escrow_reserved.proofs.shown_bounds.row_bounds.Goals as goal

pub returns : goal.returns
returns c = λ place reservations at counts.
    let table = c.args.table.now in
    let amounts = place.amounts in
    let of_table = c.requires.of_table place at in
    let kept : c.unwrap-amounts.result.now ≡ amounts = some_same ((rw c.unwrap-amounts.ensures at c.amounts.ensures) ∙ ap (option_map (λ (p : Place). p.amounts)) at) in
    let is : c.in_ok-all.all ≡ map (check_bounds amounts reservations) table.checks =
    c.in_ok-all.ensures.shown place reservations at counts ∙ ap (map (check_bounds amounts reservations)) c.as_slice.ensures in
    let n = c.len.result - length c.unwrap-amounts.result.now in
    let at_n : n ≡ length table.checks - length amounts = rw (c.len.ensures, kept) refl in
    let s = split table amounts c.requires.table of_table.amounts in
    let names : c.as_slice-4.result.now ≡ names_of (reservables table.columns) =
    c.as_slice-4.ensures.value ∙ c.in_ok-names.ensures ∙ ap (λ (columns : List Column). names_of (reservables columns)) c.as_slice-3.ensures in
    let ranges : c.split_at.result.1.now ≡ drop n (map (check_bounds amounts reservations) table.checks) = c.split_at.ensures.back ∙ ap (drop n) (c.as_slice-2.ensures ∙ is) in
    let columns : c.in_ok-all_column_bounds.field-0 ≡ map (column_bounds (names_of (reservables table.columns)) amounts reservations) (reservables table.columns) =
    c.in_ok-all_column_bounds.ensures ∙ columns_same names kept ranges ∙ shown_columns table amounts reservations n of_table.amounts s at_n in
    let checks : c.in_ok-copy_all.field-0 ≡ map (check_bounds amounts reservations) (declared_checks table) =
    c.in_ok-copy_all.ensures ∙ c.split_at.ensures.front ∙ ap (take n) (c.as_slice-2.ensures ∙ is) ∙ shown_checks table amounts reservations n s at_n in
    ap₂ (λ (cs : List ColumnBounds) (ks : List CheckBounds). reply.Bounds cs ks) columns checks
