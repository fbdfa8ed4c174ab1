use Rattle.std.specs.Prelude.{◌≤◌, List, length}
use Rattle.std.proofs.Common.{◌∙◌, ap, subst, sym}
use Rattle.escrow_checks.specs.declared.check.Check.{Check}
use Rattle.escrow_checks.specs.declared.condition.TheConstants.{MAX_CHECKS}
use Rattle.escrow_schema.specs.Column.{reservables}
use Rattle.escrow_schema.proofs.AlteredLemmas.{made_with, ok_with_check}
use Rattle.escrow_schema.proofs.PrintBack.{sound_of}
use Rattle.escrow_schema.proofs.RuleLemmas.{table_can_range}
use Rattle.escrow_schema.proofs.altered.with_check.Goals as goal

pub checks_behind-requires-clause-declared : goal.checks_behind-requires-clause-declared
checks_behind-requires-clause-declared c =
    subst (λ (checks : List Check). length checks ≤ MAX_CHECKS) (sym c.declared_checks-declared.ensures) (sound_of c.args.table.now c.requires).few

pub checks_behind-requires-clause-range : goal.checks_behind-requires-clause-range
checks_behind-requires-clause-range c =
    let copied = c.as_slice-2.ensures ∙ (c.in_ok-columns.ensures ∙ c.as_slice.ensures) in
    table_can_range c.args.table.now c.as_slice-3.result.now c.requires (c.as_slice-3.ensures.value ∙ (c.in_ok-reservable.ensures ∙ ap reservables copied))

pub table_with-requires-clause-range : goal.table_with-requires-clause-range
table_with-requires-clause-range c =
    let copied = c.as_slice-2.ensures ∙ (c.in_ok-columns.ensures ∙ c.as_slice.ensures) in
    table_can_range c.args.table.now c.as_slice-in-Some.result.now c.requires (c.as_slice-in-Some.ensures.value ∙ (c.in_ok-reservable.ensures ∙ ap reservables copied))

pub returns-in-Some-clause-made : goal.returns-in-Some-clause-made
returns-in-Some-clause-made c =
    let columns = c.in_ok-columns.ensures ∙ c.as_slice.ensures in
    let reserved = c.as_slice-3.ensures.value ∙ (c.in_ok-reservable.ensures ∙ ap reservables (c.as_slice-2.ensures ∙ columns)) in
    made_with c.args.table.now c.args.text.now _ _ _ c.in-Some.written c.table_with.result columns reserved c.declared_checks-declared.ensures
    (sym c.in-Some.is ∙ c.in_ok-written.ensures) c.table_with.ensures

pub returns-in-Some-clause-table : goal.returns-in-Some-clause-table
returns-in-Some-clause-table c =
    let columns = c.in_ok-columns.ensures ∙ c.as_slice.ensures in
    let reserved = c.as_slice-3.ensures.value ∙ (c.in_ok-reservable.ensures ∙ ap reservables (c.as_slice-2.ensures ∙ columns)) in
    let made = made_with c.args.table.now c.args.text.now _ _ _ c.in-Some.written c.table_with.result columns reserved c.declared_checks-declared.ensures
    (sym c.in-Some.is ∙ c.in_ok-written.ensures) c.table_with.ensures in
    ok_with_check c.args.table.now c.args.text.now c.table_with.result c.requires made
