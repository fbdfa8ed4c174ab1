use Rattle.std.proofs.Common.{◌≡◌, ◌∙◌, true, sym, ap, subst}
use Rattle.escrow_schema.specs.Column.{reservables}
use Rattle.escrow_schema.specs.Definition.{are_columns}
use Rattle.escrow_schema.proofs.RuleLemmas.{can_range}
use Rattle.escrow_schema.proofs.definition.table_of.Goals as goal

pub declared_checks-requires : goal.declared_checks-requires
declared_checks-requires c =
    let follow : are_columns c.args.columns c.args.key ≡ true = subst (λ columns. are_columns columns c.args.key ≡ true) c.as_slice-2.ensures (sym c.in_ok-are_columns.ensures ∙ c.if-not-branch.false) in
    let same : c.as_slice-5.result.now ≡ reservables c.args.columns = c.as_slice-5.ensures.value ∙ (c.in_ok-reservable.ensures ∙ ap reservables c.as_slice.ensures) in
    can_range c.args.columns c.as_slice-5.result.now c.args.key follow c.requires same

pub table_with-requires-clause-range : goal.table_with-requires-clause-range
table_with-requires-clause-range c =
    let follow : are_columns c.args.columns c.args.key ≡ true = subst (λ columns. are_columns columns c.args.key ≡ true) c.as_slice-2.ensures (sym c.in_ok-are_columns.ensures ∙ c.if-not-branch.false) in
    let same : c.as_slice-in-Some.result.now ≡ reservables c.args.columns = c.as_slice-in-Some.ensures.value ∙ (c.in_ok-reservable.ensures ∙ ap reservables c.as_slice.ensures) in
    can_range c.args.columns c.as_slice-in-Some.result.now c.args.key follow c.requires same
