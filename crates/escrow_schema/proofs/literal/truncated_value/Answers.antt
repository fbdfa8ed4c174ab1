use Rattle.std.proofs.Common.{ℕ, ap, ◌∙◌, sym}
use Rattle.std.specs.Prelude.{option_map}
use Rattle.escrow_num.specs.Decimal.{units_at}
use Rattle.escrow_num.specs.declared.value.Value.TheVariants as value
use Rattle.escrow_schema.specs.Column.{value_at}
use Rattle.escrow_schema.proofs.KeyValues.{value_exact}
use Rattle.escrow_schema.proofs.literal.truncated_value.Goals as goal

pub returns-in-Some-clause-value : goal.returns-in-Some-clause-value
returns-in-Some-clause-value c =
    let units = ap (λ (s : ℕ). units_at s c.in-Number.number) (sym c.get.ensures.value) ∙ (sym c.at_scale.ensures ∙ c.in-Some.is) in
    value_exact c.args.scale c.args.literal.now (value.Number c.in-Some.units) (ap (value_at c.args.scale) c.in-Number.is ∙ ap (option_map value.Number) units)
