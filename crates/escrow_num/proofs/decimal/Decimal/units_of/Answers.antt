use Rattle.std.proofs.Common.{ℕ, pos, ap, ◌∙◌}
use Rattle.escrow_num.proofs.DecimalLemmas.{divides, units-of, units-past}
use Rattle.escrow_num.proofs.decimal.Decimal.units_of.Goals as goal

pub nonzero_rem-self-inside : goal.nonzero_rem-self-inside
nonzero_rem-self-inside c = divides c.self.inside.millionths c.from-unit.result c.args.scale c.self.invariant (c.from-unit.ensures ∙ ap (λ (n : ℕ). pos n) c.unit.ensures.value)

pub nonzero_div-self-inside : goal.nonzero_div-self-inside
nonzero_div-self-inside c = divides c.self.inside.millionths c.from-unit.result c.args.scale c.self.invariant (c.from-unit.ensures ∙ ap (λ (n : ℕ). pos n) c.unit.ensures.value)

pub returns-in-Ok : goal.returns-in-Ok
returns-in-Ok c =
    rw (← c.self.view_is)
    (units-of c.args.scale c.self.inside.millionths c.from-unit.result c.in-Ok.units c.new.result c.self.invariant (c.from-unit.ensures ∙ ap (λ (n : ℕ). pos n) c.unit.ensures.value)
    c.unit.ensures.within c.if-self-unit-ne0.false c.in-Ok.ensures.0 c.in-Ok.ensures.1 c.new.ensures)

pub returns-in-Err : goal.returns-in-Err
returns-in-Err c =
    rw (← c.self.view_is) (units-past c.args.scale c.self.inside.millionths c.from-unit.result c.self.invariant (c.from-unit.ensures ∙ ap (λ (n : ℕ). pos n) c.unit.ensures.value) c.in-Err.ensures)
