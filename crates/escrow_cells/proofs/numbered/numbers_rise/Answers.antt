use Rattle.std.proofs.Common.{[], None, true, refl, ap, rules}
use Rattle.escrow_cells.specs.declared.numbered.Numbers.{Numbers}
use Rattle.escrow_cells.proofs.numbered.numbers_rise.Goals as goal

pub returns-clause-rise : goal.returns-clause-rise
returns-clause-rise g c clean has =
    let fresh : Numbers = record { last = None; rise = true } in
    let taken = c.in_ok-read_each.ensures.taken clean has fresh [] refl in
    (taken.0, search (rules, taken.1), ap (λ (n : Numbers). n.rise) taken.2)
