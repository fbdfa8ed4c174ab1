use Rattle.escrow_checks.proofs.SpreadLemmas.{without_one, fall_less, rise_less}
use Rattle.escrow_checks.proofs.spread.Spread.without.Goals as goal

pub invariant_of-result : goal.invariant_of-result
invariant_of-result c =
    let s = c.args.self in
    let z = c.args.contribution in
    record {
      falls_within = rw (rw c.by_sign-fall.ensures.fall at c.minus.ensures) (fall_less s z c.requires.contained s.falls_within);
      rises_within = rw (rw c.by_sign-fall.ensures.rise at c.minus-2.ensures) (rise_less s z c.requires.contained s.rises_within);
    }

pub returns : goal.returns
returns c =
    let fall = rw c.by_sign-fall.ensures.fall at c.minus.ensures in
    let rise = rw c.by_sign-fall.ensures.rise at c.minus-2.ensures in
    record { removed = λ coeffs before after changes known same. without_one coeffs before after changes c.args.self c.minus.result c.minus-2.result c.args.contribution same fall rise known }
