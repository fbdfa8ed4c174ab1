use Rattle.escrow_checks.proofs.SpreadLemmas.{with_one, fall_more, rise_more}
use Rattle.escrow_checks.proofs.spread.Spread.with.Goals as goal

pub invariant_of-result : goal.invariant_of-result
invariant_of-result c =
    let fall = rw c.by_sign-fall.ensures.fall at c.plus.ensures in
    let rise = rw c.by_sign-fall.ensures.rise at c.plus-2.ensures in
    record {
      falls_within = rw fall (fall_more c.args.self c.args.contribution c.requires.room c.requires.within);
      rises_within = rw rise (rise_more c.args.self c.args.contribution c.requires.room c.requires.within);
    }

pub returns : goal.returns
returns c =
    let fall = rw c.by_sign-fall.ensures.fall at c.plus.ensures in
    let rise = rw c.by_sign-fall.ensures.rise at c.plus-2.ensures in
    record { added = λ coeffs before after changes known same. with_one coeffs before after changes c.args.self c.plus.result c.plus-2.result c.args.contribution c.requires.within same fall rise known }
