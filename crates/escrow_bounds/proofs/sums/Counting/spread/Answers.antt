use Rattle.std.proofs.Common.{◌++◌}
use Rattle.escrow_bounds.proofs.sums.Counting.spread.Goals as goal

pub with-requires-clause-room : goal.with-requires-clause-room
with-requires-clause-room c =
    let known = rw c.in-In.is at c.requires.counted in
    (known.0, known.1 ++ known.3, known.4, known.6)

pub without-requires : goal.without-requires
without-requires c =
    let known = rw c.in-Out.is at c.requires.counted in
    record { contained = (known.0, known.1, known.2, known.3, known.4, known.5) }

pub returns-in-In : goal.returns-in-In
returns-in-In c = rw c.in-In.is (λ coeffs before changes after known same. c.with.ensures.added coeffs before after changes known same)

pub returns-in-Out : goal.returns-in-Out
returns-in-Out c = rw c.in-Out.is (λ coeffs before changes after known same. c.without.ensures.removed coeffs before after changes known same)
