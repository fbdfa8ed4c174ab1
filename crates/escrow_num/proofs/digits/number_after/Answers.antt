use Rattle.std.proofs.Common.{arith}
use Rattle.escrow_num.specs.Amount.{number_after}
use Rattle.escrow_num.proofs.DigitLemmas.{number-past}
use Rattle.escrow_num.proofs.digits.number_after.Goals as goal

pub returns-then-number : goal.returns-then-number
returns-then-number c small =
    number-past c.args.digits.now c.loop-digit.digit-index c.loop-digit.number (number_after c.args.start c.args.digits.now) (omega (arith, c.loop-digit-test.true)) c.loop-digit.invariant.same (omega (arith, c.if-number.true, c.from.ensures, c.saturating_sub.ensures)) small
