use Rattle.std.proofs.Common.{arith, sym}
use Rattle.escrow_script.proofs.LineLemmas.{all_read, no_digit, one_read, too_long}
use Rattle.escrow_script.proofs.line.number_of.Goals as goal

pub returns-then-not-is_ascii_digit : goal.returns-then-not-is_ascii_digit
returns-then-not-is_ascii_digit c =
    no_digit c.args.digits.now c.loop-digit.digit-index c.loop-digit-test.true (sym c.if-not-is_ascii_digit.ensures.value)

pub returns-in_err-checked_mul : goal.returns-in_err-checked_mul
returns-in_err-checked_mul c =
    rw c.from_residual.ensures
    (too_long c.args.digits.now c.loop-digit.digit-index c.loop-digit.number c.loop-digit-test.true (sym c.if-not-is_ascii_digit.ensures.value) (omega (arith, c.in_err-checked_mul.ensures)) c.loop-digit.invariant)

pub returns-in_err-number : goal.returns-in_err-number
returns-in_err-number c =
    rw c.from_residual-in_err-number.ensures
    (too_long c.args.digits.now c.loop-digit.digit-index c.loop-digit.number c.loop-digit-test.true (sym c.if-not-is_ascii_digit.ensures.value) (omega (arith, c.in_err-number.ensures, c.in_ok-checked_mul.ensures.1, c.from.ensures)) c.loop-digit.invariant)

pub loop-digit-preserved : goal.loop-digit-preserved
loop-digit-preserved c =
    one_read c.args.digits.now c.loop-digit.digit-index c.loop-digit.number c.in_ok-number.number c.loop-digit-test.true (sym c.if-not-is_ascii_digit.ensures.value)
    (omega (arith, c.in_ok-number.ensures.1, c.in_ok-checked_mul.ensures.1, c.from.ensures)) (omega (arith, c.in_ok-number.ensures.0, c.in_ok-number.ensures.1)) c.loop-digit.invariant

pub returns : goal.returns
returns c = all_read c.args.digits.now c.loop-digit.digit-index c.loop-digit.number (omega (arith, c.loop-digit-test.false)) c.loop-digit.invariant
