use Rattle.std.proofs.Common.{◌<◌, arith}
use Rattle.std.specs.Prelude.{unsigned_abs}
use Rattle.std.proofs.lemmas.Int.{ints}
use Rattle.escrow_num.specs.Amount.{number_of}
use Rattle.escrow_num.specs.declared.amount.TheConstants.Amount.{MAX}
use Rattle.escrow_sql.proofs.NumberLemmas.{past_limit}
use Rattle.escrow_sql.proofs.lexer.number.value_of.Goals as goal

pub returns-then-value : goal.returns-then-value
returns-then-value c = λ amount.
    let past : unsigned_abs MAX < number_of c.args.digits.now =
    past_limit (unsigned_abs MAX) c.loop-digit.value c.loop-digit.digit-index c.args.digits.now (omega arith) (omega arith) c.loop-digit.invariant.same in
    omega (arith, ints, amount)
