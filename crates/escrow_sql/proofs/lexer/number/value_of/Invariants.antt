use Rattle.std.proofs.Common.{◌≡◌, ◌≤◌, drop}
use Rattle.std.specs.Prelude.{unsigned_abs}
use Rattle.escrow_num.specs.Amount.{number_after, number_of}
use Rattle.escrow_num.specs.declared.amount.TheConstants.Amount.{MAX}
use Rattle.escrow_sql.proofs.lexer.number.value_of.Given as goal

abbrev pub invariant-loop-digit : goal.invariant-loop-digit
invariant-loop-digit l = record { same : number_after l.value (drop l.digit-index l.digits) ≡ number_of l.digits; small : l.value ≤ unsigned_abs MAX }
