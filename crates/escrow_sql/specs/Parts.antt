-- Helps: a part that a statement may repeat is never empty.
use Rattle.std.specs.Prelude.{◌≡◌, refl, false}
use Rattle.escrow_sql.specs.Predictive.{may_be_empty}
use Rattle.escrow_sql.specs.Statement.{sign, constraint, check, signed_term, mark}

pub signed_term-not_empty : may_be_empty signed_term ≡ false
unfolding signed_term sign
signed_term-not_empty = refl

pub mark-not_empty : may_be_empty mark ≡ false
unfolding mark check constraint
mark-not_empty = refl
