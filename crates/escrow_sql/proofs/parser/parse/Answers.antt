use Rattle.std.proofs.Common.{subst, sym}
use Rattle.escrow_sql.specs.Parser.{IsFaultColumn}
use Rattle.escrow_sql.specs.Factored.{factored_request}
use Rattle.escrow_sql.proofs.ParseLemmas.{column_fits, asked, asked_same, not_asked, fault_column}
use Rattle.escrow_sql.proofs.parser.parse.Goals as goal

pub column_of-requires : goal.column_of-requires
column_of-requires c =
    column_fits factored_request c.args.text.now c.in_ok-tokens.tokens c.as_slice.result.now c.whole.new.self.tokens.now c.in_ok-tokens.ensures.found c.as_slice.ensures
    (rw c.in-Err-Syntax.field-0-is at c.in-Err-Syntax.ensures)

pub returns-in-Ok-clause-found : goal.returns-in-Ok-clause-found
returns-in-Ok-clause-found c =
    asked c.args.text.now c.in_ok-tokens.tokens c.as_slice.result.now c.in-Ok.request c.in_ok-tokens.ensures.found c.as_slice.ensures c.in-Ok.ensures

pub returns-in-Ok-clause-only : goal.returns-in-Ok-clause-only
returns-in-Ok-clause-only c = λ r a.
    asked_same c.args.text.now c.in_ok-tokens.tokens c.as_slice.result.now c.in-Ok.request r c.in_ok-tokens.ensures.found c.as_slice.ensures c.in-Ok.ensures a

pub returns-clause-only : goal.returns-clause-only
returns-clause-only c = λ r a.
    absurd (not_asked c.args.text.now c.in_ok-tokens.tokens c.as_slice.result.now c.whole.new.self.tokens.now r c.in_ok-tokens.ensures.found c.as_slice.ensures
    (rw c.in-Err-Syntax.field-0-is at c.in-Err-Syntax.ensures) a)

pub returns-clause-fault : goal.returns-clause-fault
returns-clause-fault c =
    subst (IsFaultColumn c.args.text.now) (sym c.column_of.ensures)
    (fault_column c.args.text.now c.in_ok-tokens.tokens c.as_slice.result.now c.whole.new.self.tokens.now c.in_ok-tokens.ensures.found c.as_slice.ensures
    (rw c.in-Err-Syntax.field-0-is at c.in-Err-Syntax.ensures))
