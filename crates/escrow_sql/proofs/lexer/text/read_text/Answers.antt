use Rattle.std.proofs.Common.{rules}
use Rattle.escrow_sql.proofs.TextLemmas.{open_text, forbidden_text, whole_text}
use Rattle.escrow_sql.proofs.lexer.text.read_text.Goals as goal

pub returns-in_default : goal.returns-in_default
returns-in_default c = open_text c.args.body.now (search rules)

pub returns-in-Some-forbidden_place : goal.returns-in-Some-forbidden_place
returns-in-Some-forbidden_place c = forbidden_text c.args.body.now c.in-Some.len _ (search rules) (search rules)

pub returns : goal.returns
returns c = rw c.text.ensures (whole_text c.args.body.now _ c.in-Some.len (search rules) (search rules) (search rules))
