use Rattle.std.proofs.Common.{◌≡◌, false, map, get_or, refl, ap, ◌∙◌, arith}
use Rattle.std.proofs.lemmas.List.FromFn.{get_or-map-range_with_len}
use Rattle.std.specs.List.{range_with_len}
use Rattle.escrow_sql.specs.Lex.{goes_on}
use Rattle.escrow_sql.specs.declared.lexer.name.TheConstants.{GOES_ON}
use Rattle.escrow_sql.proofs.lexer.name.goes_on.Goals as goal

table_is : GOES_ON ≡ map goes_on (range_with_len 0 256)
table_is = refl

pub returns : goal.returns
returns c =
    ap (λ n. get_or GOES_ON n false) c.from.ensures
    ∙ (ap (λ t. get_or t c.args.byte false) table_is ∙ get_or-map-range_with_len goes_on 0 256 c.args.byte c.args.byte false (omega arith) (omega arith))
