use Rattle.std.proofs.Common.{◌≡◌, get_or, arith}
use Rattle.std.proofs.lemmas.Str.{IsCharBoundary-after_ascii}
use Rattle.escrow_sql.proofs.lexer.read_piece.Goals as goal

pub range_from-requires : goal.range_from-requires
range_from-requires c = λ h.
    let e : get_or c.args.text.now c.args.at 0 ≡ 39 = cc in
    IsCharBoundary-after_ascii c.args.text.now c.args.at c.utf8.text c.requires (omega arith)
