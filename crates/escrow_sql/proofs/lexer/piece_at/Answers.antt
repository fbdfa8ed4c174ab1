use Rattle.escrow_sql.specs.Lexeme.{piece_of_scan}
use Rattle.escrow_sql.proofs.PieceLemmas.{read_within}
use Rattle.escrow_sql.proofs.lexer.piece_at.Goals as goal

pub returns-clause-within : goal.returns-clause-within
returns-clause-within c = read_within (piece_of_scan c.read_piece.result) c.args.text.now c.args.at c.requires c.read_piece.ensures
