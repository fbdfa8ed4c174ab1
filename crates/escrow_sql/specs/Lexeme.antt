-- Helps: what was scanned of a text, as a piece. The contracts of public calls use Lex instead.
use Rattle.escrow_sql.specs.declared.lexer.piece.Piece.{Piece}
use Rattle.escrow_sql.specs.declared.lexer.piece.Piece.TheVariants as piece
use Rattle.escrow_sql.specs.declared.lexer.scan.Scan.{Scan}
use Rattle.escrow_sql.specs.declared.lexer.scan.Scan.TheVariants as scan

-- what was scanned, as a piece
abbrev pub piece_of_scan : Scan → Piece
piece_of_scan (scan.Blank len) = piece.Blank len
piece_of_scan (scan.Lexeme k len) = piece.Token k len
piece_of_scan (scan.Fault place) = piece.Fault place
