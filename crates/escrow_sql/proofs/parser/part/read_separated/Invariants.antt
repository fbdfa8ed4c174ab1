use Rattle.std.proofs.Common.{◌≡◌, length}
use Rattle.escrow_sql.specs.Cursor.{bare}
use Rattle.escrow_sql.specs.Predictive.{run}
use Rattle.escrow_sql.specs.Statement.{separated}
use Rattle.escrow_sql.proofs.Reading.{with_front}
use Rattle.escrow_sql.proofs.parser.part.read_separated.Given as goal

abbrev pub invariant-parts : goal.invariant-parts
invariant-parts g l =
    with_front l.parts (run (separated (bare l.separator) g.P.Part.grammar) l.cursor.tokens.now)
    ≡ run (separated (bare l.fn.separator) g.P.Part.grammar) l.fn.cursor.tokens.now

abbrev pub decreases-parts : goal.decreases-parts
decreases-parts g l = length l.cursor.tokens.now
