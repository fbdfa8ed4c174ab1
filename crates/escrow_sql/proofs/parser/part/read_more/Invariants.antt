use Rattle.std.proofs.Common.{◌≡◌, ◌++◌, length}
use Rattle.escrow_sql.specs.Grammar.{many}
use Rattle.escrow_sql.specs.Predictive.{run}
use Rattle.escrow_sql.proofs.parser.part.read_more.Given as goal

abbrev pub invariant-parts : goal.invariant-parts
invariant-parts g l = run (many g.P.Part.grammar (λ xs. l.parts ++ xs)) l.cursor.tokens.now ≡ run (many g.P.Part.grammar (λ xs. l.fn.parts ++ xs)) l.fn.cursor.tokens.now

abbrev pub decreases-parts : goal.decreases-parts
decreases-parts g l = length l.cursor.tokens.now
