use Rattle.std.proofs.Common.{length, drop, ◌-◌, ◌≡◌, ◌≤◌}
use Rattle.escrow_sql.specs.Scan.{tokens_from}
use Rattle.escrow_sql.proofs.TokenLemmas.{after}
use Rattle.escrow_sql.specs.declared.lexer.TheConstants.{MAX_TEXT}
use Rattle.escrow_sql.proofs.lexer.lexemes.Given as goal

abbrev pub invariant-loop-at : goal.invariant-loop-at
invariant-loop-at l = record { within : l.at ≤ length l.text; short : length l.text ≤ MAX_TEXT; same : after l.lexemes (tokens_from 0 l.at (drop l.at l.text)) ≡ tokens_from 0 0 l.text }

abbrev pub decreases-loop-at : goal.decreases-loop-at
decreases-loop-at l = length l.text - l.at
