use Rattle.std.specs.Prelude.{string_bytes}
use Rattle.escrow_server.specs.Program.{AreLinesOf}
use Rattle.escrow_server.proofs.program.migrated_text.Given as goal

-- the text is the lines about stores that had the previous format
abbrev pub invariant-loop-place : goal.invariant-loop-place
invariant-loop-place l = AreLinesOf l.path (string_bytes l.text)
