use Rattle.std.proofs.Common.{◌≡◌}
use Rattle.std.specs.Prelude.{string_bytes}
use Rattle.escrow_server.specs.Drawing.{lines_text}
use Rattle.escrow_server.proofs.drawing.lines.Given as goal

-- the lines of the databases so far
abbrev pub invariant-loop-place : goal.invariant-loop-place
invariant-loop-place l = string_bytes l.text ≡ lines_text l.tallies l.place
