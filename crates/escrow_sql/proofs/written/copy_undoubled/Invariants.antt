use Rattle.std.proofs.Common.{◌≡◌, ◌++◌, false}
use Rattle.std.specs.String.{string_bytes}
use Rattle.escrow_sql.specs.Scan.{undoubled}
use Rattle.escrow_sql.proofs.written.copy_undoubled.Given as goal

abbrev pub invariant-loop-c : goal.invariant-loop-c
invariant-loop-c l = string_bytes l.copy ++ undoubled l.behind l.c-iterator.rest.now ≡ undoubled false l.raw
