use Rattle.std.proofs.Common.{◌≡◌, ◌++◌, drop, string_bytes}
use Rattle.escrow_statement.specs.Joined.{joined}
use Rattle.escrow_schema.specs.Print.{columns_words}
use Rattle.escrow_schema.proofs.PrintLemmas.{joined_from}
use Rattle.escrow_schema.proofs.print.push_columns.Given as goal

abbrev pub invariant-loop-place : goal.invariant-loop-place
invariant-loop-place l =
    string_bytes l.text ++ joined_from l.place (columns_words (drop l.place l.columns) l.place l.key)
    ≡ string_bytes l.initial.text ++ joined (columns_words l.columns 0 l.key)
