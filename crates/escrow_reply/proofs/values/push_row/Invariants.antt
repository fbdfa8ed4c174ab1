use Rattle.std.proofs.Common.{◌≡◌, List, ℕ, ◌++◌, drop, flat_map}
use Rattle.escrow_reply.specs.Text.{bar, value_texts}
use Rattle.escrow_reply.proofs.values.push_row.Given as goal

abbrev pub invariant-loop-place : goal.invariant-loop-place
invariant-loop-place l = l.line.items ++ flat_map (λ (text : List ℕ). bar ++ text) (value_texts l.headings l.place (drop l.place l.values))
    ≡ l.initial.line.items ++ flat_map (λ (text : List ℕ). bar ++ text) (value_texts l.headings 1 (drop 1 l.values))
