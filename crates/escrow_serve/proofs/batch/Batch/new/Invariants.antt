use Rattle.std.proofs.Common.{◌≡◌, ◌≤◌, ◌-◌, [], vec_len}
use Rattle.std.specs.Prelude.{vec_capacity}
use Rattle.std.specs.List.{AllByRecursion}
use Rattle.escrow_serve.specs.declared.part.Part.{Part}
use Rattle.escrow_serve.proofs.batch.Batch.new.Given as goal

-- there is room for the other parts, and nothing is requested
abbrev pub invariant-loop-parts : goal.invariant-loop-parts
invariant-loop-parts l = record {
  room : l.databases ≤ vec_capacity l.parts;
  len : vec_len l.parts ≤ l.databases;
  empty : AllByRecursion (λ (part : Part). part.events.items ≡ []) l.parts.items;
}

abbrev pub decreases-loop-parts : goal.decreases-loop-parts
decreases-loop-parts l = l.databases - vec_len l.parts
