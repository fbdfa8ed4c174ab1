use Rattle.std.proofs.Common.{◌↔◌, drop}
use Rattle.std.specs.List.{AllByRecursion}
use Rattle.escrow_shards.specs.Pass.{IsPassOf}
use Rattle.escrow_shards.proofs.close.passes.are_passes_of.Given as goal

abbrev pub invariant-loop-pass : goal.invariant-loop-pass
invariant-loop-pass l = AllByRecursion (IsPassOf l.databases l.sessions) (drop l.pass-index l.passes) ↔ AllByRecursion (IsPassOf l.databases l.sessions) l.passes
