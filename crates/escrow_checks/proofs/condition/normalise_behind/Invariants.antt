use Rattle.std.proofs.Common.{◌≤◌, length, map}
use Rattle.escrow_checks.specs.declared.condition.TheConstants.{MAX_CHECKS}
use Rattle.escrow_checks.proofs.FoundLemmas.{IsFound}
use Rattle.escrow_checks.proofs.condition.normalise_behind.Given as goal

abbrev pub invariant-loop-text : goal.invariant-loop-text
invariant-loop-text l = record {
  rest : IsFound l.columns l.scales l.declared (map (λ text. text.now) l.texts) l.text-index l.checks;
  within : length l.checks ≤ MAX_CHECKS;
}
