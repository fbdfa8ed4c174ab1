use Rattle.std.specs.Prelude.{◌≡◌, ℕ, List, Some, Result, Ok, Err, IfOk}
use Rattle.escrow_statement.specs.declared.statement.CheckText.{CheckText}
use Rattle.escrow_checks.specs.declared.check.Check.{Check}
use Rattle.escrow_checks.specs.declared.fault.CheckFault.{CheckFault}
use Rattle.escrow_checks.specs.Checks.{checks_of}
use Rattle.escrow_checks.specs.Meaning.{MeanTheSame}
use Rattle.escrow_checks.proofs.ConditionLemmas.{mean_the_same}
use Rattle.escrow_checks.proofs.condition.normalise.Goals as goal

-- the checks that are found mean what the CHECKs say
found_mean : (columns : List (List ℕ)) (scales : List ℕ) (texts : List CheckText) (r : Result (List Check) CheckFault)
    → IfOk r (λ checks. checks_of columns scales texts ≡ Some checks) → IfOk r (MeanTheSame columns scales texts)
found_mean columns scales texts (Ok checks) found = mean_the_same columns scales texts checks found
found_mean columns scales texts (Err fault) found = tt

pub returns-clause-meaning : goal.returns-clause-meaning
returns-clause-meaning c = found_mean c.args.columns.now c.args.scales.now _ c.normalise_behind.result c.normalise_behind.ensures.ok
