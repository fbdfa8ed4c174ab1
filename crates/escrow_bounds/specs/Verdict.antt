-- Believed: the verdict on changes, from what they break.
use Rattle.std.specs.Prelude.{Option, Some, None}
use Rattle.escrow_num.specs.declared.refusal.Violation.{Violation}
use Rattle.escrow_bounds.specs.declared.verdict.Verdict.{Verdict}
use Rattle.escrow_bounds.specs.declared.verdict.Verdict.TheVariants as verdict

-- the verdict on changes that break this limit of a check, or no limit
abbrev pub verdict_of : Option Violation → Verdict
verdict_of None = verdict.Granted
verdict_of (Some v) = verdict.Broken v.check v.side v.worst v.limit
