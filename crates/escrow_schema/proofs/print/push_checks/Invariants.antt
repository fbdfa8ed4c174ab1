use Rattle.std.proofs.Common.{◌≡◌, ◌++◌, drop, map, codes, string_bytes}
use Rattle.std.specs.List.{flat_map}
use Rattle.escrow_schema.specs.Print.{check_words}
use Rattle.escrow_schema.proofs.print.push_checks.Given as goal

abbrev pub invariant-loop-check : goal.invariant-loop-check
invariant-loop-check l =
    string_bytes l.text ++ flat_map (λ words. codes ", " ++ words) (map (check_words l.names l.scales) (drop l.check-index l.checks))
    ≡ string_bytes l.initial.text ++ flat_map (λ words. codes ", " ++ words) (map (check_words l.names l.scales) l.checks)
