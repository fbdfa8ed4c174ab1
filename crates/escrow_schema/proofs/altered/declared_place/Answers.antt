use Rattle.std.specs.Prelude.{bytes_eq, position, List}
use Rattle.std.proofs.Common.{◌∙◌, ap}
use Rattle.escrow_checks.specs.declared.check.Check.{Check}
use Rattle.escrow_schema.proofs.AlteredLemmas.{place_declared}
use Rattle.escrow_schema.proofs.altered.declared_place.Goals as goal

pub returns-clause-declared : goal.returns-clause-declared
returns-clause-declared c =
    place_declared c.args.table.now c.args.name c.place_among.result
    (c.place_among.ensures ∙ ap (λ (checks : List Check). position (λ check. bytes_eq check.name c.args.name) checks) c.declared_checks.ensures)
