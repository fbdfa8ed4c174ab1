use Rattle.std.specs.Prelude.{◌≡◌, IfOk, List, length, remove}
use Rattle.std.proofs.Common.{◌∙◌, ap, arith, subst}
use Rattle.escrow_checks.specs.declared.check.Check.{Check}
use Rattle.escrow_schema.specs.Altered.{without_check_at}
use Rattle.escrow_schema.proofs.AlteredLemmas.{ok_without_check, place_within}
use Rattle.escrow_schema.proofs.altered.without_check_at.Goals as goal

pub remove-dropped-requires : goal.remove-dropped-requires
remove-dropped-requires c =
    let copied = c.into_vec-checks.ensures ∙ (c.in_ok-copy_all.ensures ∙ c.as_slice.ensures) in
    let there = place_within c.args.table.now c.args.place c.requires.table c.requires.declared in
    omega (arith, there, ap (λ (checks : List Check). length checks) copied)

-- the table with the remaining checks
made : (c : goal.After-with_checks) → IfOk c.with_checks.result (λ made. made ≡ without_check_at c.args.table.now c.args.place)
made c =
    let table = c.args.table.now in
    let copied = c.into_vec-checks.ensures ∙ (c.in_ok-copy_all.ensures ∙ c.as_slice.ensures) in
    let left = c.from_vec.ensures ∙ (c.remove-dropped.ensures.items ∙ ap (λ (checks : List Check). remove checks c.args.place) copied) in
    subst (λ (checks : List Check). IfOk c.with_checks.result (λ made. made ≡ record table { checks = checks })) left c.with_checks.ensures

pub returns-clause-made : goal.returns-clause-made
returns-clause-made c = made c

pub returns-clause-table : goal.returns-clause-table
returns-clause-table c = ok_without_check c.args.table.now c.args.place c.with_checks.result c.requires.table c.requires.declared (made c)
