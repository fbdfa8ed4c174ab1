use Rattle.std.proofs.Common.{◌≤ℤ◌, subst, rules, tests}
use Rattle.std.specs.List.{AllByRecursion}
use Rattle.std.specs.Prelude.{◌≢◌}
use Rattle.std.proofs.lemmas.Bool.{not-true}
use Rattle.std.proofs.lemmas.Option.{IfSome_then}
use Rattle.escrow_schema.specs.declared.counted_table.CountedTable.{CountedTable}
use Rattle.escrow_tables.proofs.Numbers.{found_from, from_one, no_table_has}
use Rattle.escrow_tables.proofs.create.free_number.Goals as goal

pub returns : goal.returns
returns c =
    let tables = c.args.tables.now in
    let found = found_from (λ id. AllByRecursion (λ (t : CountedTable). t.stored.id ≢ id) tables) c.new.result _ _ c.find.result c.find.ensures.ran
    (λ x q k. no_table_has tables x (not-true _ (search (rules, tests)))) (λ x q k. search (rules, tests)) in
    IfSome_then c.find.result found (λ id k. (from_one id (subst (λ n. n ≤ℤ id) c.new.ensures.start k.0), k.1))
