use Rattle.std.proofs.Common.{List, refl, subst}
use Rattle.std.specs.List.{AllByRecursion}
use Rattle.sqlite.specs.Held.{state}
use Rattle.escrow_machine.proofs.ValidEmpty.{opened_orderly, opened_safe}
use Rattle.escrow_schema.specs.declared.table.TableDef.{TableDef}
use Rattle.escrow_schema.specs.Rows.{MeetsChecks}
use Rattle.escrow_recover.proofs.OpenedLemmas.{definitions}
use Rattle.escrow_core.proofs.database.Database.open.Goals as goal

pub invariant_of-result : goal.invariant_of-result
invariant_of-result g c =
    let tables = c.over-tables.result in
    let found = c.args.found in
    rw (c.in-Ok.ensures, c.new-in-Ok.ensures) (record {
      keeps = record {
        kept = record {
          orderly = opened_orderly tables.catalog c.over-tables.ensures.valid;
          safe_rows = λ clean. opened_safe tables.catalog tables.rows (c.over-tables.ensures.are_rows clean)
              (let is = c.requires (rw c.over-tables.ensures.store at clean) in
              rw (c.over-tables.ensures.catalog, c.over-tables.ensures.rows is.0 is.1)
              (subst (λ (catalog : List TableDef). AllByRecursion (MeetsChecks catalog) is.0) (definitions found.catalog) is.1.store.meet));
        };
        placed = λ row. refl;
        of_tables = λ row place at. absurd (cc);
        amounts = λ _ row place at. absurd (cc);
      };
      known = λ name. tt;
      read = λ _ name. tt;
    })
