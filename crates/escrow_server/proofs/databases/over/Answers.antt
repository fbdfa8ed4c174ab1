use Rattle.std.proofs.Common.{◌∙◌, ap, ap₂, List, [], refl, subst, sym, inl, inr}
use Rattle.std.specs.Prelude.{IsTrue}
use Rattle.sqlite.specs.Held.{Held, state}
use Rattle.escrow_machine.specs.State.{opened}
use Rattle.sqlite.specs.State.{HasCleanDisk}
use Rattle.escrow_num.specs.declared.row.Row.{Row}
use Rattle.escrow_schema.specs.declared.counted_table.CountedTable.{CountedTable}
use Rattle.escrow_schema.specs.Stored.{catalog_of}
use Rattle.escrow_recover.specs.Migrated.{HoldsInFormat1}
use Rattle.escrow_recover.specs.Opened.{Stores}
use Rattle.escrow_recover.proofs.OpenedLemmas.{stores_holds, stores_rows}
use Rattle.escrow_server.specs.Program.{StartsAs}
use Rattle.escrow_server.proofs.FoundLemmas.{bare_or, held_either}
use Rattle.escrow_server.proofs.databases.over.Goals as goal

pub returns-in-Ok-open-clause-found : goal.returns-in-Ok-open-clause-found
returns-in-Ok-open-clause-found g c = λ used.
    let clean = subst (λ (h : Held g.row.S.Denot). HasCleanDisk (state g.S.Store h)) c.in-Ok-open.ensures.store used in
    let was = state g.S.Store c.args.connection in
    let is = c.in-Ok.opened in
    let now = state g.S.Store is.store in
    elim (bare_or was.now.schema) [
      | inl none ↦
          let made = c.in-Ok.ensures.made none in
          let stores = subst (λ (ts : List CountedTable). Stores now ts []) (sym made.0) (made.1 clean) in
          inl (none, c.in-Ok-open.ensures.state ∙ ap₂ opened (ap catalog_of made.0) (c.in-Ok-open.ensures.rows [] stores))
      | inr other ↦
          let it = c.in-Ok.ensures.store clean in
          let rows = it.0 in
          let held = stores_holds now is.catalog rows it.1 in
          let before : IsTrue is.migrated → HoldsInFormat1 (catalog_of is.catalog) rows was.now = λ migrated.
          let from = c.in-Ok.ensures.migrated clean migrated in
          subst (λ (rs : List Row). HoldsInFormat1 (catalog_of is.catalog) rs was.now) (sym (stores_rows now is.catalog from.0 from.1) ∙ stores_rows now is.catalog rows it.1) from.2 in
          let found = held_either (opened (catalog_of is.catalog) rows) was.now now.now is.migrated held (c.in-Ok.ensures.found (clean, it.1.is_open) other) before in
          let state_is = c.in-Ok-open.ensures.state ∙ ap (opened (catalog_of is.catalog)) (c.in-Ok-open.ensures.rows rows it.1) in
          subst (StartsAs was.now) (sym state_is) (inr (found, refl))
    ]

pub returns-in-Ok-open-clause-usable : goal.returns-in-Ok-open-clause-usable
returns-in-Ok-open-clause-usable g c = λ used.
    let clean = subst (λ (h : Held g.row.S.Denot). HasCleanDisk (state g.S.Store h)) c.in-Ok-open.ensures.store used in
    c.in-Ok.ensures.usable_opened (clean, (c.in-Ok.ensures.store clean).1.is_open)
