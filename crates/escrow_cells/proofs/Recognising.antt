-- The first items of a list, and the schema that these tables form.
use Rattle.std.proofs.Common.{◌≡◌, ◌↔◌, ◌≤◌, ◌<◌, List, [], ◌∷◌, length, get_or, sym, ap, ◌∙◌, arith}
use Rattle.sqlite_schema.specs.declared.schema.Schema.{Schema}
use Rattle.sqlite_schema.specs.declared.schema.Table.{Table}
use Rattle.escrow_cells.specs.Store.{HasTables}
use Rattle.escrow_cells.specs.Tables.{meta, tab, cell}

-- the one item of a list
pub only_item : {A : Type 0} (xs : List A) (x : A) → 1 ≤ length xs → length xs < 2 → x ≡ get_or xs 0 x → xs ≡ x ∷ []
only_item [] x low high at = absurd (omega (arith, low))
only_item (y ∷ []) x low high at = ap (λ z. z ∷ []) (sym at)
only_item (y ∷ z ∷ xs) x low high at = absurd (omega (arith, high))

module _ (schema : Schema) (first second third : Table) where
  -- the tables of a schema whose first tables are the three
  pub three_tables : (tables : List Table) → tables ≡ schema.tables → 3 ≤ length tables → first ≡ get_or tables 0 first → second ≡ get_or tables 1 second → third ≡ get_or tables 2 third
      → (first ≡ meta) × (second ≡ tab) × (third ≡ cell) ↔ HasTables schema
  three_tables [] are low one two three = absurd (omega (arith, low))
  three_tables (x ∷ []) are low one two three = absurd (omega (arith, low))
  three_tables (x ∷ y ∷ []) are low one two three = absurd (omega (arith, low))
  three_tables (x ∷ y ∷ z ∷ more) are low one two three = (λ is. there is, back)
    where
      there : (first ≡ meta) × (second ≡ tab) × (third ≡ cell) → HasTables schema
      there is =
          let begin : x ∷ y ∷ z ∷ more ≡ meta ∷ tab ∷ cell ∷ more = ap (λ t. t ∷ y ∷ z ∷ more) (sym one ∙ is.0) ∙ ap (λ t. meta ∷ t ∷ z ∷ more) (sym two ∙ is.1) ∙ ap (λ t. meta ∷ tab ∷ t ∷ more) (sym three ∙ is.2) in
          record {
            more = more;
            indexes = schema.indexes;
            views = schema.views;
            is = ap (λ ts. record { tables = ts; indexes = schema.indexes; views = schema.views }) (sym are ∙ begin);
          }

      back : HasTables schema → (first ≡ meta) × (second ≡ tab) × (third ≡ cell)
      back has =
          let same : x ∷ y ∷ z ∷ more ≡ meta ∷ tab ∷ cell ∷ has.more = are ∙ ap (λ s. s.tables) has.is in
          (one ∙ ap (λ ts. get_or ts 0 x) same, two ∙ ap (λ ts. get_or ts 1 y) same, three ∙ ap (λ ts. get_or ts 2 z) same)
