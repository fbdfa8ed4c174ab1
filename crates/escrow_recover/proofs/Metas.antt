-- What META says once it is read.
use Rattle.std.proofs.Common.{◌≡◌, ℤ, List, [], ◌∷◌, refl, sym, ap, ◌∙◌, subst, IsPermutation}
use Rattle.std.proofs.lemmas.List.Sorted.{IsPermutation-sym}
use Rattle.sqlite_value.specs.Order.{Row as SqlRow}
use Rattle.sqlite.proofs.Callers.{one_permutation}
use Rattle.sqlite.specs.Effect.{Database}
use Rattle.escrow_cells.specs.Read.{Takes}
use Rattle.escrow_cells.specs.Store.{IsStoreSchema, format, metas}
use Rattle.escrow_recover.specs.declared.format.Meta.{Meta}
use Rattle.escrow_recover.specs.declared.format.Meta.TheVariants.{Empty, Format, Other}
use Rattle.escrow_recover.specs.Format.{IsMetaOf, format_row}
use Rattle.escrow_recover.specs.Stored.{HasFormatBut}

-- META is read, starting from nothing
abbrev pub IsRead : Database → Meta → Type 0
IsRead db meta = Takes (λ (first last : Meta) (rows : List SqlRow). first ≡ Empty → IsMetaOf last rows) (IsPermutation (metas db)) Empty meta

told : (db : Database) (meta : Meta) → IsRead db meta → (rows : List SqlRow) × IsPermutation (metas db) rows × IsMetaOf meta rows
told db meta read = let taken = read Empty [] (λ e. refl) in (taken.0, taken.1, taken.2 refl)

one_row : (db : Database) (rows : List SqlRow) (row : SqlRow) → IsPermutation (metas db) rows → rows ≡ row ∷ [] → metas db ≡ row ∷ []
one_row db rows row same is = one_permutation row (metas db) (subst (λ (rs : List SqlRow). IsPermutation rs (metas db)) is (IsPermutation-sym (metas db) rows same))

-- META has one row, with the number of a format
pub format_told : (db : Database) (number : ℤ) (meta : Meta) → meta ≡ Format number → IsRead db meta → metas db ≡ format_row number ∷ []
format_told db number meta is read =
    let found = told db meta read in
    one_row db found.0 (format_row number) found.1 (subst (λ (m : Meta). IsMetaOf m found.0) is found.2)

-- META has any other content
pub none_told : (db : Database) (number : ℤ) (meta : Meta) → IsRead db meta → metas db ≡ format_row number ∷ [] → meta ≡ Format number
none_told db number meta read is =
    let found = told db meta read in
    at meta found.0 (one_permutation (format_row number) found.0 (subst (λ (rs : List SqlRow). IsPermutation rs found.0) is found.1)) found.2
  where
    at : (m : Meta) (rows : List SqlRow) → rows ≡ format_row number ∷ [] → IsMetaOf m rows → m ≡ Format number
    at Empty rows one none = absurd (cc)
    at (Format other) rows one h = let same : other ≡ number = cc in ap Format same
    at Other rows one h = absurd (h.1 number one)

-- META has the number of another format
pub other_format : (db : Database) (number known : ℤ) → IsStoreSchema db.schema → ¬ (number ≡ known) → metas db ≡ format_row number ∷ [] → HasFormatBut known db
other_format db number known has other is = record { number = number; other = other; has = record { schema = has; format_is = is } }

-- META names only one number
pub one_format : (db : Database) (a b : ℤ) → metas db ≡ format a → metas db ≡ format b → a ≡ b
one_format db a b first second =
    let rows : format a ≡ format b = sym first ∙ second in
    cc

-- the known format is not another one
pub not_other : (db : Database) (known : ℤ) → metas db ≡ format known → HasFormatBut known db → ⊥
not_other db known is h = h.other (one_format db h.number known h.has.format_is is)
