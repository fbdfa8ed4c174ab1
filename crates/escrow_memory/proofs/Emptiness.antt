-- A database whose list of objects is empty has no object.
use Rattle.std.proofs.Common.{◌≡◌, List, [], ◌∷◌, refl}
use Rattle.std.specs.List.{AllZip}
use Rattle.sqlite_schema.specs.declared.schema.Schema.{Schema}
use Rattle.sqlite_catalog.specs.Listing.{IsTableRow, IsIndexRow, IsViewRow, Lists}
use Rattle.escrow_memory.specs.Empty.{no_objects}

-- a list related to the empty list is empty
none_beside : {A B : Type 0} (R : A → B → Type 0) (ys : List B) → AllZip R [] ys → ys ≡ []
none_beside R [] all = refl
none_beside R (y ∷ ys) all = absurd all

pub lists_none : (schema : Schema) → Lists [] schema → schema ≡ no_objects
lists_none schema lists = λ i. record {
  tables = none_beside IsTableRow schema.tables lists.listed.tables i;
  indexes = none_beside (IsIndexRow schema.tables) schema.indexes lists.listed.indexes i;
  views = none_beside IsViewRow schema.views lists.listed.views i;
}
