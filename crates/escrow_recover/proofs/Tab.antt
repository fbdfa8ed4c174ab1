-- What the parts of a row of TAB say about the table that it may describe.
use Rattle.std.proofs.Common.{◌≡◌, ℕ, ℤ, pos, negsuc, int_le, true, false, Result, Ok, Err, List, sym, ap, ◌∙◌, subst, arith, bytes_eq}
use Rattle.std.specs.Prelude.{◌≢◌, int_lt}
use Rattle.std.specs.Result.{IsErrAnd}
use Rattle.std.specs.Str.{IsUtf8}
use Rattle.std.proofs.lemmas.Bool.{both_ways, false≢true}
use Rattle.std.proofs.lemmas.Bool.Decides.{nat_tests}
use Rattle.sqlite_value.specs.Order.{Row as SqlRow}
use Rattle.escrow_num.proofs.Orders.{same_name}
use Rattle.escrow_schema.specs.declared.table.TableDef.{TableDef}
use Rattle.escrow_schema.specs.Definition.{IsTable}
use Rattle.escrow_schema.specs.Print.{canonical}
use Rattle.escrow_schema.proofs.PrintBack.{sound_of}
use Rattle.escrow_recover.proofs.PrintText.{canonical_text, name_text}
use Rattle.escrow_rows.specs.Image.{tab_row}
use Rattle.escrow_recover.specs.Tabs.{Defines, IsTab, tab_with}
use Rattle.escrow_recover.proofs.Only.{defined_by, one_definition}

-- an error that is passed on is the error of the call
pub passed_on : {X Y E : Type 0} (r : Result X E) (call : Result Y E) (why e : E) → IsErrAnd r (λ y. y ≡ why) → call ≡ Err why → r ≡ Err e → call ≡ Err e
passed_on (Ok x) call why e is was told = absurd is
passed_on (Err y) call why e is was told = was ∙ ap Err (sym is) ∙ (cc)

-- a row of TAB has a number, a name and a text, the last two in UTF-8
pub tab_parts : (row : SqlRow) → ((id : ℤ) (name text : List ℕ) → IsUtf8 name → IsUtf8 text → row ≢ tab_with id name text) → IsTab row → ⊥
tab_parts row none (s, can, is) = none s.id s.table.name (canonical s.table) (name_text s.table.name (sound_of s.table can.defined).name) (canonical_text s.table can.defined) is

module _ (row : SqlRow) (id : ℤ) (name text : List ℕ) (read : row ≡ tab_with id name text) where
  -- the number is at least 1
  pub numbered : IsTab row → int_le (pos 1) id ≡ true
  numbered (s, can, is) =
      let both : tab_with id name text ≡ tab_row s = sym read ∙ is in
      let same : s.id ≡ id = cc in
      subst (λ (n : ℤ). int_le (pos 1) n ≡ true) same can.from_one

  -- the name is that of the table with this canonical text
  pub named : (table : TableDef) → IsTable table → text ≡ canonical table → IsTab row → name ≡ table.name
  named table defined printed (s, can, is) =
      let both : tab_with id name text ≡ tab_row s = sym read ∙ is in
      let texts : text ≡ canonical s.table = cc in
      let names : name ≡ s.table.name = cc in
      names ∙ ap (λ (t : TableDef). t.name) (one_definition text s.table table (defined_by text s.table can.defined texts) (defined_by text table defined printed))

-- if a text is the canonical text of any table, it equals the canonical text of the table it defines
pub printed_so : (text printed : List ℕ) (table : TableDef) → Defines text table → printed ≡ canonical table → (other : TableDef) → IsTable other → text ≡ canonical other → printed ≡ text
printed_so text printed table defines is other defined canon =
    is ∙ ap canonical (one_definition text table other defines (defined_by text other defined canon)) ∙ sym canon

-- if the comparison finds two texts different, they are different
pub same_texts : (a b : List ℕ) → a ≡ b → bytes_eq a b ≡ false → ⊥
same_texts a b same apart = both_ways (bytes_eq a b) apart (subst (λ (t : List ℕ). bytes_eq a t ≡ true) same (same_name a))

-- a number that is at least 1 is not below 1
pub not_below : (id : ℤ) → int_lt id (pos 1) ≡ true → int_le (pos 1) id ≡ true → ⊥
not_below (pos n) below above = absurd (grind (arith, nat_tests))
not_below (negsuc n) below above = absurd (false≢true above)
