-- Among rows in order, at most one has a given name.
use Rattle.std.proofs.Common.{◌≡◌, true, false, List, [], ◌∷◌, filter, refl, ap, sym, ◌∙◌, subst, inl, inr}
use Rattle.std.specs.Prelude.{option_to_list}
use Rattle.std.specs.Ordering.{is_lt}
use Rattle.std.proofs.lemmas.Bool.{cases_Bool, false≢true}
use Rattle.sqlite_trees.proofs.ListLemmas.{all_weaker, filter_none}
use Rattle.escrow_num.specs.declared.row.Row.{Row}
use Rattle.escrow_num.specs.declared.value.RowName.{RowName}
use Rattle.escrow_num.specs.Ascending.{IsAscending}
use Rattle.escrow_num.specs.Order.{row_cmp, same_row}
use Rattle.escrow_num.proofs.Orders.{before_itself, by_row, row_same, row_total}
use Rattle.escrow_schema.specs.Rows.{row_named, row_before}

-- a row that comes after another has another name
later_apart : (a b : Row) (name : RowName) → a.name ≡ name → row_before a b ≡ true → same_row b.name name ≡ false
later_apart a b name e before =
    elim (cases_Bool (same_row b.name name)) [
      | inl t ↦ absurd (false≢true (sym (before_itself by_row row_total a) ∙ subst (λ (n : RowName). is_lt (row_cmp a.name n) ≡ true) (row_same b.name name t ∙ sym e) before))
      | inr f ↦ f
    ]

-- the rows with a name are the one that the name finds
pub rows_named : (rows : List Row) (name : RowName) → IsAscending row_before rows → filter (λ row. same_row row.name name) rows ≡ option_to_list (row_named rows name)
rows_named [] name up = refl
rows_named (r ∷ rows) name up =
    elim (cases_Bool (same_row r.name name)) [
      | inl t ↦ rw t (ap (λ others. r ∷ others) (filter_none (λ row. same_row row.name name) rows (all_weaker (λ b. row_before r b ≡ true) (λ b. same_row b.name name ≡ false) (λ b before. later_apart r b name (row_same r.name name t) before) rows up.0)))
      | inr f ↦ rw f (rows_named rows name up.1)
    ]
