-- New values written to the cells of a row.
use Rattle.std.proofs.Common.{◌≡◌, ℤ, pos, ◌+ℤ◌, ◌∙◌, true, false, Option, Some, None, List, [], ◌∷◌, map, map-id, refl, sym, ap, ap₂, arith}
use Rattle.std.specs.Prelude.{option_map, unwrap_or, ◌<ℤ◌}
use Rattle.std.proofs.lemmas.Bool.{and_left, and_right, false_from_ne_true}
use Rattle.std.proofs.lemmas.Bool.Decides.{Decides-int_eq}
use Rattle.std.proofs.lemmas.Int.{ints}
use Rattle.std.proofs.lemmas.Simd.{map-map}
use Rattle.sqlite_value.specs.declared.value.Value.{Value as Sql}
use Rattle.sqlite_value.specs.declared.value.Value.TheVariants as sql
use Rattle.sqlite_value.specs.Order.{Row as SqlRow, column}
use Rattle.escrow_num.specs.declared.value.Value.{Value}
use Rattle.escrow_num.proofs.Orders.{same_value}
use Rattle.escrow_cells.specs.Step.{Contents, same, is_of, is_at}
use Rattle.escrow_schema.specs.Rows.{replaced}
use Rattle.escrow_rows.specs.Image.{stored, cells_from}
use Rattle.escrow_rows.specs.Inside.{on_cells, put_value, put_values}
use Rattle.escrow_rows.proofs.Same.{same_numbers, same_stored}

-- without a new value, the contents are unchanged
pub no_value : (id : ℤ) (key : Sql) (place : ℤ) (c : Contents) → on_cells (put_value id key place None) c ≡ c
no_value id key place c = ap (λ (cells : List SqlRow). record c { cells = cells }) (map-id c.cells)

-- a cell at another place is unchanged
put_apart : (id : ℤ) (key : Sql) (place : ℤ) (new : Option Sql) (cell : SqlRow)
    → is_at (sql.Int id) key (sql.Int place) cell ≡ false → put_value id key place new cell ≡ cell
put_apart id key place None cell e = refl
put_apart id key place (Some v) cell e = rw e refl

-- a cell of another row is unchanged
pub puts_apart : (id : ℤ) (key : Sql) (place : ℤ) (news : List (Option Value)) (cell : SqlRow)
    → is_of (sql.Int id) key cell ≡ false → put_values id key place news cell ≡ cell
puts_apart id key place [] cell e = refl
puts_apart id key place (new ∷ news) cell e =
    ap (put_values id key (place +ℤ pos 1) news)
    (put_apart id key place (option_map stored new) cell (and_left (is_of (sql.Int id) key cell) (same (column cell 2) (sql.Int place)) e))
    ∙ puts_apart id key (place +ℤ pos 1) news cell e

-- SQLite finds different numbers different
places_apart : (p q : ℤ) → ¬ (p ≡ q) → same (sql.Int p) (sql.Int q) ≡ false
places_apart p q apart = same_numbers p q ∙ false_from_ne_true _ (λ e. apart ((Decides-int_eq p q).0 e))

-- SQLite finds a number equal to itself, and so each value
itself : (p : ℤ) → same (sql.Int p) (sql.Int p) ≡ true
itself p = same_numbers p p ∙ (Decides-int_eq p p).1 refl

stored_itself : (k : Value) → same (stored k) (stored k) ≡ true
stored_itself k = same_stored k k ∙ same_value k

-- new values for later places leave a cell unchanged
puts_later : (id : ℤ) (key : Sql) (place : ℤ) (news : List (Option Value)) (a b v : Sql) (q : ℤ)
    → q <ℤ place → put_values id key place news (a ∷ b ∷ sql.Int q ∷ v ∷ []) ≡ a ∷ b ∷ sql.Int q ∷ v ∷ []
puts_later id key place [] a b v q before = refl
puts_later id key place (new ∷ news) a b v q before =
    let cell = a ∷ b ∷ sql.Int q ∷ v ∷ [] in
    ap (put_values id key (place +ℤ pos 1) news)
    (put_apart id key place (option_map stored new) cell
    (and_right (is_of (sql.Int id) key cell) (same (sql.Int q) (sql.Int place)) (places_apart q place (λ e. omega (arith, ints)))))
    ∙ puts_later id key (place +ℤ pos 1) news a b v q (omega (arith, ints))

-- a new value for an earlier place leaves cells unchanged
put_earlier : (id : ℤ) (key : Sql) (place : ℤ) (new : Option Sql) (other : ℤ) (k : Value) (q : ℤ) (vs : List Value)
    → place <ℤ q → map (put_value id key place new) (cells_from other k q vs) ≡ cells_from other k q vs
put_earlier id key place new other k q [] after = refl
put_earlier id key place new other k q (v ∷ vs) after =
    let cell = sql.Int other ∷ stored k ∷ sql.Int q ∷ stored v ∷ [] in
    ap₂ (λ (c : SqlRow) (cs : List SqlRow). c ∷ cs)
    (put_apart id key place new cell
    (and_right (is_of (sql.Int id) key cell) (same (sql.Int q) (sql.Int place)) (places_apart q place (λ e. omega (arith, ints)))))
    (put_earlier id key place new other k (q +ℤ pos 1) vs (omega (arith, ints)))

-- a cell takes its new value
put_here : (id : ℤ) (k : Value) (place : ℤ) (new : Option Value) (v : Value)
    → put_value id (stored k) place (option_map stored new) (sql.Int id ∷ stored k ∷ sql.Int place ∷ stored v ∷ []) ≡ sql.Int id ∷ stored k ∷ sql.Int place ∷ stored (unwrap_or new v) ∷ []
put_here id k place None v = refl
put_here id k place (Some w) v = rw (itself id, stored_itself k, itself place) refl

-- THE CELLS OF A ROW: the cells of the replaced values are the old cells with the new values written to them
pub replaced_cells : (id : ℤ) (k : Value) (place : ℤ) (news : List (Option Value)) (vs : List Value)
    → cells_from id k place (replaced news vs) ≡ map (put_values id (stored k) place news) (cells_from id k place vs)
replaced_cells id k place [] vs = sym (map-id (cells_from id k place vs))
replaced_cells id k place (new ∷ news) [] = refl
replaced_cells id k place (new ∷ news) (v ∷ vs) =
    let next = place +ℤ pos 1 in
    let one = put_value id (stored k) place (option_map stored new) in
    let rest = put_values id (stored k) next news in
    let more = cells_from id k next vs in
    ap₂ (λ (c : SqlRow) (cs : List SqlRow). c ∷ cs)
    (sym (ap rest (put_here id k place new v) ∙ puts_later id (stored k) next news (sql.Int id) (stored k) (stored (unwrap_or new v)) place (omega (arith, ints))))
    (replaced_cells id k next news vs ∙ sym (sym (map-map rest one more) ∙ ap (map rest) (put_earlier id (stored k) place (option_map stored new) id k next vs (omega (arith, ints)))))
