-- Values, each with its place.
use Rattle.std.proofs.Common.{◌≡◌, ℕ, ℤ, zero, suc, pos, ◌+◌, ◌<◌, ◌≤◌, Ordering, Less, int_cmp, List, [], ◌∷◌, ◌++◌, map, length, length-append, take, get_or, refl, ap, ap₂, sym, ◌∙◌, arith}
use Rattle.std.specs.List.{AllByRecursion}
use Rattle.std.specs.Ordering.{on}
use Rattle.std.specs.Cmp.{IsTotalOrder, int_cmp_is}
use Rattle.std.proofs.lemmas.Cmp.{on_total}
use Rattle.std.proofs.lemmas.Int.{ints}
use Rattle.std.proofs.lemmas.List.{take_more}
use Rattle.sqlite_value.specs.declared.value.Value.TheVariants as sql
use Rattle.sqlite_value.specs.Order.{Row as SqlRow, column, value_cmp}
use Rattle.sqlite_value.proofs.OrderLemmas.{value_cmp-Int, value_cmp_total}
use Rattle.sqlite_trees.specs.Tree.{IsAscending as Rises}
use Rattle.escrow_num.specs.declared.value.Value.{Value}
use Rattle.escrow_num.specs.declared.value.Value.TheVariants.{Number, Text}
use Rattle.escrow_rows.specs.Image.{stored, cells_from}
use Rattle.escrow_rows.specs.Placed.{placed}

-- values that are stored as the same value are the same
pub stored_same : (a b : Value) → stored a ≡ stored b → a ≡ b
stored_same (Number a) (Number b) e = cc
stored_same (Number a) (Text b) e = absurd (cc)
stored_same (Text a) (Number b) e = absurd (cc)
stored_same (Text a) (Text b) e = cc

pub length-placed : (place : ℕ) (vs : List Value) → length (placed place vs) ≡ length vs
length-placed place [] = refl
length-placed place (v ∷ vs) = let rest = length-placed (place + 1) vs in omega arith

-- one more value at the end
pub placed-push : (place : ℕ) (vs : List Value) (v : Value) → placed place (vs ++ v ∷ []) ≡ placed place vs ++ (sql.Int (pos (place + length vs)) ∷ stored v ∷ []) ∷ []
placed-push place [] v = ap (λ (n : ℕ). (sql.Int (pos n) ∷ stored v ∷ []) ∷ []) (omega arith)
placed-push place (w ∷ vs) v =
    ap (λ cells. (sql.Int (pos place) ∷ stored w ∷ []) ∷ cells) (placed-push (place + 1) vs v
    ∙ ap (λ (n : ℕ). placed (place + 1) vs ++ (sql.Int (pos n) ∷ stored v ∷ []) ∷ []) (omega arith))

-- the order of the cells of a row: by place
abbrev pub place_cmp : SqlRow → SqlRow → Ordering
place_cmp = on (λ r. column r 0) value_cmp

pub place_cmp_total : IsTotalOrder place_cmp
place_cmp_total = on_total (λ (r : SqlRow). column r 0) value_cmp_total

pub later_place : (m n : ℕ) → m < n → int_cmp (pos m) (pos n) ≡ Less
later_place m n h = sym (int_cmp_is (pos m) (pos n) Less (omega (arith, ints)))

-- what holds of all cells from a place on holds of the cells of these values
pub placed_all : (P : SqlRow → Type 0) (from place : ℕ) → ((n : ℕ) (v : Value) → from ≤ n → P (sql.Int (pos n) ∷ stored v ∷ [])) → (vs : List Value) → from ≤ place → AllByRecursion P (placed place vs)
placed_all P from place each [] h = tt
placed_all P from place each (v ∷ vs) h = (each place v h, placed_all P from (place + 1) each vs (omega arith))

-- the cells of values are ascending
pub placed_rise : (place : ℕ) (vs : List Value) → Rises (λ a b. place_cmp a b ≡ Less) (placed place vs)
placed_rise place [] = tt
placed_rise place (v ∷ vs) = (
  placed_all (λ cell. place_cmp (sql.Int (pos place) ∷ stored v ∷ []) cell ≡ Less) (place + 1) (place + 1)
      (λ n w h. value_cmp-Int (pos place) (pos n) ∙ later_place place n (omega arith)) vs (omega arith),
  placed_rise (place + 1) vs,
)

-- the cell at a place
pub get_placed : (place i : ℕ) (vs : List Value) (cell : SqlRow) (v : Value) → i < length vs → get_or (placed place vs) i cell ≡ sql.Int (pos (place + i)) ∷ stored (get_or vs i v) ∷ []
get_placed place i [] cell v h = absurd (omega arith)
get_placed place zero (w ∷ vs) cell v h = ap (λ (n : ℕ). sql.Int (pos n) ∷ stored w ∷ []) (omega arith)
get_placed place (suc i) (w ∷ vs) cell v h = get_placed (place + 1) i vs cell v (omega arith) ∙ ap (λ (n : ℕ). sql.Int (pos n) ∷ stored (get_or vs i v) ∷ []) (omega arith)

-- a cell, given by its place and value
abbrev pub in_place : SqlRow → SqlRow
in_place c = column c 2 ∷ column c 3 ∷ []

-- the cells of values are those values with their places
pub cells_placed : (id : ℤ) (key : Value) (place : ℕ) (vs : List Value) → map in_place (cells_from id key (pos place) vs) ≡ placed place vs
cells_placed id key place [] = refl
cells_placed id key place (v ∷ vs) = ap (λ cells. (sql.Int (pos place) ∷ stored v ∷ []) ∷ cells) (cells_placed id key (place + 1) vs)

-- one more cell is read
pub placed_more : (cells : List SqlRow) (values new : List Value) (i : ℕ) (cell : SqlRow) (v : Value) → i < length cells → cell ≡ get_or cells i cell
    → take i cells ≡ placed 1 values → length values ≡ i → cell ≡ sql.Int (pos (i + 1)) ∷ stored v ∷ [] → new ≡ values ++ v ∷ []
    → (take (i + 1) cells ≡ placed 1 new) × (length new ≡ i + 1)
placed_more cells values new i cell v within at before many is added =
    let all : take (i + 1) cells ≡ take i cells ++ cell ∷ [] = take_more cells i cell within ∙ ap (λ c. take i cells ++ c ∷ []) (sym at) in
    let here : cell ≡ sql.Int (pos (1 + length values)) ∷ stored v ∷ [] = is ∙ ap (λ (n : ℕ). sql.Int (pos n) ∷ stored v ∷ []) (omega arith) in
    let length_is : length new ≡ length (values ++ v ∷ []) = ap length added in (
      all ∙ ap₂ (λ (done : List SqlRow) (c : SqlRow). done ++ c ∷ []) before here ∙ sym (placed-push 1 values v) ∙ ap (placed 1) (sym added),
      omega (arith, length-append values (v ∷ [])),
    )
