-- The values of a row, column by column.
use Rattle.std.proofs.Common.{inl, inr, ◌≡◌, ℕ, ℤ, zero, suc, ◌+◌, ◌<◌, ◌==◌, true, false, Some, None, List, [], ◌∷◌, ◌++◌, append_assoc, length, get_or, map, take, drop, refl, ap, subst}
use Rattle.std.specs.Prelude.{slice_get}
use Rattle.std.proofs.lemmas.Bool.Decides.{eqb_tells}
use Rattle.std.proofs.lemmas.List.{drop-drop}
use Rattle.std.proofs.lemmas.Option.{none-some, same_Some}
use Rattle.escrow_num.specs.declared.value.Value.{Value}
use Rattle.escrow_num.specs.declared.value.Value.TheVariants as value
use Rattle.escrow_schema.specs.declared.column.Column.{Column}
use Rattle.escrow_schema.specs.Fit.{values_from}
use Rattle.escrow_schema.proofs.ListLemmas.{drop_item}

-- the item at an index, and those from there on
pub item_from : {A : Type 0} (xs : List A) (i : ℕ) (x : A) → slice_get xs i ≡ Some x → take 1 (drop i xs) ≡ x ∷ []
item_from [] i x e = absurd (none-some x e)
item_from (y ∷ ys) zero x e = ap (λ z. z ∷ []) (same_Some y x e)
item_from (y ∷ ys) (suc i) x e = item_from ys i x e

pub none_from : {A : Type 0} (xs : List A) (i : ℕ) → slice_get xs i ≡ None → take 1 (drop i xs) ≡ []
none_from [] zero e = refl
none_from [] (suc i) e = refl
none_from (y ∷ ys) zero e = absurd (cc)
none_from (y ∷ ys) (suc i) e = none_from ys i e

same_place : (i at : ℕ) → i ≡ at → (i == at) ≡ true
same_place i at same = elim (eqb_tells i at) [ inl t ↦ t.0 | inr f ↦ absurd (f.1 same) ]

other_place : (i at : ℕ) → ¬ (i ≡ at) → (i == at) ≡ false
other_place i at apart = elim (eqb_tells i at) [ inl t ↦ absurd (apart t.1) | inr f ↦ f.0 ]

-- the values from a column on, if it is RESERVABLE, the key, or plain
pub amount_next : (columns : List Column) (i : ℕ) (column : Column) (at : ℕ) (key : Value) (amounts : List ℤ) (plain : List Value) (a p : ℕ) (done next whole : List Value)
    → i < length columns → column ≡ get_or columns i column → column.reservable ≡ true
    → done ++ values_from (drop i columns) i at key (drop a amounts) (drop p plain) ≡ whole
    → next ≡ done ++ map value.Number (take 1 (drop a amounts))
    → next ++ values_from (drop (i + 1) columns) (i + 1) at key (drop (a + 1) amounts) (drop p plain) ≡ whole
amount_next columns i column at key amounts plain a p done next whole within here r before more =
    let start : done ++ values_from (column ∷ drop (i + 1) columns) i at key (drop a amounts) (drop p plain) ≡ whole =
    subst (λ cs. done ++ values_from cs i at key (drop a amounts) (drop p plain) ≡ whole) (drop_item columns i column within here) before in
    let first : done ++ (map value.Number (take 1 (drop a amounts)) ++ values_from (drop (i + 1) columns) (i + 1) at key (drop 1 (drop a amounts)) (drop p plain)) ≡ whole = rw r at start in
    rw (more, append_assoc, ← drop-drop 1 a amounts) first

pub key_next : (columns : List Column) (i : ℕ) (column : Column) (at : ℕ) (key : Value) (amounts : List ℤ) (plain : List Value) (a p : ℕ) (done next whole : List Value)
    → i < length columns → column ≡ get_or columns i column → column.reservable ≡ false → i ≡ at
    → done ++ values_from (drop i columns) i at key (drop a amounts) (drop p plain) ≡ whole
    → next ≡ done ++ key ∷ []
    → next ++ values_from (drop (i + 1) columns) (i + 1) at key (drop a amounts) (drop p plain) ≡ whole
key_next columns i column at key amounts plain a p done next whole within here r same before more =
    let start : done ++ values_from (column ∷ drop (i + 1) columns) i at key (drop a amounts) (drop p plain) ≡ whole =
    subst (λ cs. done ++ values_from cs i at key (drop a amounts) (drop p plain) ≡ whole) (drop_item columns i column within here) before in
    let place : (i == at) ≡ true = subst (λ n. (i == n) ≡ true) same (same_place i i refl) in
    let first : done ++ (key ∷ values_from (drop (i + 1) columns) (i + 1) at key (drop a amounts) (drop p plain)) ≡ whole = rw (r, place) at start in
    rw (more, append_assoc) first

pub plain_next : (columns : List Column) (i : ℕ) (column : Column) (at : ℕ) (key : Value) (amounts : List ℤ) (plain : List Value) (a p : ℕ) (done next whole : List Value)
    → i < length columns → column ≡ get_or columns i column → column.reservable ≡ false → ¬ (i ≡ at)
    → done ++ values_from (drop i columns) i at key (drop a amounts) (drop p plain) ≡ whole
    → next ≡ done ++ take 1 (drop p plain)
    → next ++ values_from (drop (i + 1) columns) (i + 1) at key (drop a amounts) (drop (p + 1) plain) ≡ whole
plain_next columns i column at key amounts plain a p done next whole within here r apart before more =
    let start : done ++ values_from (column ∷ drop (i + 1) columns) i at key (drop a amounts) (drop p plain) ≡ whole =
    subst (λ cs. done ++ values_from cs i at key (drop a amounts) (drop p plain) ≡ whole) (drop_item columns i column within here) before in
    let place : (i == at) ≡ false = other_place i at apart in
    let first : done ++ (take 1 (drop p plain) ++ values_from (drop (i + 1) columns) (i + 1) at key (drop a amounts) (drop 1 (drop p plain))) ≡ whole = rw (r, place) at start in
    rw (more, append_assoc, ← drop-drop 1 p plain) first
