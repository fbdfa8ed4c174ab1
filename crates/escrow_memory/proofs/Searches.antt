-- The rows of a tree below a key come first.
use Rattle.std.proofs.Common.{◌≡◌, ℕ, zero, suc, ◌+◌, ◌-◌, ◌<◌, ◌≤◌, min, not, List, [], ◌∷◌, ◌++◌, length, take, drop, reverse, get_or, refl, ap, sym, ◌∙◌, arith, is_lt, is_gt, true≢false, drop-cons, add-one}
use Rattle.std.proofs.lemmas.List.{take_more, reverse-append}
use Rattle.sqlite_value.specs.Order.{Row}
use Rattle.sqlite_value.specs.declared.keys.Order.{Order}
use Rattle.sqlite_value.specs.Keys.{prefix_cmp}
use Rattle.sqlite_trees.proofs.ListLemmas.{ascending_weaker}
use Rattle.sqlite_trees.proofs.TreeLemmas.{AtMost, IsSortedTree, prefix_cmp_follows, not_true}
use Rattle.escrow_memory.specs.Rows.{IsCut}

pub cut_below_key : (order : Order) (key : Row) (rows : List Row) → IsSortedTree order rows → IsCut (λ e. is_lt (prefix_cmp order e key)) rows
cut_below_key order key = ascending_weaker (AtMost order) _ (λ a b below. (prefix_cmp_follows order key a b below).0)

pub cut_up_to_key : (order : Order) (key : Row) (rows : List Row) → IsSortedTree order rows → IsCut (λ e. not (is_gt (prefix_cmp order e key))) rows
cut_up_to_key order key = ascending_weaker (AtMost order) _ (λ a b below h.
    ap not (not_true _ (λ over. true≢false (sym h ∙ ap not ((prefix_cmp_follows order key a b below).1 over)))))

-- a cursor at the end has no row left
pub none_from : (rows : List Row) (at : ℕ) → length rows ≤ at → drop at rows ≡ []
none_from [] zero past = refl
none_from [] (suc at) past = refl
none_from (x ∷ rows) zero past = absurd (omega arith)
none_from (x ∷ rows) (suc at) past = none_from rows at (omega arith)

pub none_before : (rows : List Row) (at : ℕ) → min at (length rows) ≤ 0 → reverse (take at rows) ≡ []
none_before [] zero none = refl
none_before [] (suc at) none = refl
none_before (x ∷ rows) zero none = refl
none_before (x ∷ rows) (suc at) none = absurd (omega arith)

-- a cursor before the end has a next row
pub next_from : (rows : List Row) (at : ℕ) → at < length rows → drop at rows ≡ get_or rows at [] ∷ drop (at + 1) rows
next_from rows at within = drop-cons rows at [] within ∙ ap (λ k. get_or rows at [] ∷ drop k rows) (sym (add-one at))

take_none : (at : ℕ) → [] ≡ take {A = Row} at []
take_none zero = refl
take_none (suc at) = refl

take_min : (rows : List Row) (at : ℕ) → take at rows ≡ take (min at (length rows)) rows
take_min [] at = sym (take_none at) ∙ take_none (min at 0)
take_min (x ∷ rows) zero = let none : 0 ≡ min 0 (length (x ∷ rows)) = omega arith in ap (λ k. take k (x ∷ rows)) none
take_min (x ∷ rows) (suc at) =
    let one : suc (min at (length rows)) ≡ min (suc at) (length (x ∷ rows)) = omega arith in
    ap (λ l. x ∷ l) (take_min rows at) ∙ ap (λ k. take k (x ∷ rows)) one

pub next_before : (rows : List Row) (at : ℕ) → 0 < min at (length rows)
    → reverse (take at rows) ≡ get_or rows (min at (length rows) - 1) [] ∷ reverse (take (min at (length rows) - 1) rows)
next_before rows at some =
    let last = min at (length rows) - 1 in
    let same : min at (length rows) ≡ last + 1 = omega arith in
    let front : take at rows ≡ take last rows ++ get_or rows last [] ∷ [] = take_min rows at ∙ ap (λ k. take k rows) same ∙ take_more rows last [] (omega arith) in
    ap reverse front ∙ reverse-append (take last rows) (get_or rows last [] ∷ [])
