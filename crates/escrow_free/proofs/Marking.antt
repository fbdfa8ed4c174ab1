-- Steps of the loops over outboxes, marks and items.
use Rattle.std.proofs.Common.{◌≡◌, ℕ, zero, suc, ◌+◌, ◌<◌, ◌≤◌, Bool, true, if◌then◌else◌, List, [], ◌∷◌, ◌++◌, length, map, take, drop, set, get_or, refl, sym, ap, ap₂, subst, ◌∙◌, append_assoc, arith}
use Rattle.std.specs.List.{AllByRecursion, AllZip}
use Rattle.std.proofs.lemmas.List.{append-nil, drop_more, drop_all, take_all, take_more_set, drop-set-lt}
use Rattle.escrow_statement.specs.declared.statement.Request.{Request}
use Rattle.escrow_sessions.proofs.AtOnce.{zip_by}
use Rattle.escrow_free.specs.Ranks.{marked_by, ranks_from}
use Rattle.escrow_free.specs.declared.outbox.Outbox.{Outbox}

-- the remaining items, one step later
drop_next : {A : Type 0} (xs : List A) (i : ℕ) (x : A) → i < length xs → x ≡ get_or xs i x → drop i xs ≡ x ∷ drop (i + 1) xs
drop_next xs i x within same = drop_more xs i x within ∙ ap (λ y. y ∷ drop (i + 1) xs) (sym same)

-- one more item marks its outbox
pub marked_more : (items : List (ℕ × Request)) (i : ℕ) (item : ℕ × Request) (marks all : List Bool) → i < length items → item ≡ get_or items i item
    → marked_by (drop i items) marks ≡ all → marked_by (drop (i + 1) items) (set marks item.0 true) ≡ all
marked_more items i item marks all within same so_far = sym (ap (λ (xs : List (ℕ × Request)). marked_by xs marks) (drop_next items i item within same)) ∙ so_far

-- one more outbox has its rank
pub ranked_more : (marks : List Bool) (i n : ℕ) (mark : Bool) (ranks all : List ℕ) → i < length marks → mark ≡ get_or marks i mark
    → ranks ++ ranks_from n (drop i marks) ≡ all → (ranks ++ n ∷ []) ++ ranks_from (if mark then n + 1 else n) (drop (i + 1) marks) ≡ all
ranked_more marks i n mark ranks all within same so_far =
    append_assoc ranks (n ∷ []) (ranks_from (if mark then n + 1 else n) (drop (i + 1) marks))
    ∙ ap (λ (xs : List Bool). ranks ++ ranks_from n xs) (sym (drop_next marks i mark within same)) ∙ so_far

-- one step of replacing each item of a list, and the end, when all are replaced
pub changed_more : {X : Type 0} (f : X → X) (xs all : List X) (i : ℕ) (x y : X) → i < length xs → y ≡ f (get_or xs i x)
    → take i xs ++ map f (drop i xs) ≡ all → take (i + 1) (set xs i y) ++ map f (drop (i + 1) (set xs i y)) ≡ all
changed_more f xs all i x y within new so_far =
    ap₂ (λ before behind. before ++ map f behind) (take_more_set xs i y within) (drop-set-lt (i + 1) xs i y (omega arith))
    ∙ append_assoc (take i xs) (y ∷ []) (map f (drop (i + 1) xs))
    ∙ ap (λ z. take i xs ++ z ∷ map f (drop (i + 1) xs)) new
    ∙ ap (λ zs. take i xs ++ map f zs) (sym (drop_more xs i x within)) ∙ so_far

pub changed_all : {X : Type 0} (f : X → X) (xs all : List X) (i : ℕ) → length xs ≤ i → take i xs ++ map f (drop i xs) ≡ all → xs ≡ all
changed_all f xs all i past so_far =
    sym (append-nil xs) ∙ ap₂ (λ before behind. before ++ map f behind) (sym (take_all i xs past)) (sym (drop_all i xs past)) ∙ so_far

-- items related place by place are also related by a weaker relation
same_zip : {A : Type 0} (xs : List A) → AllZip (λ x y. x ≡ y) xs xs
same_zip [] = tt
same_zip (x ∷ xs) = (refl, same_zip xs)

pub zip_as : {A B : Type 0} (R T : A → B → Type 0) → ((x : A) (y : B) → R x y → T x y) → (xs : List A) (ys : List B) → AllZip R xs ys → AllZip T xs ys
zip_as R T so xs ys all = zip_by R (λ y z. y ≡ z) T (λ x y z r e. subst (T x) e (so x y r)) xs ys ys all (same_zip ys)

-- one fewer remains
pub one_less : (left rest n m : ℕ) → left ≡ n → rest + 1 ≡ left → n ≡ m + 1 → rest ≡ m
one_less left rest n m same gone short = omega arith

-- one more outbox is included in a list or left out of it
module _ {X : Type 0} (F : List Bool → List Outbox → List X) (marks : List Bool) (i : ℕ) (mark : Bool) (outboxes olds news : List Outbox) (done all : List X)
    (within : i < length marks) (same : mark ≡ get_or marks i mark) (are : outboxes ≡ olds) (so_far : done ++ F (drop i marks) outboxes ≡ all) where
  now : F (drop i marks) outboxes ≡ F (mark ∷ drop (i + 1) marks) olds
  now = ap₂ F (drop_next marks i mark within same) are

  pub outbox_taken : (x : X) → F (mark ∷ drop (i + 1) marks) olds ≡ x ∷ F (drop (i + 1) marks) news → (done ++ x ∷ []) ++ F (drop (i + 1) marks) news ≡ all
  outbox_taken x step = append_assoc done (x ∷ []) (F (drop (i + 1) marks) news) ∙ ap (λ (xs : List X). done ++ xs) (sym (now ∙ step)) ∙ so_far

  pub outbox_left : F (mark ∷ drop (i + 1) marks) olds ≡ F (drop (i + 1) marks) news → done ++ F (drop (i + 1) marks) news ≡ all
  outbox_left step = ap (λ (xs : List X). done ++ xs) (sym (now ∙ step)) ∙ so_far

-- within a list, it does not matter which default is used
pub any_default : {A : Type 0} (xs : List A) (i : ℕ) (d e : A) → i < length xs → get_or xs i d ≡ get_or xs i e
any_default [] i d e below = absurd (omega (arith, below))
any_default (x ∷ xs) zero d e below = refl
any_default (x ∷ xs) (suc i) d e below = any_default xs i d e (omega (arith, below))

-- if the first remaining item names a place before renaming, it does so one step later
pub head_named : {A : Type 0} (P : A → Type 0) (xs : List A) (i : ℕ) (d : A) → i < length xs → AllByRecursion P (drop i xs) → P (get_or xs i d)
head_named P xs i d within all = (subst (AllByRecursion P) (drop_more xs i d within) all).0

pub tail_named : {A : Type 0} (P : A → Type 0) (xs : List A) (i : ℕ) (y : A) → i < length xs → AllByRecursion P (drop i xs) → AllByRecursion P (drop (i + 1) (set xs i y))
tail_named P xs i y within all =
    let rest = (subst (AllByRecursion P) (drop_more xs i y within) all).1 in
    subst (AllByRecursion P) (sym (drop-set-lt (i + 1) xs i y (omega arith))) rest
