-- Sums over a list of checks, and spreads of columns.
use Rattle.std.proofs.Common.{◌≡◌, ℕ, zero, suc, ◌+◌, ℤ, ◌<◌, ◌≤◌, List, [], ◌∷◌, ◌++◌, length, get_or, set, take, map, refl, sym, ap, ap₂, ◌∙◌, subst, arith, add-one}
use Rattle.std.specs.List.{AllByRecursion}
use Rattle.std.proofs.lemmas.List.{get_or-map, take_more, take_all}
use Rattle.escrow_num.proofs.Items.{all_at}
use Rattle.escrow_checks.specs.declared.check.Check.{Check}
use Rattle.escrow_checks.specs.declared.spread.Spread.{Spread}
use Rattle.escrow_checks.specs.Form.{form as form_of}
use Rattle.escrow_checks.specs.Spread.{IsSpread}
use Rattle.escrow_bounds.specs.declared.sums.Sum.{Sum}
use Rattle.escrow_bounds.specs.declared.sums.Counting.{Counting}
use Rattle.escrow_bounds.specs.Columns.{column_check, column_checks}
use Rattle.escrow_bounds.specs.Counts.{HaveSums}
use Rattle.escrow_bounds.specs.Listed.{listed, tracked, all_tracked, AreListed, tracked_column, columns_from}
use Rattle.escrow_bounds.specs.Place.{Tracked, checks_of}
use Rattle.escrow_bounds.specs.Recounting.{counted_before, counted_after, AreRecounted}
use Rattle.escrow_bounds.proofs.Forms.{Recount, are_recounted, values_at}
use Rattle.escrow_bounds.proofs.Steps.{AllStepped}

-- ---- one sum

-- a check that is read at an index is the one that is listed there
pub listed_is : (list : List Check) (i : ℕ) (check : Check) → i < length list → check ≡ get_or list i check → check ≡ listed list i
listed_is [] i check below at = absurd (omega (arith, below))
listed_is (c ∷ list) zero check below at = at
listed_is (c ∷ list) (suc i) check below at = listed_is list i check (omega (arith, below)) at

-- the form of the sum at an index
pub tracked_at : (list : List Check) (sums : List Sum) (i : ℕ) (sum : Sum) → i < length sums → sum ≡ get_or sums i sum → tracked list sum ≡ get_or (all_tracked list sums) i (tracked list sum)
tracked_at list sums i sum below at = ap (tracked list) at ∙ sym (get_or-map (tracked list) sums i sum (tracked list sum) below)

-- the check of the sum at an index is listed
pub sum_listed : (list : List Check) (sums : List Sum) (i : ℕ) (sum : Sum) → i < length sums → sum ≡ get_or sums i sum → AreListed list sums → sum.check < length list
sum_listed list sums i sum below at all = all_at (λ (s : Sum). s.check < length list) sums i sum below at all

pub length-tracked : (list : List Check) (sums : List Sum) → length (all_tracked list sums) ≡ length sums
length-tracked list [] = refl
length-tracked list (sum ∷ sums) = ap suc (length-tracked list sums)

-- ---- one more sum

checks_pushed : (list : List Check) (sums : List Sum) (sum : Sum) → checks_of (all_tracked list (sums ++ sum ∷ [])) ≡ checks_of (all_tracked list sums) ++ listed list sum.check ∷ []
checks_pushed list [] sum = refl
checks_pushed list (first ∷ sums) sum = ap (λ (checks : List Check). listed list first.check ∷ checks) (checks_pushed list sums sum)

pub taken_pushed : (list : List Check) (sums : List Sum) (sum : Sum) (i : ℕ) → sum.check ≡ i → i < length list → checks_of (all_tracked list sums) ≡ take i list
    → checks_of (all_tracked list (sums ++ sum ∷ [])) ≡ take (i + 1) list
taken_pushed list sums sum i is below taken =
    checks_pushed list sums sum ∙ ap (λ (k : ℕ). checks_of (all_tracked list sums) ++ listed list k ∷ []) is
    ∙ ap (λ (checks : List Check). checks ++ listed list i ∷ []) taken ∙ sym (take_more list i (column_check 0 0) below)

pub listed_pushed : (list : List Check) (sums : List Sum) (sum : Sum) → sum.check < length list → AreListed list sums → AreListed list (sums ++ sum ∷ [])
listed_pushed list [] sum is all = (is, tt)
listed_pushed list (first ∷ sums) sum is all = (all.0, listed_pushed list sums sum is all.1)

pub sums_pushed : (list : List Check) (sums : List Sum) (sum : Sum) (reservations : List (List ℤ)) → IsSpread (listed list sum.check).coeffs reservations sum.spread
    → HaveSums (all_tracked list sums) reservations → HaveSums (all_tracked list (sums ++ sum ∷ [])) reservations
sums_pushed list [] sum reservations is all = (is, tt)
sums_pushed list (first ∷ sums) sum reservations is all = (all.0, sums_pushed list sums sum reservations is all.1)

-- ---- sums that are counted anew

-- the check stays, and one reservation more or less is counted
abbrev pub RecountSum : List Check → Counting → List ℤ → Sum → Sum → Type 0
RecountSum list kind changes old new =
    (new.check ≡ old.check)
    × ((before after : List (List ℤ)) → IsSpread (listed list old.check).coeffs (counted_before kind before changes after) old.spread
    → IsSpread (listed list old.check).coeffs (counted_after kind before changes after) new.spread)

all_recounted : (list : List Check) (kind : Counting) (changes : List ℤ) (old new : List Sum) → AllStepped (RecountSum list kind changes) old new
    → AllStepped (Recount kind changes) (all_tracked list old) (all_tracked list new)
all_recounted list kind changes [] [] all = tt
all_recounted list kind changes [] (y ∷ ys) all = absurd all
all_recounted list kind changes (x ∷ xs) [] all = absurd all
all_recounted list kind changes (x ∷ xs) (y ∷ ys) all = ((ap (listed list) all.0.0, all.0.1), all_recounted list kind changes xs ys all.1)

pub sums_recounted : (list : List Check) (kind : Counting) (changes : List ℤ) (old new : List Sum) → AllStepped (RecountSum list kind changes) old new
    → AreRecounted kind changes (all_tracked list old) (all_tracked list new)
sums_recounted list kind changes old new all = are_recounted kind changes (all_tracked list old) (all_tracked list new) (all_recounted list kind changes old new all)

pub listed_recounted : (list : List Check) (kind : Counting) (changes : List ℤ) (old new : List Sum) → AllStepped (RecountSum list kind changes) old new → AreListed list old → AreListed list new
listed_recounted list kind changes [] [] all known = tt
listed_recounted list kind changes [] (y ∷ ys) all known = absurd all
listed_recounted list kind changes (x ∷ xs) [] all known = absurd all
listed_recounted list kind changes (x ∷ xs) (y ∷ ys) all known = (subst (λ (i : ℕ). i < length list) (sym all.0.0) known.0, listed_recounted list kind changes xs ys all.1 known.1)

-- ---- columns

pub length-columns : (n place : ℕ) (spreads : List Spread) → length (columns_from n place spreads) ≡ length spreads
length-columns n place [] = refl
length-columns n place (spread ∷ spreads) = ap suc (length-columns n (suc place) spreads)

-- one more column
columns_pushed : (n place : ℕ) (spreads : List Spread) (spread : Spread) → columns_from n place (spreads ++ spread ∷ []) ≡ columns_from n place spreads ++ tracked_column n (place + length spreads) spread ∷ []
columns_pushed n place [] spread =
    let same : place ≡ place + 0 = omega arith in
    ap (λ (k : ℕ). tracked_column n k spread ∷ []) same
columns_pushed n place (first ∷ spreads) spread =
    let same : suc place + length spreads ≡ place + suc (length spreads) = omega arith in
    ap (λ (forms : List Tracked). tracked_column n place first ∷ forms)
    (columns_pushed n (suc place) spreads spread ∙ ap (λ (k : ℕ). columns_from n (suc place) spreads ++ tracked_column n k spread ∷ []) same)

checks_more : (forms : List Tracked) (form : Tracked) → checks_of (forms ++ form ∷ []) ≡ checks_of forms ++ form.check ∷ []
checks_more [] form = refl
checks_more (first ∷ forms) form = ap (λ (checks : List Check). first.check ∷ checks) (checks_more forms form)

-- the columns before `i`, and one more
pub columns_more : (n i : ℕ) (spreads : List Spread) (spread : Spread) → length spreads ≡ i → checks_of (columns_from n 0 spreads) ≡ column_checks n i
    → checks_of (columns_from n 0 (spreads ++ spread ∷ [])) ≡ column_checks n (i + 1)
columns_more n i spreads spread many are =
    let at : 0 + length spreads ≡ i = omega (arith, many) in
    let next : suc i ≡ i + 1 = omega arith in
    ap checks_of (columns_pushed n 0 spreads spread) ∙ checks_more (columns_from n 0 spreads) (tracked_column n (0 + length spreads) spread)
    ∙ ap (λ (k : ℕ). checks_of (columns_from n 0 spreads) ++ column_check n k ∷ []) at ∙ ap (λ (checks : List Check). checks ++ column_check n i ∷ []) are
    ∙ ap (column_checks n) next

-- no column has a reservation yet
pub columns_empty : (n place : ℕ) (spreads : List Spread) (spread : Spread) → ((coeffs : List ℤ) → IsSpread coeffs [] spread) → HaveSums (columns_from n place spreads) [] → HaveSums (columns_from n place (spreads ++ spread ∷ [])) []
columns_empty n place [] spread is all = (is (column_check n place).coeffs, tt)
columns_empty n place (first ∷ spreads) spread is all = (all.0, columns_empty n (suc place) spreads spread is all.1)

-- the column at an index
column_is : (n place : ℕ) (spreads : List Spread) (i : ℕ) (spread : Spread) → i < length spreads → spread ≡ get_or spreads i spread
    → tracked_column n (place + i) spread ≡ get_or (columns_from n place spreads) i (tracked_column n (place + i) spread)
column_is n place [] i spread below at = absurd (omega (arith, below))
column_is n place (first ∷ spreads) zero spread below at =
    let same : place + 0 ≡ place = omega arith in
    ap (λ (k : ℕ). tracked_column n k spread) same ∙ ap (tracked_column n place) at
column_is n place (first ∷ spreads) (suc i) spread below at =
    let same : suc place + i ≡ place + suc i = omega arith in
    subst (λ (k : ℕ). tracked_column n k spread ≡ get_or (columns_from n (suc place) spreads) i (tracked_column n k spread)) same
    (column_is n (suc place) spreads i spread (omega (arith, below)) at)

-- a spread that is replaced
column_set : (n place : ℕ) (spreads : List Spread) (i : ℕ) (spread : Spread) → columns_from n place (set spreads i spread) ≡ set (columns_from n place spreads) i (tracked_column n (place + i) spread)
column_set n place [] i spread = refl
column_set n place (first ∷ spreads) zero spread =
    let same : place ≡ place + 0 = omega arith in
    ap (λ (k : ℕ). tracked_column n k spread ∷ columns_from n (suc place) spreads) same
column_set n place (first ∷ spreads) (suc i) spread =
    let same : suc place + i ≡ place + suc i = omega arith in
    ap (λ (forms : List Tracked). tracked_column n place first ∷ forms)
    (column_set n (suc place) spreads i spread ∙ ap (λ (k : ℕ). set (columns_from n (suc place) spreads) i (tracked_column n k spread)) same)

pub column_here : (n : ℕ) (spreads : List Spread) (i : ℕ) (spread : Spread) → i < length spreads → spread ≡ get_or spreads i spread → tracked_column n i spread ≡ get_or (columns_from n 0 spreads) i (tracked_column n i spread)
column_here n spreads i spread below at =
    let same : 0 + i ≡ i = omega arith in
    subst (λ (k : ℕ). tracked_column n k spread ≡ get_or (columns_from n 0 spreads) i (tracked_column n k spread)) same (column_is n 0 spreads i spread below at)

pub column_put : (n : ℕ) (spreads : List Spread) (i : ℕ) (spread : Spread) → columns_from n 0 (set spreads i spread) ≡ set (columns_from n 0 spreads) i (tracked_column n i spread)
column_put n spreads i spread =
    let same : 0 + i ≡ i = omega arith in
    column_set n 0 spreads i spread ∙ ap (λ (k : ℕ). set (columns_from n 0 spreads) i (tracked_column n k spread)) same

-- ---- values of forms

-- the value of the form of a sum's check
abbrev pub value_of : List Check → List ℤ → Sum → ℤ
value_of list amounts sum = form_of (listed list sum.check).coeffs amounts

values_suc : (f : Sum → ℤ) (values : List ℤ) (sums : List Sum) (i : ℕ) (sum : Sum) (value : ℤ) → i < length values → i < length sums → sum ≡ get_or sums i sum → value ≡ f sum
    → take i values ≡ map f (take i sums) → take (suc i) (set values i value) ≡ map f (take (suc i) sums)
values_suc f [] sums i sum value short below at is are = absurd (omega (arith, short))
values_suc f (v ∷ values) [] i sum value short below at is are = absurd (omega (arith, below))
values_suc f (v ∷ values) (s ∷ sums) zero sum value short below at is are = ap (λ (w : ℤ). w ∷ []) (is ∙ ap f at)
values_suc f (v ∷ values) (s ∷ sums) (suc i) sum value short below at is are =
    let first : v ≡ f s = cc in
    let rest : take i values ≡ map f (take i sums) = cc in
    ap₂ (λ (w : ℤ) (ws : List ℤ). w ∷ ws) first (values_suc f values sums i sum value (omega (arith, short)) (omega (arith, below)) at is rest)

-- one more value is read
pub values_more : (list : List Check) (amounts values : List ℤ) (sums : List Sum) (i : ℕ) (sum : Sum) (value : ℤ) → i < length values → i < length sums → sum ≡ get_or sums i sum → value ≡ value_of list amounts sum
    → take i values ≡ map (value_of list amounts) (take i sums) → take (i + 1) (set values i value) ≡ map (value_of list amounts) (take (i + 1) sums)
values_more list amounts values sums i sum value short below at is are = rw add-one (values_suc (value_of list amounts) values sums i sum value short below at is are)

within_suc : (P : ℤ → Type 0) (values : List ℤ) (i : ℕ) (value : ℤ) → P value → AllByRecursion P (take i values) → AllByRecursion P (take (suc i) (set values i value))
within_suc P [] zero value is all = tt
within_suc P [] (suc i) value is all = tt
within_suc P (v ∷ values) zero value is all = (is, tt)
within_suc P (v ∷ values) (suc i) value is all = (all.0, within_suc P values i value is all.1)

pub within_more : (P : ℤ → Type 0) (values : List ℤ) (i : ℕ) (value : ℤ) → P value → AllByRecursion P (take i values) → AllByRecursion P (take (i + 1) (set values i value))
within_more P values i value is all = rw add-one (within_suc P values i value is all)

values_tracked : (list : List Check) (amounts : List ℤ) (sums : List Sum) → map (value_of list amounts) sums ≡ values_at amounts (checks_of (all_tracked list sums))
values_tracked list amounts [] = refl
values_tracked list amounts (sum ∷ sums) = ap (λ (values : List ℤ). value_of list amounts sum ∷ values) (values_tracked list amounts sums)

-- once all values are read, they are those of the checks
pub values_read : (list : List Check) (amounts values : List ℤ) (sums : List Sum) (i : ℕ) → length values ≡ length sums → length sums ≤ i → take i values ≡ map (value_of list amounts) (take i sums)
    → values ≡ values_at amounts (checks_of (all_tracked list sums))
values_read list amounts values sums i each past are =
    sym (take_all i values (omega (arith, each, past))) ∙ are ∙ ap (map (value_of list amounts)) (take_all i sums past) ∙ values_tracked list amounts sums
