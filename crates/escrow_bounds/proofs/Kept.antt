-- What is kept of a row when one reservation more or less is counted.
use Rattle.std.proofs.Common.{◌≡◌, ℕ, zero, suc, ◌+◌, ℤ, pos, ◌<◌, Vec, List, [], ◌∷◌, ◌++◌, length, get_or, refl, sym, ap, ◌∙◌, subst, arith, length-append}
use Rattle.std.specs.List.{AllByRecursion}
use Rattle.std.specs.Prelude.{Some, slice_get, replicate}
use Rattle.std.specs.Vec.{with_items}
use Rattle.std.proofs.lemmas.List.{length-map, length-replicate, length-set, with_items_is}
use Rattle.std.proofs.lemmas.Option.{slice_get_within, get_or_from_slice_get}
use Rattle.escrow_num.specs.declared.session.End.{End}
use Rattle.escrow_num.specs.declared.session.End.TheVariants as ends
use Rattle.escrow_checks.specs.declared.check.Check.{Check}
use Rattle.escrow_checks.specs.Extremes.{least, greatest}
use Rattle.escrow_checks.specs.Form.{IsCovered}
use Rattle.escrow_checks.specs.Spread.{IsSpread}
use Rattle.escrow_bounds.specs.Columns.{unit_form, column_check, column_checks}
use Rattle.escrow_bounds.specs.Counts.{Counts, GivesBack}
use Rattle.escrow_bounds.specs.Inside.{IsPlace}
use Rattle.escrow_bounds.specs.Place.{Place, checks_of, Tracked}
use Rattle.escrow_bounds.specs.Moved.{all_moved, amounts_after}
use Rattle.escrow_bounds.specs.Recounting.{counted_before, counted_after, AreRecounted, CanRecount, HasRoom, IsRecounted}
use Rattle.escrow_bounds.specs.declared.sums.Counting.{Counting}
use Rattle.escrow_bounds.specs.declared.sums.Counting.TheVariants as counting
use Rattle.escrow_bounds.proofs.Moving.{length-all_moved}
use Rattle.escrow_bounds.proofs.Forms.{sums_at, check_at, covered_at}

-- ---- items lent to a call

-- what holds between lent items and their new values holds between the items before and after the call
pub lent : {X Z : Type 0} (R : List X → List X → Type 0) (held : Vec X Z) (shown new : List X) → shown ≡ held.items → length new ≡ held.len → R shown new → R held.items (with_items held new).items
lent {X} R held shown new is many holds = subst (λ (xs : List X). R held.items xs) (sym (with_items_is held new many)) (subst (λ (xs : List X). R xs new) is holds)

-- ---- counting

-- one more reservation makes the list one longer
pub length-put : (before after : List (List ℤ)) (changes : List ℤ) → length (before ++ changes ∷ after) ≡ length (before ++ after) + 1
length-put before after changes = omega (arith, length-append before (changes ∷ after), length-append before after)

-- what a place counts if it has room for the changes, or counts them already
pub recountable : (kind : Counting) (changes : List ℤ) (place : Place) → IsPlace place → CanRecount kind changes place
    → (before : List (List ℤ)) × (after : List (List ℤ)) × Counts place (counted_before kind before changes after) × HasRoom kind (before ++ after)
recountable counting.In changes place is room = ([], is.reservations, is.counts, omega (arith, is.counts.0, room))
recountable counting.Out changes place is given = (given.0, given.1, given.2, tt)

pub recounted : (kind : Counting) (changes : List ℤ) (old new : Place) → new.amounts ≡ old.amounts
    → ((before : List (List ℤ)) (changes : List ℤ) (after : List (List ℤ)) → old.count ≡ length (counted_before kind before changes after) → new.count ≡ length (counted_after kind before changes after))
    → AreRecounted kind changes old.checks new.checks → AreRecounted kind changes old.columns new.columns → IsRecounted kind changes old new
recounted kind changes old new amounts number checks columns = record {
  amounts = amounts;
  checks = checks.0;
  counts = λ before after known. (number before changes after known.0, checks.1 before after known.1, columns.1 before after known.2);
}

-- a reservation that is no longer counted is given back, as at a ROLLBACK
pub gives_back : (changes : List ℤ) (old new : Place) → IsRecounted counting.Out changes old new → GivesBack ends.Rollback changes old new
gives_back changes old new given = record { amounts = given.amounts; checks = given.checks; counts = given.counts }

-- if its changes are also added to the amounts, it is given back as at a COMMIT
pub gives_committed : (changes : List ℤ) (old mid new : Place) → IsRecounted counting.Out changes old mid → new ≡ record mid { amounts = all_moved mid.amounts changes } → GivesBack ends.Commit changes old new
gives_committed changes old mid new given is = subst (GivesBack ends.Commit changes old) (sym is) (record {
  amounts = ap (λ (amounts : List ℤ). all_moved amounts changes) given.amounts;
  checks = given.checks;
  counts = given.counts;
})

-- ---- what a place keeps

covered_same : (checks : List Check) (old new : List ℤ) → length new ≡ length old → AllByRecursion (λ (check : Check). IsCovered check.coeffs old) checks → AllByRecursion (λ (check : Check). IsCovered check.coeffs new) checks
covered_same [] old new same all = tt
covered_same (check ∷ checks) old new same all = (omega (arith, same, all.0), covered_same checks old new same all.1)

-- a place is still one if the number of its amounts stays, and its checks and columns stay
pub place_kept : (old new : Place) (reservations : List (List ℤ)) → IsPlace old → length new.amounts ≡ length old.amounts → checks_of new.checks ≡ checks_of old.checks → checks_of new.columns ≡ checks_of old.columns
    → Counts new reservations → IsPlace new
place_kept old new reservations place amounts checks columns counts = record {
  covered = covered_same (checks_of new.checks) old.amounts new.amounts amounts (subst (λ (cs : List Check). AllByRecursion (λ (check : Check). IsCovered check.coeffs old.amounts) cs) (sym checks) place.covered);
  columns = columns ∙ place.columns ∙ ap (λ (n : ℕ). column_checks n n) (sym amounts);
  reservations = reservations;
  counts = counts;
}

pub length-after : (end : End) (amounts changes : List ℤ) → length (amounts_after end amounts changes) ≡ length amounts
length-after ends.Commit amounts changes = length-all_moved amounts changes
length-after ends.Rollback amounts changes = refl

pub place_recounted : (kind : Counting) (changes : List ℤ) (before after : List (List ℤ)) (old new : Place) → IsPlace old → Counts old (counted_before kind before changes after)
    → IsRecounted kind changes old new → checks_of new.columns ≡ checks_of old.columns → IsPlace new
place_recounted kind changes before after old new place counted is columns =
    place_kept old new (counted_after kind before changes after) place (ap length is.amounts) is.checks columns (is.counts before after counted)

-- ---- columns

length-column_checks : (columns n : ℕ) → length (column_checks columns n) ≡ n
length-column_checks columns zero = refl
length-column_checks columns (suc n) = omega (arith, length-append (column_checks columns n) (column_check columns n ∷ []), length-column_checks columns n)

-- there is a form for each column
pub columns_fit : (place : Place) → IsPlace place → length place.columns ≡ length place.amounts
columns_fit place is =
    sym (length-map place.columns (λ (form : Tracked). form.check)) ∙ ap length is.columns ∙ length-column_checks (length place.amounts) (length place.amounts)

-- what holds for each item of a list, and for one more
pushed : {A : Type 0} (xs : List A) (x : A) (i n : ℕ) (f : ℕ → A) → length xs ≡ n → x ≡ f n → ((k : ℕ) → k < n → slice_get xs k ≡ Some (f k)) → i < suc n → slice_get (xs ++ x ∷ []) i ≡ Some (f i)
pushed [] x zero n f len is each below = let none : n ≡ 0 = omega (arith, len) in ap Some (is ∙ ap f none)
pushed [] x (suc i) n f len is each below = absurd (omega (arith, len, below))
pushed (y ∷ ys) x zero n f len is each below = each 0 (omega (arith, len))
pushed (y ∷ ys) x (suc i) zero f len is each below = absurd (omega (arith, len))
pushed (y ∷ ys) x (suc i) (suc n) f len is each below = pushed ys x i n (λ k. f (suc k)) (omega (arith, len)) is (λ k h. each (suc k) (omega (arith, h))) (omega (arith, below))

column_at : (columns n i : ℕ) → i < n → slice_get (column_checks columns n) i ≡ Some (column_check columns i)
column_at columns zero i below = absurd (omega (arith, below))
column_at columns (suc n) i below = pushed (column_checks columns n) (column_check columns n) i n (column_check columns) (length-column_checks columns n) refl (column_at columns n) below

unit_covered : (columns place : ℕ) (amounts : List ℤ) → length amounts ≡ columns → IsCovered (unit_form columns place) amounts
unit_covered columns place amounts many =
    omega (arith, many, length-set (replicate columns (pos 0)) place (pos 1), length-replicate columns (pos 0))

-- ---- the extremes of a form

-- the extremes of the form that is read are those of the check there
pub worst_is : (kept : Place) (check : ℕ) (read form : Tracked) (amounts : List ℤ) (reservations : List (List ℤ)) (low high : ℤ) → IsPlace kept
    → read ≡ get_or kept.checks check read → amounts ≡ kept.amounts → slice_get kept.checks check ≡ Some form → Counts kept reservations
    → ((rs : List (List ℤ)) → IsCovered read.check.coeffs amounts → IsSpread read.check.coeffs rs read.spread → low ≡ least read.check.coeffs amounts rs)
    → ((rs : List (List ℤ)) → IsCovered read.check.coeffs amounts → IsSpread read.check.coeffs rs read.spread → high ≡ greatest read.check.coeffs amounts rs)
    → (low ≡ least form.check.coeffs kept.amounts reservations) × (high ≡ greatest form.check.coeffs kept.amounts reservations)
worst_is kept check read form amounts reservations low high place is shown at counts lowest highest =
    let same : read ≡ form = is ∙ get_or_from_slice_get kept.checks check form read at in
    let below = slice_get_within kept.checks check form at in
    let covered = covered_at kept.checks kept.amounts check read below is place.covered in
    let spread = sums_at kept.checks reservations check read below is counts.1 in
    let fits = subst (λ (held : List ℤ). IsCovered read.check.coeffs held) (sym shown) covered in
    let low_is = subst (λ (held : List ℤ). low ≡ least read.check.coeffs held reservations) shown (lowest reservations fits spread) in
    let high_is = subst (λ (held : List ℤ). high ≡ greatest read.check.coeffs held reservations) shown (highest reservations fits spread) in
    (subst (λ (f : Tracked). low ≡ least f.check.coeffs kept.amounts reservations) same low_is, subst (λ (f : Tracked). high ≡ greatest f.check.coeffs kept.amounts reservations) same high_is)

-- the extremes of a column's form are those of the column
pub inf_sup_is : (kept : Place) (column : ℕ) (read : Tracked) (amounts : List ℤ) (reservations : List (List ℤ)) (low high : ℤ) → IsPlace kept
    → column < length kept.amounts → read ≡ get_or kept.columns column read → amounts ≡ kept.amounts → Counts kept reservations
    → ((rs : List (List ℤ)) → IsCovered read.check.coeffs amounts → IsSpread read.check.coeffs rs read.spread → low ≡ least read.check.coeffs amounts rs)
    → ((rs : List (List ℤ)) → IsCovered read.check.coeffs amounts → IsSpread read.check.coeffs rs read.spread → high ≡ greatest read.check.coeffs amounts rs)
    → (low ≡ least (unit_form (length kept.amounts) column) kept.amounts reservations) × (high ≡ greatest (unit_form (length kept.amounts) column) kept.amounts reservations)
inf_sup_is kept column read amounts reservations low high place within is shown counts lowest highest =
    let n = length kept.amounts in
    let fit = columns_fit kept place in
    let below : column < length kept.columns = omega (arith, fit, within) in
    let found : Some read.check ≡ Some (column_check n column) =
    sym (check_at kept.columns column read below is) ∙ ap (λ (checks : List Check). slice_get checks column) place.columns ∙ column_at n n column within in
    let same : read.check ≡ column_check n column = cc in
    let coeffs : read.check.coeffs ≡ unit_form n column = ap (λ (check : Check). check.coeffs) same in
    let covered = subst (λ (cs : List ℤ). IsCovered cs kept.amounts) (sym coeffs) (unit_covered n column kept.amounts refl) in
    let spread = sums_at kept.columns reservations column read below is counts.2 in
    let fits = subst (λ (held : List ℤ). IsCovered read.check.coeffs held) (sym shown) covered in
    let low_is = subst (λ (held : List ℤ). low ≡ least read.check.coeffs held reservations) shown (lowest reservations fits spread) in
    let high_is = subst (λ (held : List ℤ). high ≡ greatest read.check.coeffs held reservations) shown (highest reservations fits spread) in
    (subst (λ (cs : List ℤ). low ≡ least cs kept.amounts reservations) coeffs low_is, subst (λ (cs : List ℤ). high ≡ greatest cs kept.amounts reservations) coeffs high_is)
