-- The places of a table whose checks ALTER TABLE changes.
use Rattle.std.specs.Prelude.{ℤ, Bool, true, false, Option, Some, None, option_map, option_to_list, List, [], ◌∷◌, ◌++◌, length, map, take, drop, remove, slice_get, bytes_eq}
use Rattle.std.specs.List.{AllByRecursion}
use Rattle.std.proofs.Common.{◌≡◌, ◌∙◌, ℕ, zero, suc, ◌<◌, ◌≤◌, cond, refl, sym, ap, subst, set, ◌+◌, arith}
use Rattle.std.proofs.lemmas.List.{drop-map, take-map}
use Rattle.std.proofs.lemmas.Option.{slice_get_within, get_or_from_slice_get}
use Rattle.indexmap.proofs.SetLemmas.{map-remove}
use Rattle.indexmap.specs.IndexMap.{set_value_at}
use Rattle.escrow_num.specs.declared.reservation.Reservation.{Reservation}
use Rattle.escrow_num.specs.declared.value.RowName.{RowName}
use Rattle.escrow_num.specs.Order.{same_row}
use Rattle.escrow_num.proofs.Orders.{row_same, same_row_itself}
use Rattle.escrow_checks.specs.declared.check.Check.{Check}
use Rattle.escrow_checks.specs.Form.{form as form_of, IsCovered}
use Rattle.escrow_checks.specs.Spread.{IsSpread}
use Rattle.escrow_bounds.specs.Altered.{Goes, TableGoes, IsWithout, IsOver, ArePrepared, adopted, Adopts}
use Rattle.escrow_bounds.specs.Columns.{column_checks}
use Rattle.escrow_bounds.specs.Counts.{HaveSums, Counts}
use Rattle.escrow_bounds.specs.declared.sums.Sum.{Sum}
use Rattle.escrow_bounds.specs.Listed.{tracked, all_tracked, AreListed}
use Rattle.escrow_bounds.specs.Held.{of_row, CountsJust, CountsAll, AllCount}
use Rattle.escrow_bounds.specs.Inside.{IsPlace}
use Rattle.escrow_bounds.specs.Place.{Place, checks_of, Tracked}
use Rattle.escrow_bounds.specs.Bounds.{Bounds, place_at, OthersStay}
use Rattle.escrow_bounds.proofs.Forms.{values_at}
use Rattle.escrow_bounds.proofs.LawLemmas.{split, each_row, other_way}
use Rattle.escrow_bounds.proofs.Steps.{AllStepped, Stepped, stepped_more}

-- ---- lists with an item removed, and parts of lists

pub all_without : {X : Type 0} (P : X → Type 0) (xs : List X) (i : ℕ) → AllByRecursion P xs → AllByRecursion P (remove xs i)
all_without P [] zero all = tt
all_without P [] (suc i) all = tt
all_without P (x ∷ xs) zero all = all.1
all_without P (x ∷ xs) (suc i) all = (all.0, all_without P xs i all.1)

pub remove_past : {X : Type 0} (xs : List X) (i : ℕ) → length xs ≤ i → remove xs i ≡ xs
remove_past [] zero past = refl
remove_past [] (suc i) past = refl
remove_past (x ∷ xs) zero past = absurd (omega (arith, past))
remove_past {X} (x ∷ xs) (suc i) past = ap (λ (ys : List X). x ∷ ys) (remove_past xs i (omega (arith, past)))

all_taken : {X : Type 0} (P : X → Type 0) (n : ℕ) (xs : List X) → AllByRecursion P xs → AllByRecursion P (take n xs)
all_taken P zero xs all = tt
all_taken P (suc n) [] all = tt
all_taken P (suc n) (x ∷ xs) all = (all.0, all_taken P n xs all.1)

all_dropped : {X : Type 0} (P : X → Type 0) (n : ℕ) (xs : List X) → AllByRecursion P xs → AllByRecursion P (drop n xs)
all_dropped P zero xs all = all
all_dropped P (suc n) [] all = tt
all_dropped P (suc n) (x ∷ xs) all = all_dropped P n xs all.1

-- ---- consecutive forms of a place

-- `count` consecutive forms, from the index `first` on
abbrev pub some_of : List Tracked → ℕ → ℕ → List Tracked
some_of forms first count = take count (drop first forms)

pub some_checks : (forms : List Tracked) (first count : ℕ) → checks_of (some_of forms first count) ≡ take count (drop first (checks_of forms))
some_checks forms first count = simp (drop-map, take-map) refl

pub some_tracked : (list : List Check) (sums : List Sum) (first count : ℕ) → all_tracked list (take count (drop first sums)) ≡ some_of (all_tracked list sums) first count
some_tracked list sums first count = simp (drop-map, take-map) refl

pub some_listed : (list : List Check) (sums : List Sum) (first count : ℕ) → AreListed list sums → AreListed list (take count (drop first sums))
some_listed list sums first count all =
    let P : Sum → Type 0 = λ sum. sum.check < length list in
    all_taken P count (drop first sums) (all_dropped P first sums all)

pub some_covered : (forms : List Tracked) (amounts : List ℤ) (first count : ℕ) → AllByRecursion (λ (check : Check). IsCovered check.coeffs amounts) (checks_of forms)
    → AllByRecursion (λ (check : Check). IsCovered check.coeffs amounts) (checks_of (some_of forms first count))
some_covered forms amounts first count all =
    let P : Check → Type 0 = λ check. IsCovered check.coeffs amounts in
    subst (λ (checks : List Check). AllByRecursion P checks) (sym (some_checks forms first count)) (all_taken P count (drop first (checks_of forms)) (all_dropped P first (checks_of forms) all))

-- the values of these forms are the same part of the values
pub some_values : (forms : List Tracked) (amounts values : List ℤ) (first count : ℕ) → values ≡ values_at amounts (checks_of forms)
    → take count (drop first values) ≡ values_at amounts (checks_of (some_of forms first count))
some_values forms amounts values first count are = ap (λ (vs : List ℤ). take count (drop first vs)) are ∙ simp (drop-map, take-map) refl

pub some_sums : (forms : List Tracked) (reservations : List (List ℤ)) (first count : ℕ) → HaveSums forms reservations → HaveSums (some_of forms first count) reservations
some_sums forms reservations first count sums =
    let P : Tracked → Type 0 = λ form. IsSpread form.check.coeffs reservations form.spread in
    all_taken P count (drop first forms) (all_dropped P first forms sums)

-- ---- a place with one check removed

without_counts : (index : ℕ) (old new : Place) → new.count ≡ old.count → new.checks ≡ remove old.checks index → new.columns ≡ old.columns → (reservations : List (List ℤ)) → Counts old reservations → Counts new reservations
without_counts index old new count checks columns reservations known = (
  count ∙ known.0,
  subst (λ (forms : List Tracked). HaveSums forms reservations) (sym checks) (all_without (λ (form : Tracked). IsSpread form.check.coeffs reservations form.spread) old.checks index known.1),
  subst (λ (forms : List Tracked). HaveSums forms reservations) (sym columns) known.2,
)

-- the forms of the remaining sums
pub tracked_without : (list : List Check) (sums left : List Sum) (index : ℕ) → left ≡ remove sums index → all_tracked list left ≡ remove (all_tracked list sums) index
tracked_without list sums left index is = ap (all_tracked list) is ∙ map-remove (tracked list) sums index

-- removing a value gives the values of the remaining forms
pub values_without : (forms : List Tracked) (amounts values : List ℤ) (index : ℕ) → values ≡ values_at amounts (checks_of forms)
    → remove values index ≡ values_at amounts (checks_of (remove forms index))
values_without forms amounts values index are =
    let value : Check → ℤ = λ check. form_of check.coeffs amounts in
    ap (λ (vs : List ℤ). remove vs index) are ∙ sym (map-remove value (checks_of forms) index) ∙ ap (map value) (sym (map-remove (λ (form : Tracked). form.check) forms index))

pub is_without : (index : ℕ) (old new : Place) → new.amounts ≡ old.amounts → new.count ≡ old.count → new.checks ≡ remove old.checks index → new.columns ≡ old.columns → IsWithout index old new
is_without index old new amounts count checks columns = record {
  amounts = amounts;
  checks = ap checks_of checks ∙ map-remove (λ (form : Tracked). form.check) old.checks index;
  counts = without_counts index old new count checks columns;
}

pub place_without : (index : ℕ) (old new : Place) → IsPlace old → new.amounts ≡ old.amounts → new.count ≡ old.count → new.checks ≡ remove old.checks index → new.columns ≡ old.columns → IsPlace new
place_without index old new place amounts count checks columns =
    let P : List ℤ → Check → Type 0 = λ held check. IsCovered check.coeffs held in
    record {
      covered = subst (λ (held : List ℤ). AllByRecursion (P held) (checks_of new.checks)) (sym amounts)
          (subst (λ (cs : List Check). AllByRecursion (P old.amounts) cs) (sym (ap checks_of checks ∙ map-remove (λ (form : Tracked). form.check) old.checks index)) (all_without (P old.amounts) (checks_of old.checks) index place.covered));
      columns = ap checks_of columns ∙ place.columns ∙ ap (λ (held : List ℤ). column_checks (length held) (length held)) (sym amounts);
      reservations = place.reservations;
      counts = without_counts index old new count checks columns place.reservations place.counts;
    }

-- ---- the places of a table, one after another

-- if the entry's row is of the table, its place has lost the check at `index`; otherwise it is unchanged
abbrev pub EntryStep : List ℕ → ℕ → RowName × Place → RowName × Place → Type 0
EntryStep table index old new =
    (new.0 ≡ old.0) × (bytes_eq old.0.table table ≡ true → IsWithout index old.1 new.1) × (bytes_eq old.0.table table ≡ false → new.1 ≡ old.1)

-- writing a value at an index of a map replaces the value of that entry
put_at : (places : Bounds) (i : ℕ) (row : RowName) (old new : Place) → slice_get places i ≡ Some (row, old) → set_value_at places i new ≡ set places i (row, new)
put_at [] i row old new at = absurd (cc)
put_at (entry ∷ places) zero row old new at =
    let is : entry ≡ (row, old) = cc in
    ap (λ (e : RowName × Place). (e.0, new) ∷ places) is
put_at (entry ∷ places) (suc i) row old new at = ap (λ (rest : Bounds). entry ∷ rest) (put_at places i row old new at)

pub length-set_value_at : (places : Bounds) (i : ℕ) (new : Place) → length (set_value_at places i new) ≡ length places
length-set_value_at [] i new = refl
length-set_value_at (entry ∷ places) zero new = refl
length-set_value_at (entry ∷ places) (suc i) new = ap suc (length-set_value_at places i new)

pub entry_stepped : (table : List ℕ) (index i : ℕ) (old now : Bounds) (row : RowName) (was new : Place) → Stepped (EntryStep table index) i old now → slice_get now i ≡ Some (row, was)
    → (bytes_eq row.table table ≡ true → IsWithout index was new) → (bytes_eq row.table table ≡ false → new ≡ was)
    → Stepped (EntryStep table index) (i + 1) old (set_value_at now i new)
entry_stepped table index i old now row was new are at own others =
    subst (λ (places : Bounds). Stepped (EntryStep table index) (i + 1) old places) (sym (put_at now i row was new at))
    (stepped_more (EntryStep table index) i old now (row, was) (row, new) (slice_get_within now i (row, was) at) are (sym (get_or_from_slice_get now i (row, was) (row, was) at)) (refl, own, others))

goes_one : (Step : Place → Place → Type 0) (is : Bool) (old new : Place) (before after : Option Place) → (is ≡ true → Step old new) → Goes Step before after → Goes Step (cond is (Some old) before) (cond is (Some new) after)
goes_one Step true old new before after step rest = (new, refl, step refl)
goes_one Step false old new before after step rest = rest

stays_one : (is : Bool) (old new : Place) (before after : Option Place) → (is ≡ true → new ≡ old) → after ≡ before → cond is (Some new) after ≡ cond is (Some old) before
stays_one true old new before after same rest = ap Some (same refl)
stays_one false old new before after same rest = rest

stepped_own : (table : List ℕ) (index : ℕ) (row : RowName) → bytes_eq row.table table ≡ true → (old new : Bounds) → AllStepped (EntryStep table index) old new → Goes (IsWithout index) (place_at old row) (place_at new row)
stepped_own table index row within [] [] all = refl
stepped_own table index row within [] (y ∷ ys) all = absurd all
stepped_own table index row within (x ∷ xs) [] all = absurd all
stepped_own table index row within (x ∷ xs) (y ∷ ys) all =
    subst (λ (key : RowName). Goes (IsWithout index) (place_at (x ∷ xs) row) (cond (same_row row key) (Some y.1) (place_at ys row))) (sym all.0.0)
    (goes_one (IsWithout index) (same_row row x.0) x.1 y.1 (place_at xs row) (place_at ys row)
    (λ same. all.0.1 (ap (λ (key : RowName). bytes_eq key.table table) (sym (row_same row x.0 same)) ∙ within))
    (stepped_own table index row within xs ys all.1))

stepped_others : (table : List ℕ) (index : ℕ) (row : RowName) → bytes_eq row.table table ≡ false → (old new : Bounds) → AllStepped (EntryStep table index) old new → place_at new row ≡ place_at old row
stepped_others table index row apart [] [] all = refl
stepped_others table index row apart [] (y ∷ ys) all = absurd all
stepped_others table index row apart (x ∷ xs) [] all = absurd all
stepped_others table index row apart (x ∷ xs) (y ∷ ys) all =
    subst (λ (key : RowName). cond (same_row row key) (Some y.1) (place_at ys row) ≡ place_at (x ∷ xs) row) (sym all.0.0)
    (stays_one (same_row row x.0) x.1 y.1 (place_at xs row) (place_at ys row)
    (λ same. all.0.2 (ap (λ (key : RowName). bytes_eq key.table table) (sym (row_same row x.0 same)) ∙ apart))
    (stepped_others table index row apart xs ys all.1))

-- if each entry takes its step, so does the whole table
pub table_stepped : (table : List ℕ) (index : ℕ) (old new : Bounds) → AllStepped (EntryStep table index) old new → TableGoes table (λ row. IsWithout index) old new
table_stepped table index old new all = record {
  own = λ row within. stepped_own table index row within old new all;
  others = λ row apart. stepped_others table index row apart old new all;
}

-- ---- putting an addition's places, one after another

-- a place, or the last one if there is none
abbrev or_last : Option Place → Option Place → Option Place
or_last None last = last
or_last (Some place) last = Some place

or_none : (place : Option Place) → or_last place None ≡ place
or_none None = refl
or_none (Some place) = refl

last_one : (is : Bool) (place : Place) (all some last : Option Place) → all ≡ or_last some last → cond is (Some place) all ≡ or_last (cond is (Some place) some) last
last_one true place all some last same = refl
last_one false place all some last same = same

-- what a lookup finds after one entry was appended
found_last : (row : RowName) (places : Bounds) (last : RowName × Place) → place_at (places ++ last ∷ []) row ≡ or_last (place_at places row) (cond (same_row row last.0) (Some last.1) None)
found_last row [] last = refl
found_last row (entry ∷ places) last =
    last_one (same_row row entry.0) entry.1 (place_at (places ++ last ∷ []) row) (place_at places row) (cond (same_row row last.0) (Some last.1) None) (found_last row places last)

put_own : (place : Place) (left now : Option Place) → adopted left (option_map (λ (old : Place). place) now) ≡ adopted (or_last left (Some place)) now
put_own place None None = refl
put_own place None (Some old) = refl
put_own place (Some first) None = refl
put_own place (Some first) (Some old) = refl

-- the last place is put, and the others remain to be put
pub adopted_next : (all left now mid : Bounds) (row : RowName) (place : Place) → all ≡ left ++ (row, place) ∷ []
    → place_at mid row ≡ option_map (λ (old : Place). place) (place_at now row) → OthersStay row now mid
    → (other : RowName) → adopted (place_at left other) (place_at mid other) ≡ adopted (place_at all other) (place_at now other)
adopted_next all left now mid row place is own others =
    each_row (λ (other : RowName). adopted (place_at left other) (place_at mid other) ≡ adopted (place_at all other) (place_at now other)) row
    (ap (λ (p : Option Place). adopted (place_at left row) p) own
    ∙ put_own place (place_at left row) (place_at now row)
    ∙ ap (λ (p : Option Place). adopted p (place_at now row)) (sym here))
    (λ other apart.
    ap (λ (p : Option Place). adopted (place_at left other) p) (others other apart)
    ∙ ap (λ (p : Option Place). adopted p (place_at now other)) (sym (there other (other_way row other apart))))
  where
    here : place_at all row ≡ or_last (place_at left row) (Some place)
    here = ap (λ (places : Bounds). place_at places row) is ∙ found_last row left (row, place)
        ∙ ap (λ (b : Bool). or_last (place_at left row) (cond b (Some place) None)) (same_row_itself row)

    there : (other : RowName) → same_row other row ≡ false → place_at all other ≡ place_at left other
    there other apart = ap (λ (places : Bounds). place_at places other) is ∙ found_last other left (row, place)
        ∙ ap (λ (b : Bool). or_last (place_at left other) (cond b (Some place) None)) apart ∙ or_none (place_at left other)

-- the last entry, as `pop` returns it
pub popped : (all left : Bounds) (last : Option (RowName × Place)) (row : RowName) (place : Place) → all ≡ left ++ option_to_list last → last ≡ Some (row, place) → all ≡ left ++ (row, place) ∷ []
popped all left last row place ends is = ends ∙ ap (λ (o : Option (RowName × Place)). left ++ option_to_list o) is

-- ---- what places count

goes_counts : (Step : Place → Place → Type 0) (reservations : List (List ℤ)) (was after : Option Place) → ((old new : Place) → Step old new → Counts old reservations → Counts new reservations)
    → Goes Step was after → CountsJust was reservations → CountsJust after reservations
goes_counts Step reservations None after keeps goes counts = subst (λ (p : Option Place). CountsJust p reservations) (sym goes) counts
goes_counts Step reservations (Some old) after keeps goes counts = subst (λ (p : Option Place). CountsJust p reservations) (sym goes.1) (keeps old goes.0 goes.2 counts)

goes_counting : (Step : Place → Place → Type 0) (reservations : List (List ℤ)) (was after : Option Place) (place : Place) → ((old new : Place) → Step old new → Counts old reservations → Counts new reservations)
    → Goes Step was after → CountsJust was reservations → ((kept : Place) → was ≡ Some kept → 0 < kept.count) → after ≡ Some place → 0 < place.count
goes_counting Step reservations None after place keeps goes counts counting at = absurd (cc (goes, at))
goes_counting Step reservations (Some old) after place keeps goes counts counting at =
    let same : goes.0 ≡ place = cc (goes.1, at) in
    let known = keeps old goes.0 goes.2 counts in
    let above = counting old refl in
    subst (λ (p : Place). 0 < p.count) same (omega (arith, above, counts.0, known.0))

table_counts : (table : List ℕ) (Step : RowName → Place → Place → Type 0) (held : List Reservation) (old new : Bounds)
    → ((row : RowName) (was after : Place) → Step row was after → Counts was (of_row row held) → Counts after (of_row row held))
    → CountsAll old held → AllCount old → TableGoes table Step old new → CountsAll new held × AllCount new
table_counts table Step held old new keeps counts counting goes = (
  λ row. split (bytes_eq row.table table)
      (λ within. goes_counts (Step row) (of_row row held) (place_at old row) (place_at new row) (keeps row) (goes.own row within) (counts row))
      (λ apart. subst (λ (p : Option Place). CountsJust p (of_row row held)) (sym (goes.others row apart)) (counts row)),
  λ row place at. split (bytes_eq row.table table)
      (λ within. goes_counting (Step row) (of_row row held) (place_at old row) (place_at new row) place (keeps row) (goes.own row within) (counts row) (counting row) at)
      (λ apart. counting row place (sym (goes.others row apart) ∙ at)),
)

pub drop_check_counts : (table : List ℕ) (index : ℕ) (held : List Reservation) (old new : Bounds) → CountsAll old held → AllCount old
    → TableGoes table (λ row. IsWithout index) old new → CountsAll new held × AllCount new
drop_check_counts table index held old new counts counting goes =
    table_counts table (λ (row : RowName). IsWithout index) held old new (λ row was after step. step.counts (of_row row held)) counts counting goes

goes_adopted : (Step : Place → Place → Type 0) (was added after : Option Place) → Goes Step was added → after ≡ adopted added was → Goes Step was after
goes_adopted Step None None after goes is = is
goes_adopted Step None (Some place) after goes is = is
goes_adopted Step (Some old) added after goes is = (goes.0, is ∙ ap (λ (p : Option Place). adopted p (Some old)) goes.1, goes.2)

pub adopt_counts : (table : List ℕ) (checks : List Check) (held : List Reservation) (old addition new : Bounds) → CountsAll old held → AllCount old
    → ArePrepared table checks held old addition → Adopts addition old new
    → CountsAll new held × AllCount new × TableGoes table (λ row. IsOver checks (of_row row held)) old new
adopt_counts table checks held old addition new counts counting prepared adopts =
    let Step : RowName → Place → Place → Type 0 = λ row. IsOver checks (of_row row held) in
    let goes : TableGoes table Step old new = record {
      own = λ row within. goes_adopted (Step row) (place_at old row) (place_at addition row) (place_at new row) (prepared.own row within) (adopts row);
      others = λ row apart. adopts row ∙ ap (λ (p : Option Place). adopted p (place_at old row)) (prepared.others row apart);
    } in
    let known = table_counts table Step held old new (λ row was after step _. step.counts) counts counting goes in
    (known.0, known.1, goes)
