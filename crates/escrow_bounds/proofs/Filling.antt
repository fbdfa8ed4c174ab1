-- An addition while open reservations are counted in it.
use Rattle.std.specs.Prelude.{ℤ, Bool, true, false, not, Option, Some, None, IsSome, is_some, List, [], ◌∷◌, ◌++◌, length, map, take, bytes_eq}
use Rattle.std.specs.Borrow.{Bor}
use Rattle.std.proofs.Common.{◌≡◌, ◌∙◌, ℕ, zero, suc, ◌+◌, ◌<◌, ◌≤◌, cond, refl, sym, ap, subst, get_or, arith, inl, inr}
use Rattle.std.proofs.lemmas.Bool.{cond-false, false≢true}
use Rattle.std.proofs.lemmas.List.{append-nil, take_more, take_all}
use Rattle.escrow_num.specs.declared.reservation.Reservation.{Reservation}
use Rattle.escrow_num.specs.declared.value.RowName.{RowName}
use Rattle.escrow_num.specs.Order.{same_row}
use Rattle.escrow_num.specs.Reservation.{deltas}
use Rattle.escrow_num.proofs.Items.{Has}
use Rattle.escrow_num.proofs.Orders.{row_same, same_row_itself}
use Rattle.escrow_checks.specs.declared.check.Check.{Check}
use Rattle.escrow_checks.specs.declared.spread.TheConstants.Spread.{MAX_OPEN}
use Rattle.escrow_bounds.specs.Altered.{Goes, IsOver, ArePrepared}
use Rattle.escrow_bounds.specs.Counts.{IsNew, TakesIn}
use Rattle.escrow_bounds.specs.Filling.{of_table, IsCopied, AreFilled}
use Rattle.escrow_bounds.specs.Held.{of_row, CountsJust, CountsAll, AllCount}
use Rattle.escrow_bounds.specs.Place.{Place, checks_of}
use Rattle.escrow_bounds.specs.Bounds.{Bounds, place_at, OthersStay, Becomes}
use Rattle.escrow_bounds.proofs.Counting.{has_any, placed_is}
use Rattle.escrow_bounds.proofs.LawLemmas.{split, each_row, reserve_counts, add_counts}

-- ---- the reservations of a table

of_table_one : (row : RowName) (r : Reservation) (some all : List Reservation) (passes : Bool) → (same_row row r.row ≡ true → passes ≡ true) → of_row row some ≡ of_row row all
    → of_row row (cond passes (r ∷ some) some) ≡ of_row row (r ∷ all)
of_table_one row r some all true implies is = ap (λ (zs : List (List ℤ)). cond (same_row row r.row) (deltas r.changes ∷ zs) zs) is
of_table_one row r some all false implies is =
    is ∙ sym (cond-false (same_row row r.row) (deltas r.changes ∷ of_row row all) (of_row row all)
    (split (same_row row r.row) (λ same. absurd (false≢true (implies same))) (λ apart. apart)))

-- the table's reservations include all those of its rows
own_of_table : (table : List ℕ) (row : RowName) (held : List Reservation) → bytes_eq row.table table ≡ true → of_row row (of_table table held) ≡ of_row row held
own_of_table table row [] within = refl
own_of_table table row (r ∷ held) within =
    of_table_one row r (of_table table held) held (bytes_eq r.row.table table)
    (λ same. ap (λ (other : RowName). bytes_eq other.table table) (sym (row_same row r.row same)) ∙ within)
    (own_of_table table row held within)

more_one : (first : Reservation) (passes : Bool) (all some one : List Reservation) → all ≡ some ++ one → cond passes (first ∷ all) all ≡ cond passes (first ∷ some) some ++ one
more_one first true all some one is = ap (λ (rs : List Reservation). first ∷ rs) is
more_one first false all some one is = is

of_table_more : (table : List ℕ) (held : List Reservation) (r : Reservation) → of_table table (held ++ r ∷ []) ≡ of_table table held ++ of_table table (r ∷ [])
of_table_more table [] r = refl
of_table_more table (first ∷ held) r =
    more_one first (bytes_eq first.row.table table) (of_table table (held ++ r ∷ [])) (of_table table held) (of_table table (r ∷ [])) (of_table_more table held r)

-- appending a reservation of the table appends it to the table's reservations
of_table_own : (table : List ℕ) (held : List Reservation) (r : Reservation) → bytes_eq r.row.table table ≡ true → of_table table (held ++ r ∷ []) ≡ of_table table held ++ r ∷ []
of_table_own table held r within =
    of_table_more table held r ∙ ap (λ (passes : Bool). of_table table held ++ cond passes (r ∷ []) []) within

-- a row has at most as many reservations of the table as of all tables
few_one : (row : RowName) (r : Reservation) (some all : List Reservation) (passes is_own : Bool) → length (of_row row some) ≤ length (of_row row all)
    → length (cond passes (cond is_own (deltas r.changes ∷ of_row row some) (of_row row some)) (of_row row some)) ≤ length (cond is_own (deltas r.changes ∷ of_row row all) (of_row row all))
few_one row r some all true true few = omega (arith, few)
few_one row r some all true false few = few
few_one row r some all false true few = omega (arith, few)
few_one row r some all false false few = few

either_list : (row : RowName) (r : Reservation) (some : List Reservation) (passes : Bool)
    → of_row row (cond passes (r ∷ some) some) ≡ cond passes (cond (same_row row r.row) (deltas r.changes ∷ of_row row some) (of_row row some)) (of_row row some)
either_list row r some true = refl
either_list row r some false = refl

few_of_table : (table : List ℕ) (row : RowName) (held : List Reservation) → length (of_row row (of_table table held)) ≤ length (of_row row held)
few_of_table table row [] = omega arith
few_of_table table row (r ∷ held) =
    let some = of_table table held in
    let passes = bytes_eq r.row.table table in
    subst (λ (zs : List (List ℤ)). length zs ≤ length (of_row row (r ∷ held))) (sym (either_list row r some passes)) (few_one row r some held passes (same_row row r.row) (few_of_table table row held))

-- ---- one more reservation is counted

-- each filled place is of the table, and has the amounts of the place that it copies
abbrev pub AreCopied : List ℕ → List Check → Bounds → Bounds → Type 0
AreCopied table checks places filled = (row : RowName) (place : Place) → place_at filled row ≡ Some place → IsCopied table checks places row place

-- after `reserve`, the row has a place
pub reserved_there : (old mid : Bounds) (row : RowName) (amounts : List ℤ) (checks : List Check)
    → (IsSome (place_at old row) → mid ≡ old) → (place_at old row ≡ None → (place : Place) × (place_at mid row ≡ Some place) × IsNew amounts checks place) → IsSome (place_at mid row)
reserved_there old mid row amounts checks found made = at (place_at old row) refl
  where
    at : (was : Option Place) → place_at old row ≡ was → IsSome (place_at mid row)
    at None is = ap is_some (made is).1
    at (Some kept) is = let there : IsSome (place_at old row) = ap is_some is in subst (λ (places : Bounds). IsSome (place_at places row)) (sym (found there)) there

-- the row's place has room for one more reservation
pub reserved_room : (old mid : Bounds) (row : RowName) (amounts : List ℤ) (checks : List Check)
    → (IsSome (place_at old row) → mid ≡ old) → (place_at old row ≡ None → (place : Place) × (place_at mid row ≡ Some place) × IsNew amounts checks place)
    → ((place : Place) → place_at old row ≡ Some place → place.count < MAX_OPEN) → (place : Place) → place_at mid row ≡ Some place → place.count < MAX_OPEN
reserved_room old mid row amounts checks found made room place there = at (place_at old row) refl
  where
    at : (was : Option Place) → place_at old row ≡ was → place.count < MAX_OPEN
    at None is =
        let new = made is in
        let same : new.0 ≡ place = cc (new.1, there) in
        let number = new.2.counts.0 in
        subst (λ (p : Place). p.count < MAX_OPEN) same (omega (arith, number))
    at (Some kept) is =
        room place (ap (λ (places : Bounds). place_at places row) (sym (found (ap is_some is))) ∙ there)

reserved_copied : (table : List ℕ) (checks : List Check) (places old mid : Bounds) (row : RowName) (copied : Place) (amounts : List ℤ)
    → bytes_eq row.table table ≡ true → place_at places row ≡ Some copied → amounts ≡ copied.amounts
    → (IsSome (place_at old row) → mid ≡ old) → (place_at old row ≡ None → (place : Place) × (place_at mid row ≡ Some place) × IsNew amounts checks place) → OthersStay row old mid
    → AreCopied table checks places old → AreCopied table checks places mid
reserved_copied table checks places old mid row copied amounts within has is found made others each =
    each_row (λ (other : RowName). (place : Place) → place_at mid other ≡ Some place → IsCopied table checks places other place) row
    (λ place there. at place there (place_at old row) refl)
    (λ other apart place there. each other place (sym (others other apart) ∙ there))
  where
    at : (place : Place) → place_at mid row ≡ Some place → (was : Option Place) → place_at old row ≡ was → IsCopied table checks places row place
    at place there None none =
        let new = made none in
        let same : new.0 ≡ place = cc (new.1, there) in
        record {
          within = within;
          copied = copied;
          found = has;
          amounts = ap (λ (p : Place). p.amounts) (sym same) ∙ new.2.amounts_are ∙ is;
          checks_are = ap (λ (p : Place). checks_of p.checks) (sym same) ∙ new.2.checks_are;
        }
    at place there (Some kept) some = each row place (ap (λ (ps : Bounds). place_at ps row) (sym (found (ap is_some some))) ∙ there)

added_copied : (table : List ℕ) (checks : List Check) (places mid new : Bounds) (row : RowName) (changes : List ℤ)
    → IsSome (place_at mid row) → Becomes (TakesIn changes) (place_at mid row) (place_at new row) → OthersStay row mid new
    → AreCopied table checks places mid → AreCopied table checks places new
added_copied table checks places mid new row changes there becomes others each =
    each_row (λ (other : RowName). (place : Place) → place_at new other ≡ Some place → IsCopied table checks places other place) row
    (λ place is. at place is (place_at mid row) refl)
    (λ other apart place is. each other place (sym (others other apart) ∙ is))
  where
    at : (place : Place) → place_at new row ≡ Some place → (was : Option Place) → place_at mid row ≡ was → IsCopied table checks places row place
    at place is None none = absurd (false≢true (sym (ap is_some none) ∙ there))
    at place is (Some kept) some =
        let taken = becomes kept some in
        let same : taken.0 ≡ place = cc (taken.1, is) in
        let known = each row kept some in
        record {
          within = known.within;
          copied = known.copied;
          found = known.found;
          amounts = ap (λ (p : Place). p.amounts) (sym same) ∙ taken.2.amounts ∙ known.amounts;
          checks_are = ap (λ (p : Place). checks_of p.checks) (sym same) ∙ taken.2.checks ∙ known.checks_are;
        }

-- the row's place, made if there was none, counts one more reservation of the table
pub filled_more : (table : List ℕ) (checks : List Check) (held : List Reservation) (places old mid new : Bounds) (r : Reservation) (copied : Place) (amounts changes : List ℤ)
    → bytes_eq r.row.table table ≡ true → place_at places r.row ≡ Some copied → amounts ≡ copied.amounts → changes ≡ deltas r.changes
    → (IsSome (place_at old r.row) → mid ≡ old) → (place_at old r.row ≡ None → (place : Place) × (place_at mid r.row ≡ Some place) × IsNew amounts checks place) → OthersStay r.row old mid
    → Becomes (TakesIn changes) (place_at mid r.row) (place_at new r.row) → OthersStay r.row mid new
    → AreFilled table checks held places old → AreFilled table checks (held ++ r ∷ []) places new
filled_more table checks held places old mid new r copied amounts changes within has is adds found made others becomes stay filled =
    let some = of_table table held in
    let there = reserved_there old mid r.row amounts checks found made in
    let takes = subst (λ (cs : List ℤ). Becomes (TakesIn cs) (place_at mid r.row) (place_at new r.row)) adds becomes in
    let counts = subst (λ (rs : List Reservation). CountsAll mid rs) (sym (append-nil some)) (reserve_counts old mid r.row amounts checks some filled.counts found made others) in
    record {
      counts = subst (λ (rs : List Reservation). CountsAll new rs) (sym (of_table_own table held r within)) (add_counts mid new r some [] counts there takes stay);
      each = added_copied table checks places mid new r.row changes there becomes stay (reserved_copied table checks places old mid r.row copied amounts within has is found made others filled.each);
    }

-- ---- the reservations, one after another

-- an item of a list of references, and the value that it refers to
pub shown_at : (rs : List (Bor Reservation)) (i : ℕ) (r : Bor Reservation) → i < length rs → r ≡ get_or rs i r
    → (i < length (map (λ (q : Bor Reservation). q.now) rs)) × (r.now ≡ get_or (map (λ (q : Bor Reservation). q.now) rs) i r.now)
shown_at [] i r below is = absurd (omega (arith, below))
shown_at (q ∷ rs) zero r below is = (omega arith, ap (λ (s : Bor Reservation). s.now) is)
shown_at (q ∷ rs) (suc i) r below is =
    let rest = shown_at rs i r (omega (arith, below)) is in
    (omega (arith, rest.0), rest.1)

pub length-shown : (rs : List (Bor Reservation)) → length (map (λ (q : Bor Reservation). q.now) rs) ≡ length rs
length-shown [] = refl
length-shown (q ∷ rs) = ap suc (length-shown rs)

has_at : (held : List Reservation) (i : ℕ) (r : Reservation) → i < length held → r ≡ get_or held i r → Has held r
has_at [] i r below is = absurd (omega (arith, below))
has_at (first ∷ held) zero r below is = inl (sym is)
has_at (first ∷ held) (suc i) r below is = inr (has_at held i r (omega (arith, below)) is)

-- the row of an open reservation has a place
pub open_there : (places : Bounds) (held : List Reservation) (i : ℕ) (r : Reservation) → i < length held → r ≡ get_or held i r → AllCount places → CountsAll places held → IsSome (place_at places r.row)
open_there places held i r below is counting counts =
    placed_is places held r.row counting counts ∙ has_any (λ (q : Reservation). same_row q.row r.row) held r (has_at held i r below is) (same_row_itself r.row)

longer : (b : Bool) (changes : List ℤ) (some all : List (List ℤ)) → length some < length all → length (cond b (changes ∷ some) some) < length (cond b (changes ∷ all) all)
longer true changes some all few = omega (arith, few)
longer false changes some all few = few

-- those before a reservation of a row are fewer than all of the row
fewer_taken : (held : List Reservation) (i : ℕ) (r : Reservation) → i < length held → r ≡ get_or held i r → length (of_row r.row (take i held)) < length (of_row r.row held)
fewer_taken [] i r below is = absurd (omega (arith, below))
fewer_taken (first ∷ held) zero r below is =
    let own : same_row r.row first.row ≡ true = ap (λ (q : Reservation). same_row r.row q.row) (sym is) ∙ same_row_itself r.row in
    subst (λ (b : Bool). 0 < length (cond b (deltas first.changes ∷ of_row r.row held) (of_row r.row held))) (sym own) (omega arith)
fewer_taken (first ∷ held) (suc i) r below is =
    longer (same_row r.row first.row) (deltas first.changes) (of_row r.row (take i held)) (of_row r.row held) (fewer_taken held i r (omega (arith, below)) is)

-- while not all reservations are counted, a place has room for one more
pub filled_room : (table : List ℕ) (checks : List Check) (held : List Reservation) (i : ℕ) (places filled : Bounds) (r : Reservation) → i < length held → r ≡ get_or held i r
    → length (of_row r.row held) ≤ MAX_OPEN
    → AreFilled table checks (take i held) places filled → (place : Place) → place_at filled r.row ≡ Some place → place.count < MAX_OPEN
filled_room table checks held i places filled r below is many are place at =
    let row = r.row in
    let known : CountsJust (Some place) (of_row row (of_table table (take i held))) = subst (λ (p : Option Place). CountsJust p (of_row row (of_table table (take i held)))) at (are.counts row) in
    let few = few_of_table table row (take i held) in
    let fewer = fewer_taken held i r below is in
    omega (arith, known.0, few, fewer, many)

pub filled_next : (table : List ℕ) (checks : List Check) (held : List Reservation) (i : ℕ) (places old new : Bounds) (r : Reservation) → i < length held → r ≡ get_or held i r
    → ((some : List Reservation) → AreFilled table checks some places old → AreFilled table checks (some ++ r ∷ []) places new)
    → AreFilled table checks (take i held) places old → AreFilled table checks (take (i + 1) held) places new
filled_next table checks held i places old new r below is step are =
    let more : take (i + 1) held ≡ take i held ++ r ∷ [] = take_more held i r below ∙ ap (λ (q : Reservation). take i held ++ q ∷ []) (sym is) in
    subst (λ (some : List Reservation). AreFilled table checks some places new) (sym more) (step (take i held) are)

-- ---- all reservations are counted

prepared_own : (table : List ℕ) (checks : List Check) (held : List Reservation) (places filled : Bounds) (row : RowName) (was now : Option Place)
    → place_at places row ≡ was → place_at filled row ≡ now → CountsJust was (of_row row held) → CountsJust now (of_row row held)
    → ((kept : Place) → was ≡ Some kept → 0 < kept.count) → ((place : Place) → now ≡ Some place → IsCopied table checks places row place)
    → Goes (IsOver checks (of_row row held)) was now
prepared_own table checks held places filled row None None has is before after counting each = refl
prepared_own table checks held places filled row None (Some place) has is before after counting each =
    let copied = (each place refl).found in
    absurd (cc (has, copied))
prepared_own table checks held places filled row (Some kept) None has is before after counting each =
    let above = counting kept refl in
    let none = ap length after in
    absurd (omega (arith, above, before.0, none))
prepared_own table checks held places filled row (Some kept) (Some place) has is before after counting each =
    let known = each place refl in
    let same : known.copied ≡ kept = cc (known.found, has) in
    (place, refl, record { amounts = known.amounts ∙ ap (λ (p : Place). p.amounts) same; checks_are = known.checks_are; counts = after })

-- filled with all open reservations, the places are an addition
pub prepared : (table : List ℕ) (checks : List Check) (held : List Reservation) (i : ℕ) (places filled : Bounds) → length held ≤ i → CountsAll places held → AllCount places
    → AreFilled table checks (take i held) places filled → ArePrepared table checks held places filled
prepared table checks held i places filled past counts counting some =
    let are : AreFilled table checks held places filled = subst (λ (rs : List Reservation). AreFilled table checks rs places filled) (take_all i held past) some in
    record {
      own = λ row within.
          prepared_own table checks held places filled row (place_at places row) (place_at filled row) refl refl (counts row)
          (subst (λ (zs : List (List ℤ)). CountsJust (place_at filled row) zs) (own_of_table table row held within) (are.counts row))
          (counting row) (are.each row);
      others = λ row apart. none (place_at filled row) row apart (are.each row);
    }
  where
    none : (now : Option Place) (row : RowName) → bytes_eq row.table table ≡ false → ((place : Place) → now ≡ Some place → IsCopied table checks places row place) → now ≡ None
    none None row apart each = refl
    none (Some place) row apart each = absurd (false≢true (sym apart ∙ (each place refl).within))

-- ---- a row's table

pub of_the_table : (is apart : Bool) → apart ≡ not is → apart ≡ false → is ≡ true
of_the_table true apart so fails = refl
of_the_table false apart so fails = absurd (cc (so, fails))
