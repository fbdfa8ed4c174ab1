-- The new amounts of COMMIT: those of each reserved row, computed from the given amounts.
use Rattle.std.proofs.Common.{◌≡◌, ℤ, List, Some, option_map, [], ◌∷◌, ◌++◌, suc, ◌<◌, ◌-◌, map, filter, length, get_or, true, false, refl, sym, ap, ◌∙◌, subst, subst₂, arith, IsPermutation}
use Rattle.std.specs.List.{AllByRecursion, IsChunkByPrefix}
use Rattle.std.specs.Ordering.{is_lt}
use Rattle.std.proofs.lemmas.List.{append-nil, append_assoc}
use Rattle.std.proofs.lemmas.List.Sorted.{IsPermutation-sym}
use Rattle.std.proofs.lemmas.Option.{same_Some}
use Rattle.sqlite_trees.proofs.ListLemmas.{all-append, all-map, all-permutation, all_weaker}
use Rattle.escrow_num.specs.declared.reservation.Reservation.{Reservation}
use Rattle.escrow_num.specs.declared.row.Row.{Row}
use Rattle.escrow_num.specs.declared.value.RowName.{RowName}
use Rattle.escrow_num.specs.Order.{same_row, row_cmp}
use Rattle.escrow_num.proofs.Items.{find_has}
use Rattle.escrow_num.proofs.Orders.{row_same}
use Rattle.escrow_checks.specs.Form.{all_changed}
use Rattle.escrow_rows.specs.declared.amounts.NewAmounts.{NewAmounts}
use Rattle.escrow_schema.specs.declared.stored.StoredTable.{StoredTable}
use Rattle.escrow_rows.specs.Changes.{Stands}
use Rattle.escrow_schema.specs.Rows.{replaced, row_named}
use Rattle.escrow_tables.specs.Calls.{AreGiven}
use Rattle.escrow_tables.specs.Puts.{ArePuts, IsFor, TellsPut, changed_by, row_put}
use Rattle.escrow_tables.specs.RowChanges.{added_by, by_row, row_of}
use Rattle.escrow_tables.specs.declared.changed_rows.RowChange.{RowChange}
use Rattle.escrow_tables.proofs.Puts.{for_itself, for_more}
use Rattle.escrow_tables.proofs.RowChanges.{AreInOrder, in_order_behind, own_alone, own_and_others}

-- the amounts given with a change are those of its row
abbrev pub IsGiven : List Row → RowChange → Type 0
IsGiven rows c = option_map (λ (row : Row). row.amounts) (row_named rows (row_of c)) ≡ Some c.before.now

pub given_each : (rows : List Row) (changes : List RowChange) → AreGiven rows (map (λ c. c.reservation.now) changes) (map (λ c. c.before.now) changes) → AllByRecursion (IsGiven rows) changes
given_each rows [] given = tt
given_each rows (c ∷ changes) given =
    let here : IsGiven rows c = cc in
    let later : AreGiven rows (map (λ c. c.reservation.now) changes) (map (λ c. c.before.now) changes) = cc in
    (here, given_each rows changes later)

-- new amounts computed from them
pub put_told : (rows : List Row) (reservations : List Reservation) (put : NewAmounts) (name : RowName) (before : List ℤ) → row_put put ≡ name
    → option_map (λ (row : Row). row.amounts) (row_named rows name) ≡ Some before → replaced put.amounts before ≡ changed_by reservations name before → TellsPut rows reservations put
put_told rows reservations put name before is given made row named =
    let same : before ≡ row.amounts = same_Some before row.amounts (sym given ∙ ap (λ (n : RowName). option_map (λ (r : Row). r.amounts) (row_named rows n)) (sym is) ∙ ap (option_map (λ (r : Row). r.amounts)) named) in
    let own : name ≡ row.name = sym is ∙ sym (row_same row.name (row_put put) (find_has (λ (r : Row). same_row r.name (row_put put)) rows row named).1) in
    subst₂ (λ (amounts : List ℤ) (n : RowName). replaced put.amounts amounts ≡ changed_by reservations n amounts) same own made

-- The rows of the changes so far have new amounts. Those that are left are in order, and behind them.
pub record ArePutSoFar (tables : List StoredTable) (reservations : List Reservation) (all left : List RowChange) (news : List NewAmounts) : Type 0 where
  pub done : List RowChange
  pub parts : done ++ left ≡ all
  pub behind : AllByRecursion (λ c. AllByRecursion (λ d. is_lt (by_row c d) ≡ true) left) done
  pub order : AreInOrder left
  pub stand : AllByRecursion (λ (new : NewAmounts). Stands tables new.table.now) news
  pub rows : AllByRecursion (λ (c : RowChange). IsFor news c.reservation.now) done
  pub told : (rows : List Row) → AllByRecursion (IsGiven rows) all → AllByRecursion (TellsPut rows reservations) news

pub none_put : (tables : List StoredTable) (reservations : List Reservation) (all : List RowChange) → AreInOrder all → ArePutSoFar tables reservations all all []
none_put tables reservations all order = record {
  done = [];
  parts = refl;
  behind = tt;
  order = order;
  stand = tt;
  rows = tt;
  told = λ rows given. tt;
}

-- what holds for all items holds for those behind the first few, and for the first of these
all_behind : {A : Type 0} (P : A → Type 0) (xs ys : List A) → AllByRecursion P (xs ++ ys) → AllByRecursion P ys
all_behind P [] ys all = all
all_behind P (x ∷ xs) ys all = all_behind P xs ys all.1

-- one more row gets its new amounts, by all its changes
pub row_put_more : (tables : List StoredTable) (reservations : List Reservation) (all left others : List RowChange) (news : List NewAmounts) (new : NewAmounts) (own : List RowChange) → 0 < length own
    → left ≡ own ++ others → IsChunkByPrefix (λ a b. same_row (row_of a) (row_of b)) left (length own)
    → ((c : RowChange) (before : List ℤ) → changed_by reservations (row_of c) before ≡ all_changed before (map added_by (filter (λ d. same_row (row_of c) (row_of d)) all)))
    → Stands tables new.table.now → ((first : RowChange) (more : List RowChange) → own ≡ first ∷ more → row_put new ≡ row_of first)
    → ((first : RowChange) (more : List RowChange) → own ≡ first ∷ more → replaced new.amounts first.before.now ≡ all_changed first.before.now (map added_by own))
    → ArePutSoFar tables reservations all left news → ArePutSoFar tables reservations all others (news ++ new ∷ [])
row_put_more tables reservations all left others news new [] some parts ends kept stands is made so_far = absurd (omega arith)
row_put_more tables reservations all left others news new (first ∷ more) some parts ends kept stands is made so_far =
    let own : List RowChange = first ∷ more in
    let name : row_put new ≡ row_of first = is first more refl in
    let left_order : AreInOrder (own ++ others) = subst AreInOrder parts so_far.order in
    let prefix = subst (λ (cs : List RowChange). IsChunkByPrefix (λ a b. same_row (row_of a) (row_of b)) cs (length own)) parts ends in
    let run = own_and_others first more others left_order prefix.0 (λ below d.
    let last : suc (length more) - 1 ≡ length more = omega arith in
    subst (λ i. same_row (row_of (get_or (own ++ others) i d)) (row_of (get_or (more ++ others) (length more) d)) ≡ false) last (prefix.1 (omega (arith, below)) d)) in
    let same : AllByRecursion (λ c. row_of first ≡ row_of c) own = (refl, run.0) in
    let all_are : so_far.done ++ (own ++ others) ≡ all = ap (λ cs. so_far.done ++ cs) (sym parts) ∙ so_far.parts in
    let behind = subst (λ cs. AllByRecursion (λ c. AllByRecursion (λ d. is_lt (by_row c d) ≡ true) cs) so_far.done) parts so_far.behind in
    let alone : filter (λ c. same_row (row_of first) (row_of c)) all ≡ own =
    ap (filter (λ c. same_row (row_of first) (row_of c))) (sym all_are) ∙ own_alone first so_far.done own others (all_weaker _ _ (λ c before. before.0) so_far.done behind) same run.1 in
    let changed : replaced new.amounts first.before.now ≡ changed_by reservations (row_of first) first.before.now =
    made first more refl ∙ sym (kept first first.before.now ∙ ap (λ cs. all_changed first.before.now (map added_by cs)) alone) in
    record {
      done = so_far.done ++ own;
      parts = append_assoc so_far.done own others ∙ all_are;
      behind = all-append _ so_far.done own (all_weaker _ _ (λ c before. all_behind (λ d. is_lt (by_row c d) ≡ true) own others before) so_far.done behind)
          (all_weaker _ _ (λ c e. subst (λ (n : RowName). AllByRecursion (λ d. is_lt (row_cmp n (row_of d)) ≡ true) others) e run.1) own same);
      order = in_order_behind own others left_order;
      stand = all-append _ news (new ∷ []) so_far.stand (stands, tt);
      rows = all-append _ so_far.done own (all_weaker _ _ (λ c for. for_more news new c.reservation.now for) so_far.done so_far.rows)
          (all_weaker _ _ (λ c e. for_itself news new c.reservation.now (name ∙ e)) own same);
      told = λ rows given. all-append _ news (new ∷ []) (so_far.told rows given) (
        put_told rows reservations new (row_of first) first.before.now name (all_behind (IsGiven rows) so_far.done (own ++ others) (subst (AllByRecursion (IsGiven rows)) (sym all_are) given)).0 changed,
        tt,
      );
    }

-- in the end each reservation's row has new amounts
module _ (tables : List StoredTable) (reservations : List Reservation) (changes all left : List RowChange) (news : List NewAmounts) (are : map (λ c. c.reservation.now) changes ≡ reservations)
    (same : IsPermutation changes all) (none : length left ≡ 0) (so_far : ArePutSoFar tables reservations all left news) where
  all_done : so_far.done ≡ all
  all_done = done left none so_far.parts
    where
      done : (left : List RowChange) → length left ≡ 0 → so_far.done ++ left ≡ all → so_far.done ≡ all
      done [] none parts = sym (append-nil so_far.done) ∙ parts
      done (c ∷ left) none parts = absurd (omega (arith, none))

  pub all_put : ArePuts tables reservations news
  all_put = record {
    stand = so_far.stand;
    rows =
        let each = subst (AllByRecursion (λ (c : RowChange). IsFor news c.reservation.now)) all_done so_far.rows in
        subst (AllByRecursion (IsFor news)) are
        (all-map (IsFor news) (λ (c : RowChange). c.reservation.now) changes (all-permutation _ all changes (IsPermutation-sym changes all same) each));
  }

  pub all_told : (befores : List (List ℤ)) → map (λ c. c.before.now) changes ≡ befores → (rows : List Row) → AreGiven rows reservations befores → AllByRecursion (TellsPut rows reservations) news
  all_told befores are_before rows given =
      let each = given_each rows changes (subst₂ (λ rs bs. AreGiven rows rs bs) (sym are) (sym are_before) given) in
      so_far.told rows (all-permutation (IsGiven rows) changes all same each)
