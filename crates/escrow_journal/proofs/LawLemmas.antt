-- The laws of journals.
use Rattle.std.specs.Prelude.{◌≡◌, ◌≢◌, ℕ, ◌<◌, Bool, true, false, not, ◌&&◌, ◌==◌, nat_le, cond, List, [], ◌∷◌, ◌++◌, filter, find, Option, Some, None, option_map, unwrap_or, bytes_eq}
use Rattle.std.specs.List.{AllByRecursion}
use Rattle.std.specs.Option.{option_or}
use Rattle.std.proofs.Common.{refl, sym, ap, ap₂, ◌∙◌, arith, eq-eqb, append-nil, append_assoc, length-append}
use Rattle.std.proofs.lemmas.Bool.{cond_both, not-true, and_parts, and_right, false_from_ne_true, eqb-true, le-leb, lt-leb}
use Rattle.std.proofs.lemmas.List.{take-append-drop}
use Rattle.std.proofs.lemmas.List.Elements.{filter-append}
use Rattle.std.proofs.lemmas.List.Folds.{find-append}
use Rattle.escrow_num.specs.declared.reservation.Reservation.{Reservation}
use Rattle.escrow_num.specs.declared.reservation.Savepoint.{Savepoint}
use Rattle.escrow_num.proofs.Items.{find_has, find_none, has_all, all_filter}
use Rattle.escrow_num.proofs.Orders.{name_same, same_name}
use Rattle.escrow_journal.specs.Laws.{CameBefore, CameSince, all_pushed, GoingBackAtOnceDropsNothing, GoingBackUndoesWhatCame, GoingBackDropsLaterSavepoints, GoingBackAgainDropsNothing, NothingIsLost, TheLastOfANameStands, ANameTakesOnePlace}
use Rattle.escrow_journal.specs.Journal.{Journal, pushed, marked, later, cut_journal, cut_at}
use Rattle.escrow_journal.specs.Reservations.{other_savepoints}
use Rattle.escrow_journal.specs.Savepoints.{is_named, savepoint_of, without_savepoint, through, is_after, after, not_after}
use Rattle.escrow_journal.proofs.Filters.{filter_all, filter_none, fewer_others}
use Rattle.escrow_journal.proofs.Kept.{all_push}
use Rattle.escrow_journal.proofs.Ordered.{first_from, after_is, not_after_is}

-- ---- lists

-- if no item passes, the filter keeps none
filter_empty : {X : Type 0} (p : X → Bool) (xs : List X) → AllByRecursion (λ x. p x ≡ false) xs → filter p xs ≡ []
filter_empty p [] none = refl
filter_empty p (x ∷ xs) none = rw none.0 (filter_empty p xs none.1)

-- the opposite test then keeps all
filter_kept : {X : Type 0} (p : X → Bool) (xs : List X) → AllByRecursion (λ x. p x ≡ false) xs → filter (λ x. not (p x)) xs ≡ xs
filter_kept p [] none = refl
filter_kept p (x ∷ xs) none = rw none.0 (ap (λ ys. x ∷ ys) (filter_kept p xs none.1))

-- no item that was left out passes
left_out : {X : Type 0} (p : X → Bool) (xs : List X) → AllByRecursion (λ x. p x ≡ false) (filter (λ x. not (p x)) xs)
left_out p [] = tt
left_out p (x ∷ xs) =
    cond_both (not (p x)) (x ∷ filter (λ y. not (p y)) xs) (filter (λ y. not (p y)) xs) (λ ys. AllByRecursion (λ y. p y ≡ false) ys)
    (λ t. (not-true (p x) t, left_out p xs)) (λ _. left_out p xs)

-- after items that fail, the first that passes is found
found_behind : {X : Type 0} (p : X → Bool) (xs : List X) (y : X) → AllByRecursion (λ x. p x ≡ false) xs → p y ≡ true → find p (xs ++ y ∷ []) ≡ Some y
found_behind p [] y none e = rw e
found_behind p (x ∷ xs) y none e = rw none.0 (found_behind p xs y none.1 e)

-- the value that a mapped option comes from
comes_from : {A B : Type 0} (f : A → B) (o : Option A) (y : B) → option_map f o ≡ Some y → (x : A) × (o ≡ Some x) × (f x ≡ y)
comes_from f None y e = absurd (cc)
comes_from f (Some x) y e = let same : f x ≡ y = cc in (x, refl, same)

-- ---- a new savepoint

-- it is the session's savepoint of this name
abbrev made : List ℕ → ℕ → Journal → Savepoint
made name id journal = record { session = journal.session; name = name; id = id }

made_named : (name : List ℕ) (id : ℕ) (journal : Journal) → is_named journal.session name (made name id journal) ≡ true
made_named name id journal = ap₂ (λ a b. a && b) (eq-eqb journal.session journal.session refl) (same_name name)

made_found : (name : List ℕ) (id : ℕ) (journal : Journal) → savepoint_of journal.session name (marked name id journal).savepoints ≡ Some (made name id journal)
made_found name id journal =
    found_behind (is_named journal.session name) (without_savepoint journal.session name journal.savepoints) (made name id journal)
    (left_out (is_named journal.session name) journal.savepoints) (made_named name id journal)

-- the savepoints up to it are those before it
through_made : (session : ℕ) (name : List ℕ) (ps rest : List Savepoint) (p : Savepoint) → AllByRecursion (λ q. is_named session name q ≡ false) ps
    → is_named session name p ≡ true → through session name (ps ++ p ∷ rest) ≡ ps ++ p ∷ other_savepoints session rest
through_made session name [] rest p none e = rw e
through_made session name (q ∷ ps) rest p none e = rw none.0 (ap (λ qs. q ∷ qs) (through_made session name ps rest p none.1 e))

-- ---- a return to a savepoint

pushed_is : (more : List Reservation) (journal : Journal) → all_pushed more journal ≡ record journal { reservations = journal.reservations ++ more }
pushed_is [] journal = ap (λ rs. record journal { reservations = rs }) (sym (append-nil journal.reservations))
pushed_is (r ∷ rest) journal = pushed_is rest (pushed r journal) ∙ ap (λ rs. record journal { reservations = rs }) (append_assoc journal.reservations (r ∷ []) rest)

before_is : (name : List ℕ) (id : ℕ) (journal : Journal) (rs : List Reservation) → AllByRecursion (λ r. r.id < id) rs
    → AllByRecursion (λ r. is_after (made name id journal) r ≡ false) rs
before_is name id journal [] below = tt
before_is name id journal (r ∷ rs) below = (and_right (r.session == journal.session) (nat_le id r.id) (lt-leb id r.id below.0), before_is name id journal rs below.1)

since_is : (name : List ℕ) (id : ℕ) (journal : Journal) (rs : List Reservation) → CameSince id journal rs → AllByRecursion (λ r. is_after (made name id journal) r ≡ true) rs
since_is name id journal [] since = tt
since_is name id journal (r ∷ rs) since =
    (ap₂ (λ a b. a && b) (eq-eqb r.session journal.session since.0.0) (le-leb id r.id since.0.1), since_is name id journal rs since.1)

module _ (journal : Journal) (name : List ℕ) (id : ℕ) (more : List Reservation) (below : CameBefore id journal) (since : CameSince id journal more) where
  abbrev with_more : Journal
  with_more = record (marked name id journal) { reservations = journal.reservations ++ more }

  after_made : after (made name id journal) (journal.reservations ++ more) ≡ more
  after_made =
      filter-append (is_after (made name id journal)) journal.reservations more
      ∙ ap₂ (λ xs ys. xs ++ ys) (filter_empty (is_after (made name id journal)) journal.reservations (before_is name id journal journal.reservations below))
      (filter_all (is_after (made name id journal)) more (since_is name id journal more since))

  not_after_made : not_after (made name id journal) (journal.reservations ++ more) ≡ journal.reservations
  not_after_made =
      filter-append (λ r. not (is_after (made name id journal) r)) journal.reservations more
      ∙ ap₂ (λ xs ys. xs ++ ys) (filter_kept (is_after (made name id journal)) journal.reservations (before_is name id journal journal.reservations below))
      (filter_none (is_after (made name id journal)) more (since_is name id journal more since))
      ∙ append-nil journal.reservations

  marks_made : through journal.session name (marked name id journal).savepoints ≡ (marked name id journal).savepoints
  marks_made =
      through_made journal.session name (without_savepoint journal.session name journal.savepoints) [] (made name id journal)
      (left_out (is_named journal.session name) journal.savepoints) (made_named name id journal)

  pub going_back : (later name (all_pushed more (marked name id journal)) ≡ Some more) × (cut_journal name (all_pushed more (marked name id journal)) ≡ marked name id journal)
  going_back = (
    ap (λ (l : Journal). later name l) (pushed_is more (marked name id journal))
        ∙ ap (λ (o : Option Savepoint). option_map (λ p. after p (journal.reservations ++ more)) o) (made_found name id journal)
        ∙ ap (λ (rs : List Reservation). Some rs) after_made,
    ap (λ (l : Journal). cut_journal name l) (pushed_is more (marked name id journal))
        ∙ ap (λ (o : Option Savepoint). unwrap_or (option_map (cut_at with_more) o) with_more) (made_found name id journal)
        ∙ ap₂ (λ (rs : List Reservation) (ps : List Savepoint). record with_more { reservations = rs; savepoints = ps }) not_after_made marks_made,
  )

pub going_back_undoes_what_came : GoingBackUndoesWhatCame
going_back_undoes_what_came = λ journal name id more below since. going_back journal name id more below since

pub going_back_at_once_drops_nothing : GoingBackAtOnceDropsNothing
going_back_at_once_drops_nothing = λ journal name id below. going_back journal name id [] below tt

-- a savepoint of another name, made later
module _ (journal : Journal) (name other : List ℕ) (id later_id : ℕ) (more : List Reservation) (below : CameBefore id journal) (since : CameSince id journal more)
    (apart : other ≢ name) (new : savepoint_of journal.session other journal.savepoints ≡ None) where
  abbrev others : List Savepoint
  others = without_savepoint journal.session name journal.savepoints

  abbrev with_later : Journal
  with_later = marked other later_id (with_more journal name id more below since)

  -- it replaces none
  takes_none : without_savepoint journal.session other (others ++ made name id journal ∷ []) ≡ others ++ made name id journal ∷ []
  takes_none =
      let is_other = is_named journal.session other in
      let none = has_all (λ p. is_other p ≡ false) journal.savepoints (find_none is_other journal.savepoints new) in
      let rest = all_filter (λ p. is_other p ≡ false) (λ p. not (is_named journal.session name p)) journal.savepoints none in
      let differs = false_from_ne_true (bytes_eq name other) (λ t. apart (sym (name_same name other t))) in
      filter_kept is_other (others ++ made name id journal ∷ [])
      (all_push (λ p. is_other p ≡ false) others (made name id journal) rest (and_right (journal.session == journal.session) (bytes_eq name other) differs))

  -- it is removed
  later_goes : through journal.session name with_later.savepoints ≡ (marked name id journal).savepoints
  later_goes =
      let last = made other later_id journal in
      ap (λ (ps : List Savepoint). through journal.session name (ps ++ last ∷ [])) takes_none
      ∙ ap (λ (ps : List Savepoint). through journal.session name ps) (append_assoc others (made name id journal ∷ []) (last ∷ []))
      ∙ through_made journal.session name others (last ∷ []) (made name id journal) (left_out (is_named journal.session name) journal.savepoints) (made_named name id journal)
      ∙ ap (λ (ps : List Savepoint). others ++ made name id journal ∷ ps) (filter_none (λ (p : Savepoint). p.session == journal.session) (last ∷ []) (eq-eqb journal.session journal.session refl, tt))

  still_there : savepoint_of journal.session name with_later.savepoints ≡ Some (made name id journal)
  still_there =
      let last = made other later_id journal in
      ap (λ (ps : List Savepoint). savepoint_of journal.session name (ps ++ last ∷ [])) takes_none
      ∙ find-append (is_named journal.session name) (others ++ made name id journal ∷ []) (last ∷ [])
      ∙ ap (λ (o : Option Savepoint). option_or o (savepoint_of journal.session name (last ∷ []))) (made_found name id journal)

  pub later_dropped : cut_journal name (marked other later_id (all_pushed more (marked name id journal))) ≡ marked name id journal
  later_dropped =
      ap (λ (l : Journal). cut_journal name (marked other later_id l)) (pushed_is more (marked name id journal))
      ∙ ap (λ (o : Option Savepoint). unwrap_or (option_map (cut_at with_later) o) with_later) still_there
      ∙ ap₂ (λ (rs : List Reservation) (ps : List Savepoint). record with_later { reservations = rs; savepoints = ps }) (not_after_made journal name id more below since) later_goes

pub going_back_drops_later_savepoints : GoingBackDropsLaterSavepoints
going_back_drops_later_savepoints = λ journal name other id later_id more below since apart new. later_dropped journal name other id later_id more below since apart new

-- ---- the savepoint to which a journal returns

-- it is the session's savepoint of the name, and the dropped reservations came after it
gone_back : (journal : Journal) (name : List ℕ) (dropped : List Reservation) → later name journal ≡ Some dropped
    → (p : Savepoint) × (savepoint_of journal.session name journal.savepoints ≡ Some p) × (after p journal.reservations ≡ dropped)
gone_back journal name dropped e = comes_from (λ (p : Savepoint). after p journal.reservations) (savepoint_of journal.session name journal.savepoints) dropped e

cut_found : (journal : Journal) (name : List ℕ) (p : Savepoint) → savepoint_of journal.session name journal.savepoints ≡ Some p → cut_journal name journal ≡ cut_at journal p
cut_found journal name p found = ap (λ (o : Option Savepoint). unwrap_or (option_map (cut_at journal) o) journal) found

pub nothing_is_lost : NothingIsLost
nothing_is_lost = λ journal name dropped valid e.
    let p = gone_back journal name dropped e in
    let passes = (find_has (is_named journal.session name) journal.savepoints p.0 p.1).1 in
    let same = eqb-true p.0.session journal.session (and_parts (p.0.session == journal.session) (bytes_eq p.0.name name) passes).0 in
    let n = first_from p.0.id journal.reservations in
    ap (λ (l : Journal). l.reservations ++ dropped) (cut_found journal name p.0 p.1)
    ∙ ap₂ (λ xs ys. xs ++ ys)
    (not_after_is p.0 journal.session journal.reservations same valid.reservations_own valid.reservation_order)
    (sym p.2 ∙ after_is p.0 journal.session journal.reservations same valid.reservations_own valid.reservation_order)
    ∙ take-append-drop n journal.reservations

-- it is still among the savepoints up to it
still_step : (b : Bool) (p : Savepoint) (others more : List Savepoint) (test : Savepoint → Bool) (found : Option Savepoint) → test p ≡ b → find test more ≡ found
    → find test (cond b (p ∷ others) (p ∷ more)) ≡ cond b (Some p) found
still_step true p others more test found e rest = rw e
still_step false p others more test found e rest = rw e rest

still_found : (session : ℕ) (name : List ℕ) (ps : List Savepoint) → savepoint_of session name (through session name ps) ≡ savepoint_of session name ps
still_found session name [] = refl
still_found session name (p ∷ ps) =
    still_step (is_named session name p) p (other_savepoints session ps) (through session name ps) (is_named session name)
    (savepoint_of session name ps) refl (still_found session name ps)

pub going_back_again_drops_nothing : GoingBackAgainDropsNothing
going_back_again_drops_nothing = λ journal name dropped e.
    let p = gone_back journal name dropped e in
    let passes = (find_has (is_named journal.session name) journal.savepoints p.0 p.1).1 in
    let named = name_same p.0.name name (and_parts (p.0.session == journal.session) (bytes_eq p.0.name name) passes).1 in
    let found = ap (λ text. savepoint_of journal.session name (through journal.session text journal.savepoints)) named ∙ still_found journal.session name journal.savepoints ∙ p.1 in
    ap (λ (l : Journal). later name l) (cut_found journal name p.0 p.1)
    ∙ ap (λ (o : Option Savepoint). option_map (λ q. after q (not_after p.0 journal.reservations)) o) found
    ∙ ap (λ (rs : List Reservation). Some rs) (filter_empty (is_after p.0) (not_after p.0 journal.reservations) (left_out (is_after p.0) journal.reservations))

-- ---- names

pub the_last_of_a_name_stands : TheLastOfANameStands
the_last_of_a_name_stands = λ journal name first second.
    let test = is_named journal.session name in
    let others = without_savepoint journal.session name journal.savepoints in
    let out = left_out test journal.savepoints in
    let old = filter_none test (made name first journal ∷ []) (made_named name first journal, tt) in
    let again = filter-append (λ p. not (test p)) others (made name first journal ∷ []) ∙ ap₂ (λ xs ys. xs ++ ys) (filter_kept test others out) old ∙ append-nil others in
    let last = made name second journal in (
      ap (λ (ps : List Savepoint). record journal { savepoints = ps ++ last ∷ [] }) again,
      filter-append test others (last ∷ []) ∙ ap₂ (λ xs ys. xs ++ ys) (filter_empty test others out) (filter_all test (last ∷ []) (made_named name second journal, tt)),
    )

pub a_name_takes_one_place : ANameTakesOnePlace
a_name_takes_one_place = λ journal name id stands.
    let fewer = fewer_others (is_named journal.session name) journal.savepoints stands in
    omega (arith, length-append (without_savepoint journal.session name journal.savepoints) (made name id journal ∷ []))
