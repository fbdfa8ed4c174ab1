-- Empty journals.
use Rattle.std.specs.Prelude.{◌≡◌, ℕ, ◌+◌, ◌<◌, ◌≤◌, List, [], ◌∷◌, ◌++◌, length, map}
use Rattle.std.specs.List.{AllByRecursion}
use Rattle.std.proofs.Common.{refl, ap, ap₂, sym, subst, ◌∙◌, take, drop, set, get_or, arith}
use Rattle.std.proofs.lemmas.List.{append-nil, append_assoc, length-map, drop_more, drop_all, take_all, take_more_set, drop-set-lt, length_push}
use Rattle.escrow_num.specs.Session.{IsSession}
use Rattle.escrow_num.specs.declared.session.TheConstants.Session.{MAX}
use Rattle.escrow_journal.specs.Journal.{Journal, IsJournal, empty_journal}
use Rattle.escrow_txn.specs.Joined.{AreJournals, IsBelow, by_id, opened}
use Rattle.escrow_txn.specs.Sessions.{AreEmpty, AreNumbered}
use Rattle.escrow_journal.specs.Open.{nothing_open}
use Rattle.escrow_txn.proofs.Places.{all_append}
use Rattle.escrow_txn.proofs.Sessions.{reservations_of, savepoints_of, open_with}

-- one more journal, of the next session
numbered_push : (first : ℕ) (logs : List Journal) (journal : Journal) → AreNumbered first logs → journal.session ≡ first + length logs → AreNumbered first (logs ++ journal ∷ [])
numbered_push first [] journal numbered is = (is ∙ omega arith, tt)
numbered_push first (x ∷ logs) journal numbered is = (numbered.0, numbered_push (1 + first) logs journal numbered.1 (is ∙ omega arith))

each_push : (logs : List Journal) (journal : Journal) → AllByRecursion (λ l. l ≡ empty_journal l.session) logs → journal ≡ empty_journal journal.session
    → AllByRecursion (λ l. l ≡ empty_journal l.session) (logs ++ journal ∷ [])
each_push logs journal each is = all_append (λ (l : Journal). l ≡ empty_journal l.session) logs (journal ∷ []) each (is, tt)

pub empty_push : (n session : ℕ) (new logs : List Journal) (journal : Journal) → AreEmpty n logs → session ≡ n + 1 → journal ≡ empty_journal session → new ≡ logs ++ journal ∷ []
    → AreEmpty (n + 1) new
empty_push n session new logs journal empty next none is =
    let number : journal.session ≡ session = ap (λ (l : Journal). l.session) none in
    subst (AreEmpty (n + 1)) (sym is) (record {
      count = length_push logs journal ∙ ap (λ k. k + 1) empty.count;
      numbered = numbered_push 1 logs journal empty.numbered (number ∙ next ∙ omega (arith, empty.count));
      each = each_push logs journal empty.each (none ∙ ap empty_journal (sym number));
    })

-- a journal after it is emptied
abbrev pub emptied : Journal → Journal
emptied journal = empty_journal journal.session

numbered_emptied : (first : ℕ) (logs : List Journal) → AreNumbered first logs → AreNumbered first (map emptied logs)
numbered_emptied first [] numbered = tt
numbered_emptied first (journal ∷ logs) numbered = (numbered.0, numbered_emptied (1 + first) logs numbered.1)

each_emptied : (logs : List Journal) → AllByRecursion (λ journal. journal ≡ empty_journal journal.session) (map emptied logs)
each_emptied [] = tt
each_emptied (journal ∷ logs) = (refl, each_emptied logs)

-- journals that were emptied are empty
pub emptied_empty : (n : ℕ) (logs : List Journal) → length logs ≡ n → AreNumbered 1 logs → AreEmpty n (map emptied logs)
emptied_empty n logs count numbered = record {
  count = length-map logs emptied ∙ count;
  numbered = numbered_emptied 1 logs numbered;
  each = each_emptied logs;
}

pub empty_is_journal : (journal : Journal) → IsSession journal.session → journal ≡ empty_journal journal.session → IsJournal journal
empty_is_journal journal session none = subst IsJournal (sym none) (record {
  session = session;
  reservations_own = tt;
  reservation_order = tt;
  few_reservations = omega arith;
  savepoints_own = tt;
  few_savepoints = omega arith;
})

pub are_journals : (first : ℕ) (logs : List Journal) → AreNumbered first logs → 1 ≤ first → first + length logs ≤ MAX + 1
    → AllByRecursion (λ journal. journal ≡ empty_journal journal.session) logs → AllByRecursion IsJournal logs
are_journals first [] numbered low high none = tt
are_journals first (journal ∷ logs) numbered low high none =
    let session : IsSession journal.session = subst IsSession (sym numbered.0) (low, omega arith) in
    (empty_is_journal journal session none.0, are_journals (1 + first) logs numbered.1 (omega arith) (omega arith) none.1)

nothing_below : (logs : List Journal) → AllByRecursion (λ journal. journal ≡ empty_journal journal.session) logs → AllByRecursion (IsBelow 1) logs
nothing_below [] none = tt
nothing_below (journal ∷ logs) none = (subst (IsBelow 1) (sym none.0) tt, nothing_below logs none.1)

no_reservations : (logs : List Journal) → AllByRecursion (λ journal. journal ≡ empty_journal journal.session) logs → reservations_of logs ≡ []
no_reservations [] none = refl
no_reservations (journal ∷ logs) none = ap (λ (l : Journal). l.reservations ++ reservations_of logs) none.0 ∙ no_reservations logs none.1

no_savepoints : (logs : List Journal) → AllByRecursion (λ journal. journal ≡ empty_journal journal.session) logs → savepoints_of logs ≡ []
no_savepoints [] none = refl
no_savepoints (journal ∷ logs) none = ap (λ (l : Journal). l.savepoints ++ savepoints_of logs) none.0 ∙ no_savepoints logs none.1

-- empty journals are those of a table
pub empty_journals : (logs : List Journal) → AreEmpty MAX logs → AreJournals logs 1
empty_journals logs empty = record {
  of_sessions = record {
    count = empty.count;
    numbered = empty.numbered;
    each = are_journals 1 logs empty.numbered (omega arith) (omega (arith, empty.count)) empty.each;
  };
  below = nothing_below logs empty.each;
  first_id = omega arith;
  last_id = omega arith;
}

-- nothing is open in them
pub nothing_opened : (logs : List Journal) → AreEmpty MAX logs → opened logs 1 ≡ nothing_open
nothing_opened logs empty = ap₂ (open_with 1) (ap by_id (no_reservations logs empty.each)) (no_savepoints logs empty.each)

-- one more item of a list is replaced by its image
pub changed_more : {X : Type 0} (f : X → X) (xs all : List X) (i : ℕ) (x y : X) → i < length xs → y ≡ f (get_or xs i x)
    → take i xs ++ map f (drop i xs) ≡ all → take (i + 1) (set xs i y) ++ map f (drop (i + 1) (set xs i y)) ≡ all
changed_more f xs all i x y within new so_far =
    ap₂ (λ before behind. before ++ map f behind) (take_more_set xs i y within) (drop-set-lt (i + 1) xs i y (omega arith))
    ∙ append_assoc (take i xs) (y ∷ []) (map f (drop (i + 1) xs))
    ∙ ap (λ z. take i xs ++ z ∷ map f (drop (i + 1) xs)) new
    ∙ ap (λ zs. take i xs ++ map f zs) (sym (drop_more xs i x within)) ∙ so_far

-- all items are replaced
pub changed_all : {X : Type 0} (f : X → X) (xs all : List X) (i : ℕ) → length xs ≤ i → take i xs ++ map f (drop i xs) ≡ all → xs ≡ all
changed_all f xs all i past so_far =
    sym (append-nil xs) ∙ ap₂ (λ before behind. before ++ map f behind) (sym (take_all i xs past)) (sym (drop_all i xs past)) ∙ so_far
