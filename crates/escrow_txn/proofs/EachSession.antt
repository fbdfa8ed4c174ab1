-- A journal for each session: those that are kept, and those of others.
use Rattle.std.specs.Prelude.{◌≡◌, ◌+◌, ◌-◌, ◌<◌, ◌≤◌, ℕ, zero, suc, ◌||◌, Bool, true, false, cond, nat_lt, Option, Some, None, unwrap_or, option_map, Result, Ok, Err, OnOk, OnErr, IfSome, List, [], ◌∷◌, ◌++◌, length, map, flat_map}
use Rattle.std.specs.BTreeMap.{BTreeMap, get, is_at}
use Rattle.std.specs.List.{AllByRecursion, list_any}
use Rattle.std.specs.List.Sorted.{IsStrictlySortedBy}
use Rattle.std.specs.Map.{keys_of, lookup, values_of}
use Rattle.std.specs.Ordering.{nat_cmp}
use Rattle.std.specs.declared.cmp.Ordering.TheVariants.{Less}
use Rattle.std.proofs.Common.{inl, inr, refl, ap, ap₂, sym, subst, ◌∙◌, get_or, set, arith}
use Rattle.std.proofs.lemmas.Bool.{cond-true, cond-false, cases_lt, lt-ltb}
use Rattle.std.proofs.lemmas.Bool.Decides.{nat_tests}
use Rattle.std.proofs.lemmas.List.{get_or_append_left, get_or-append-add, length-append, length-set, set-get_or, set-append_left, set-append_right}
use Rattle.std.proofs.lemmas.List.Concat.{flat_map-append}
use Rattle.std.proofs.lemmas.List.Folds.{list_any-append}
use Rattle.escrow_num.specs.declared.refusal.Refusal.{Refusal}
use Rattle.escrow_num.specs.declared.reservation.Savepoint.{Savepoint}
use Rattle.escrow_num.specs.Session.{IsSession}
use Rattle.escrow_num.specs.declared.session.TheConstants.Session.{MAX}
use Rattle.escrow_journal.specs.Journal.{Journal, IsJournal, cut_at, cut_journal, empty_journal}
use Rattle.escrow_journal.specs.Savepoints.{savepoint_of}
use Rattle.escrow_txn.specs.declared.journals.TheConstants.{KEPT}
use Rattle.escrow_txn.specs.Joined.{holds_any}
use Rattle.escrow_txn.specs.Sessions.{AreEmpty, AreKept, AreNumbered, AreSessions, IsOther, Puts, all_from, all_of, journal_at, other_at, with_journal}
use Rattle.escrow_txn.proofs.Empty.{are_journals, empty_is_journal}
use Rattle.escrow_txn.proofs.Places.{all_append, all_set, numbered_at, numbered_set}

-- THE VALUES OF A FUNCTION

length-all_from : (f : ℕ → Journal) (first n : ℕ) → length (all_from f first n) ≡ n
unfolding all_from
length-all_from f first zero = refl
length-all_from f first (suc n) = ap suc (length-all_from f (suc first) n)

all_from_at : (f : ℕ → Journal) (first n i : ℕ) (d : Journal) → i < n → get_or (all_from f first n) i d ≡ f (first + i)
unfolding all_from
all_from_at f first zero i d within = absurd (omega (arith, within))
all_from_at f first (suc n) zero d within = ap f (omega arith)
all_from_at f first (suc n) (suc i) d within = all_from_at f (suc first) n i d (omega (arith, within)) ∙ ap f (omega arith)

all_from_same : (f g : ℕ → Journal) (first n : ℕ) → ((k : ℕ) → first ≤ k → g k ≡ f k) → all_from g first n ≡ all_from f first n
unfolding all_from
all_from_same f g first zero same = refl
all_from_same f g first (suc n) same =
    ap₂ (λ (x : Journal) (xs : List Journal). x ∷ xs) (same first (omega arith)) (all_from_same f g (suc first) n (λ k h. same k (omega (arith, h))))

all_from_set : (f g : ℕ → Journal) (first n i : ℕ) (y : Journal) → i < n → g (first + i) ≡ y → ((k : ℕ) → ¬ (k ≡ first + i) → g k ≡ f k)
    → all_from g first n ≡ set (all_from f first n) i y
unfolding all_from
all_from_set f g first zero i y within here others = absurd (omega (arith, within))
all_from_set f g first (suc n) zero y within here others =
    ap₂ (λ (x : Journal) (xs : List Journal). x ∷ xs) (ap g (omega arith) ∙ here)
    (all_from_same f g (suc first) n (λ k h. others k (λ e. absurd (omega (arith, h, e)))))
all_from_set f g first (suc n) (suc i) y within here others =
    ap₂ (λ (x : Journal) (xs : List Journal). x ∷ xs) (others first (λ e. absurd (omega (arith, e))))
    (all_from_set f g (suc first) n i y (omega (arith, within)) (ap g (omega arith) ∙ here) (λ k differs. others k (λ e. differs (omega (arith, e)))))

numbered_all_from : (f : ℕ → Journal) (first n : ℕ) → ((k : ℕ) → (f k).session ≡ k) → AreNumbered first (all_from f first n)
unfolding all_from
numbered_all_from f first zero numbers = tt
numbered_all_from f first (suc n) numbers = (numbers first, subst (λ m. AreNumbered m (all_from f (suc first) n)) (omega arith) (numbered_all_from f (suc first) n numbers))

each_all_from : (P : Journal → Type 0) (f : ℕ → Journal) (first n : ℕ) → ((k : ℕ) → first ≤ k → k < first + n → P (f k)) → AllByRecursion P (all_from f first n)
unfolding all_from
each_all_from P f first zero each = tt
each_all_from P f first (suc n) each = (each first (omega arith) (omega arith), each_all_from P f (suc first) n (λ k low high. each k (omega (arith, low)) (omega (arith, high))))

numbered_append : (first : ℕ) (xs ys : List Journal) → AreNumbered first xs → AreNumbered (first + length xs) ys → AreNumbered first (xs ++ ys)
numbered_append first [] ys numbered behind = subst (λ n. AreNumbered n ys) (omega arith) behind
numbered_append first (x ∷ xs) ys numbered behind = (numbered.0, numbered_append (1 + first) xs ys numbered.1 (subst (λ n. AreNumbered n ys) (omega arith) behind))

-- A MAP OF JOURNALS

at_same : (k : ℕ) → is_at (nat_cmp k) k ≡ true
at_same k = grind (arith, nat_tests)

at_apart : (k number : ℕ) → ¬ (number ≡ k) → is_at (nat_cmp k) number ≡ false
at_apart k number differs = grind (arith, nat_tests, differs)

at_is : (k number : ℕ) → is_at (nat_cmp k) number ≡ true → number ≡ k
at_is k number at = grind (arith, nat_tests, at)

-- a session's journal after a change
put_at : (session : ℕ) (w : Option Journal) (old new : BTreeMap ℕ Journal) → Puts session w old new → other_at new session ≡ unwrap_or w (empty_journal session)
put_at session w old new puts =
    ap (λ (o : Option Journal). unwrap_or o (empty_journal session)) (puts session ∙ cond-true (is_at (nat_cmp session) session) w (get nat_cmp old session) (at_same session))

put_apart : (session : ℕ) (w : Option Journal) (old new : BTreeMap ℕ Journal) → Puts session w old new → (number : ℕ) → ¬ (number ≡ session) → other_at new number ≡ other_at old number
put_apart session w old new puts number differs =
    ap (λ (o : Option Journal). unwrap_or o (empty_journal number))
    (puts number ∙ cond-false (is_at (nat_cmp session) number) w (get nat_cmp old number) (at_apart session number differs))

-- the journal of a session, whether others have one or not
pub is_other : (others : BTreeMap ℕ Journal) → ((session : ℕ) (journal : Journal) → get nat_cmp others session ≡ Some journal → IsOther session journal) → (session : ℕ)
    → (other_at others session).session ≡ session
is_other others are session = at (get nat_cmp others session) refl
  where
    at : (o : Option Journal) → get nat_cmp others session ≡ o → (unwrap_or o (empty_journal session)).session ≡ session
    at None is = refl
    at (Some journal) is = (are session journal is).number

valid_other : (others : BTreeMap ℕ Journal) → ((session : ℕ) (journal : Journal) → get nat_cmp others session ≡ Some journal → IsOther session journal) → (session : ℕ)
    → IsSession session → IsJournal (other_at others session)
valid_other others are session is_session = at (get nat_cmp others session) refl
  where
    at : (o : Option Journal) → get nat_cmp others session ≡ o → IsJournal (unwrap_or o (empty_journal session))
    at None is = empty_is_journal (empty_journal session) is_session refl
    at (Some journal) is = (are session journal is).is_journal

-- ALL JOURNALS

-- those of all sessions are valid
pub all_sessions : (first : List Journal) (others : BTreeMap ℕ Journal) → AreKept first others → AreSessions (all_of first others)
all_sessions first others kept =
    let rest = all_from (other_at others) (1 + KEPT) (MAX - KEPT) in
    record {
      count = length-append first rest ∙ omega (arith, kept.count, length-all_from (other_at others) (1 + KEPT) (MAX - KEPT));
      numbered = numbered_append 1 first rest kept.numbered
          (subst (λ n. AreNumbered (1 + n) rest) (sym kept.count) (numbered_all_from (other_at others) (1 + KEPT) (MAX - KEPT) (is_other others kept.others_are)));
      each = all_append IsJournal first rest kept.each
          (each_all_from IsJournal (other_at others) (1 + KEPT) (MAX - KEPT) (λ k low high. valid_other others kept.others_are k (omega (arith, low), omega (arith, high))));
    }

-- if the journals that are kept are empty, and there are no others, all are empty
pub all_empty : (first : List Journal) (others : BTreeMap ℕ Journal) → AreEmpty KEPT first → others.entries ≡ [] → AreEmpty MAX (all_of first others)
all_empty first others empty none =
    let f : ℕ → Journal = other_at others in
    let rest = all_from f (1 + KEPT) (MAX - KEPT) in
    let is_empty : (k : ℕ) → f k ≡ empty_journal k = λ k. ap (λ (es : List (ℕ × Journal)). unwrap_or (lookup (is_at (nat_cmp k)) es) (empty_journal k)) none in
    let number : (k : ℕ) → (f k).session ≡ k = λ k. ap (λ (l : Journal). l.session) (is_empty k) in
    record {
      count = length-append first rest ∙ omega (arith, empty.count, length-all_from f (1 + KEPT) (MAX - KEPT));
      numbered = numbered_append 1 first rest empty.numbered (subst (λ n. AreNumbered (1 + n) rest) (sym empty.count) (numbered_all_from f (1 + KEPT) (MAX - KEPT) number));
      each = all_append (λ l. l ≡ empty_journal l.session) first rest empty.each
          (each_all_from (λ l. l ≡ empty_journal l.session) f (1 + KEPT) (MAX - KEPT) (λ k _ _. is_empty k ∙ ap empty_journal (sym (number k))));
    }

pub empty_kept : (first : List Journal) (others : BTreeMap ℕ Journal) → AreEmpty KEPT first → others.entries ≡ [] → AreKept first others
empty_kept first others empty none = record {
  count = empty.count;
  numbered = empty.numbered;
  each = are_journals 1 first empty.numbered (omega arith) (omega (arith, empty.count)) empty.each;
  others_are = λ session journal found. absurd (let lost : None ≡ Some journal = sym (ap (λ (es : List (ℕ × Journal)). lookup (is_at (nat_cmp session)) es) none) ∙ found in cc);
}

-- a journal that is kept is that of its session
pub kept_at : (first : List Journal) (others : BTreeMap ℕ Journal) (session i : ℕ) (journal : Journal) → i + 1 ≡ session → i < length first → journal ≡ get_or first i journal
    → journal_at (all_of first others) session ≡ journal
kept_at first others session i journal index within read =
    let rest = all_from (other_at others) (1 + KEPT) (MAX - KEPT) in
    let place : session - 1 ≡ i = omega (arith, index) in
    ap (λ n. get_or (first ++ rest) n (empty_journal session)) place
    ∙ get_or_append_left first rest (empty_journal session) i within
    ∙ default_apart first i (empty_journal session) journal within
    ∙ sym read
  where
    default_apart : (xs : List Journal) (n : ℕ) (d e : Journal) → n < length xs → get_or xs n d ≡ get_or xs n e
    default_apart [] n d e within = absurd (omega (arith, within))
    default_apart (x ∷ xs) zero d e within = refl
    default_apart (x ∷ xs) (suc n) d e within = default_apart xs n d e (omega (arith, within))

-- a kept journal, at its index: it is the one of its session
pub record IsKept (first : List Journal) (others : BTreeMap ℕ Journal) (session i : ℕ) (journal : Journal) : Type 0 where
  pub at : journal_at (all_of first others) session ≡ journal
  pub number : journal.session ≡ session
  pub same : set first i journal ≡ first

pub is_kept : (first : List Journal) (others : BTreeMap ℕ Journal) (session i : ℕ) (journal : Journal) → AreKept first others → i + 1 ≡ session → i < length first → journal ≡ get_or first i journal
    → IsKept first others session i journal
is_kept first others session i journal kept index within read = record {
  at = kept_at first others session i journal index within read;
  number = ap (λ (l : Journal). l.session) read ∙ numbered_at 1 first i journal kept.numbered within ∙ omega (arith, index);
  same = ap (set first i) read ∙ set-get_or first i journal;
}

-- its session stays
pub session_stays : {T : Type 0} (result : Result T Refusal) (new journal after : Journal) → after.session ≡ journal.session → OnOk result (new ≡ after) → OnErr result (new ≡ journal)
    → new.session ≡ journal.session
session_stays (Ok x) new journal after same done failed = ap (λ (l : Journal). l.session) done ∙ same
session_stays (Err e) new journal after same done failed = ap (λ (l : Journal). l.session) failed

found_session : (journal : Journal) (o : Option Savepoint) → (unwrap_or (option_map (cut_at journal) o) journal).session ≡ journal.session
found_session journal None = refl
found_session journal (Some p) = refl

pub cut_session : (name : List ℕ) (journal : Journal) → (cut_journal name journal).session ≡ journal.session
cut_session name journal = found_session journal (savepoint_of journal.session name journal.savepoints)

pub kept_set : (first : List Journal) (others : BTreeMap ℕ Journal) (session i : ℕ) (journal : Journal) → i + 1 ≡ session → i < length first
    → all_of (set first i journal) others ≡ with_journal (all_of first others) session journal
kept_set first others session i journal index within =
    let rest = all_from (other_at others) (1 + KEPT) (MAX - KEPT) in
    let place : i ≡ session - 1 = omega (arith, index) in
    sym (set-append_left first rest i journal within) ∙ ap (λ n. set (first ++ rest) n journal) place

-- and they stay valid with another one of the session
pub kept_valid : (first : List Journal) (others : BTreeMap ℕ Journal) (session i : ℕ) (journal : Journal) → AreKept first others → i + 1 ≡ session → IsJournal journal → journal.session ≡ session
    → AreKept (set first i journal) others
kept_valid first others session i journal kept index is_journal number = record {
  count = length-set first i journal ∙ kept.count;
  numbered = numbered_set 1 first i journal kept.numbered (number ∙ omega (arith, index));
  each = all_set IsJournal first i journal kept.each is_journal;
  others_are = kept.others_are;
}

-- the journal of a session behind those is that of the others
pub other_is : (first : List Journal) (others : BTreeMap ℕ Journal) (session i : ℕ) → AreKept first others → IsSession session → i + 1 ≡ session → length first ≤ i
    → journal_at (all_of first others) session ≡ other_at others session
other_is first others session i kept is_session index behind =
    let f : ℕ → Journal = other_at others in
    let rest = all_from f (1 + KEPT) (MAX - KEPT) in
    let d = empty_journal session in
    let place : session - 1 ≡ length first + (i - length first) = omega (arith, index, behind) in
    ap (λ n. get_or (first ++ rest) n d) place
    ∙ get_or-append-add first rest (i - length first) d
    ∙ all_from_at f (1 + KEPT) (MAX - KEPT) (i - length first) d (omega (arith, index, behind, is_session, kept.count))
    ∙ ap f (omega (arith, index, behind, kept.count))

-- a change of the others is one of all
pub other_set : (first : List Journal) (old new : BTreeMap ℕ Journal) (session i : ℕ) (w : Option Journal) (y : Journal) → AreKept first old → IsSession session → i + 1 ≡ session → length first ≤ i
    → Puts session w old new → unwrap_or w (empty_journal session) ≡ y → all_of first new ≡ with_journal (all_of first old) session y
other_set first old new session i w y kept is_session index behind puts is =
    let f : ℕ → Journal = other_at old in
    let g : ℕ → Journal = other_at new in
    let rest = all_from f (1 + KEPT) (MAX - KEPT) in
    let at : ℕ = session - 1 - length first in
    let number : 1 + KEPT + at ≡ session = omega (arith, index, behind, kept.count) in
    ap (λ xs. first ++ xs)
    (all_from_set f g (1 + KEPT) (MAX - KEPT) at y (omega (arith, index, behind, is_session, kept.count))
    (ap g number ∙ put_at session w old new puts ∙ is)
    (λ k differs. put_apart session w old new puts k (λ e. differs (e ∙ sym number))))
    ∙ sym (set-append_right first rest (length first) (session - 1) y refl (omega (arith, index, behind)))

pub other_valid : (first : List Journal) (old new : BTreeMap ℕ Journal) (session : ℕ) (w : Option Journal) → AreKept first old → Puts session w old new
    → ((journal : Journal) → w ≡ Some journal → IsOther session journal) → AreKept first new
other_valid first old new session w kept puts are = record {
  count = kept.count;
  numbered = kept.numbered;
  each = kept.each;
  others_are = λ number journal found. at number journal (is_at (nat_cmp session) number) refl (sym (puts number) ∙ found);
}
  where
    at : (number : ℕ) (journal : Journal) (b : Bool) → is_at (nat_cmp session) number ≡ b → cond (is_at (nat_cmp session) number) w (get nat_cmp old number) ≡ Some journal → IsOther number journal
    at number journal true is found =
        let same : session ≡ number = sym (at_is session number is) in
        subst (λ n. IsOther n journal) same (are journal (sym (cond-true (is_at (nat_cmp session) number) w (get nat_cmp old number) is) ∙ found))
    at number journal false is found = kept.others_are number journal (sym (cond-false (is_at (nat_cmp session) number) w (get nat_cmp old number) is) ∙ found)

-- others that have the same journals as before change nothing
pub other_stays : (first : List Journal) (old new : BTreeMap ℕ Journal) → ((session : ℕ) → get nat_cmp new session ≡ get nat_cmp old session) → all_of first new ≡ all_of first old
other_stays first old new same =
    ap (λ xs. first ++ xs)
    (all_from_same (other_at old) (other_at new) (1 + KEPT) (MAX - KEPT) (λ k _. ap (λ (o : Option Journal). unwrap_or o (empty_journal k)) (same k)))

pub other_kept : (first : List Journal) (old new : BTreeMap ℕ Journal) → AreKept first old → ((session : ℕ) → get nat_cmp new session ≡ get nat_cmp old session) → AreKept first new
other_kept first old new kept same = record {
  count = kept.count;
  numbered = kept.numbered;
  each = kept.each;
  others_are = λ session journal found. kept.others_are session journal (sym (same session) ∙ found);
}

-- the others after a call that gives a session a journal, or fails and changes nothing
pub other_after : {T : Type 0} (result : Result T Refusal) (first : List Journal) (old new : BTreeMap ℕ Journal) (session : ℕ) (y : Journal) → AreKept first old → KEPT < session → y.session ≡ session
    → OnOk result (Puts session (Some y) old new) → OnOk result (IsJournal y) → OnErr result ((number : ℕ) → get nat_cmp new number ≡ get nat_cmp old number) → AreKept first new
other_after (Ok x) first old new session y kept behind number puts is_journal same =
    other_valid first old new session (Some y) kept puts
    (λ journal is. let same : y ≡ journal = cc in subst (IsOther session) same (record { behind = behind; number = number; is_journal = is_journal }))
other_after (Err e) first old new session y kept behind number puts is_journal same = other_kept first old new kept same

-- the others after a session has gone back to a savepoint
cut_either : (name : List ℕ) (session : ℕ) (o : Option Journal) → unwrap_or (option_map (cut_journal name) o) (empty_journal session) ≡ cut_journal name (unwrap_or o (empty_journal session))
cut_either name session None = refl
cut_either name session (Some journal) = refl

pub cut_set : (first : List Journal) (old new : BTreeMap ℕ Journal) (session i : ℕ) (name : List ℕ) → AreKept first old → IsSession session → i + 1 ≡ session → length first ≤ i
    → Puts session (option_map (cut_journal name) (get nat_cmp old session)) old new
    → all_of first new ≡ with_journal (all_of first old) session (cut_journal name (journal_at (all_of first old) session))
cut_set first old new session i name kept is_session index behind puts =
    other_set first old new session i (option_map (cut_journal name) (get nat_cmp old session)) (cut_journal name (journal_at (all_of first old) session)) kept is_session index behind puts
    (cut_either name session (get nat_cmp old session) ∙ ap (cut_journal name) (sym (other_is first old session i kept is_session index behind)))

pub cut_valid : (first : List Journal) (old new : BTreeMap ℕ Journal) (session : ℕ) (name : List ℕ) → AreKept first old → KEPT < session
    → Puts session (option_map (cut_journal name) (get nat_cmp old session)) old new → IfSome (get nat_cmp old session) (λ journal. IsJournal (cut_journal name journal)) → AreKept first new
cut_valid first old new session name kept behind puts valid =
    other_valid first old new session (option_map (cut_journal name) (get nat_cmp old session)) kept puts (λ journal is. at (get nat_cmp old session) refl valid journal is)
  where
    at : (o : Option Journal) → get nat_cmp old session ≡ o → IfSome o (λ journal. IsJournal (cut_journal name journal)) → (journal : Journal)
        → option_map (cut_journal name) o ≡ Some journal → IsOther session journal
    at None found valid journal is = absurd (cc)
    at (Some kept_one) found valid journal is =
        let same : cut_journal name kept_one ≡ journal = cc in
        subst (IsOther session) same (record { behind = behind; number = cut_session name kept_one ∙ (kept.others_are session kept_one found).number; is_journal = valid })

-- the others after a session has ended
pub taken_valid : (first : List Journal) (old new : BTreeMap ℕ Journal) (session : ℕ) → AreKept first old → Puts session None old new → AreKept first new
taken_valid first old new session kept puts = other_valid first old new session None kept puts (λ journal is. absurd (cc))

-- WHAT ALL HOLD

-- empty journals hold nothing
nothing_from : {X : Type 0} (h : Journal → List X) (first n : ℕ) → ((k : ℕ) → h (empty_journal k) ≡ []) → flat_map h (all_from empty_journal first n) ≡ []
unfolding all_from
nothing_from h first zero none = refl
nothing_from h first (suc n) none = ap₂ (λ xs ys. xs ++ ys) (none first) (nothing_from h (suc first) n none)

-- keys in order, within numbers
abbrev AreWithin : ℕ → ℕ → List (ℕ × Journal) → Type 0
AreWithin first n entries = AllByRecursion (λ e. (first ≤ e.0) × (e.0 < first + n)) entries

abbrev found_in : List (ℕ × Journal) → ℕ → Journal
found_in entries k = unwrap_or (lookup (is_at (nat_cmp k)) entries) (empty_journal k)

none_behind : (k : ℕ) (entries : List (ℕ × Journal)) → AllByRecursion (λ e. k < e.0) entries → lookup (is_at (nat_cmp k)) entries ≡ None
none_behind k [] behind = refl
none_behind k (e ∷ entries) behind =
    cond-false (is_at (nat_cmp k) e.0) (Some e.1) (lookup (is_at (nat_cmp k)) entries) (at_apart k e.0 (λ same. absurd (omega (arith, same, behind.0))))
    ∙ none_behind k entries behind.1

keys_behind : (k : ℕ) (entries : List (ℕ × Journal)) → AllByRecursion (λ y. nat_cmp k y ≡ Less) (keys_of entries) → AllByRecursion (λ e. k < e.0) entries
keys_behind k [] all = tt
keys_behind k (e ∷ entries) all = (less_is k e.0 all.0, keys_behind k entries all.1)
  where
    less_is : (a b : ℕ) → nat_cmp a b ≡ Less → a < b
    less_is a b is = grind (arith, nat_tests, is)

within_next : (first n : ℕ) (entries : List (ℕ × Journal)) → AllByRecursion (λ e. first < e.0) entries → AreWithin first (suc n) entries → AreWithin (suc first) n entries
within_next first n [] behind within = tt
within_next first n (e ∷ entries) behind within = ((omega (arith, behind.0), omega (arith, within.0.1)), within_next first n entries behind.1 within.1)

-- what those hold that a list of entries has, in order
pub held_from : {X : Type 0} (h : Journal → List X) (first n : ℕ) (entries : List (ℕ × Journal)) → ((k : ℕ) → h (empty_journal k) ≡ []) → IsStrictlySortedBy nat_cmp (keys_of entries)
    → AreWithin first n entries → flat_map h (all_from (found_in entries) first n) ≡ flat_map h (values_of entries)
unfolding all_from IsStrictlySortedBy
held_from h first zero [] none sorted within = refl
held_from h first zero (e ∷ entries) none sorted within = absurd (omega (arith, within.0.0, within.0.1))
held_from h first (suc n) [] none sorted within = ap₂ (λ xs ys. xs ++ ys) (none first) (nothing_from h (suc first) n none)
held_from h first (suc n) (e ∷ entries) none sorted within = elim (cases_lt first e.0) [
  | inl less ↦ (let behind : AllByRecursion (λ x. first < x.0) (e ∷ entries) = (less, all_more entries (keys_behind e.0 entries sorted.0)) in
      ap₂ (λ xs ys. xs ++ ys)
      (ap (λ (o : Option Journal). h (unwrap_or o (empty_journal first))) (none_behind first (e ∷ entries) behind) ∙ none first)
      (held_from h (suc first) n (e ∷ entries) none sorted (within_next first n (e ∷ entries) behind within)))
  | inr past ↦ (let here : e.0 ≡ first = omega (arith, past, within.0.0) in
      let behind : AllByRecursion (λ x. first < x.0) entries = subst (λ k. AllByRecursion (λ (x : ℕ × Journal). k < x.0) entries) here (keys_behind e.0 entries sorted.0) in
      ap₂ (λ xs ys. xs ++ ys)
      (ap (λ (o : Option Journal). h (unwrap_or o (empty_journal first)))
      (cond-true (is_at (nat_cmp first) e.0) (Some e.1) (lookup (is_at (nat_cmp first)) entries) (ap (is_at (nat_cmp first)) here ∙ at_same first)))
      (ap (flat_map h) (all_from_same (found_in entries) (found_in (e ∷ entries)) (suc first) n (λ k after.
      ap (λ (o : Option Journal). unwrap_or o (empty_journal k))
      (cond-false (is_at (nat_cmp k) e.0) (Some e.1) (lookup (is_at (nat_cmp k)) entries) (at_apart k e.0 (λ same. absurd (omega (arith, after, here, same)))))))
      ∙ held_from h (suc first) n entries none sorted.1 (within_next first n entries behind within.1)))
]
  where
    all_more : (rest : List (ℕ × Journal)) → AllByRecursion (λ x. e.0 < x.0) rest → AllByRecursion (λ x. first < x.0) rest
    all_more [] all = tt
    all_more (x ∷ rest) all = (omega (arith, all.0, within.0.0), all_more rest all.1)

-- each entry is found by its key
found_each : (entries : List (ℕ × Journal)) → IsStrictlySortedBy nat_cmp (keys_of entries) → AllByRecursion (λ e. lookup (is_at (nat_cmp e.0)) entries ≡ Some e.1) entries
unfolding IsStrictlySortedBy
found_each [] sorted = tt
found_each (e ∷ entries) sorted = (
  cond-true (is_at (nat_cmp e.0) e.0) (Some e.1) (lookup (is_at (nat_cmp e.0)) entries) (at_same e.0),
  behind entries (keys_behind e.0 entries sorted.0) (found_each entries sorted.1),
)
  where
    behind : (rest : List (ℕ × Journal)) → AllByRecursion (λ x. e.0 < x.0) rest → AllByRecursion (λ x. lookup (is_at (nat_cmp x.0)) entries ≡ Some x.1) rest
        → AllByRecursion (λ x. lookup (is_at (nat_cmp x.0)) (e ∷ entries) ≡ Some x.1) rest
    behind [] above found = tt
    behind (x ∷ rest) above found = (
      cond-false (is_at (nat_cmp x.0) e.0) (Some e.1) (lookup (is_at (nat_cmp x.0)) entries) (at_apart x.0 e.0 (λ same. absurd (omega (arith, same, above.0)))) ∙ found.0,
      behind rest above.1 found.1,
    )

others_of : (first : List Journal) (others : BTreeMap ℕ Journal) (entries : List (ℕ × Journal)) → AreKept first others → AllByRecursion (λ e. get nat_cmp others e.0 ≡ Some e.1) entries
    → AreWithin (suc KEPT) (MAX - KEPT) entries × AllByRecursion IsJournal (values_of entries)
others_of first others [] kept found = (tt, tt)
others_of first others (e ∷ entries) kept found =
    let is = kept.others_are e.0 e.1 found.0 in
    let rest = others_of first others entries kept found.1 in
    let session = is.is_journal.session in
    (((omega (arith, is.behind), omega (arith, is.behind, is.number, session)), rest.0), (is.is_journal, rest.1))

-- what all hold is what those that are kept and the others hold
pub held_by : {X : Type 0} (h : Journal → List X) (first : List Journal) (others : BTreeMap ℕ Journal) → ((k : ℕ) → h (empty_journal k) ≡ []) → AreKept first others → IsStrictlySortedBy nat_cmp (keys_of others.entries)
    → flat_map h (first ++ values_of others.entries) ≡ flat_map h (all_of first others)
held_by h first others none kept sorted =
    let within = (others_of first others others.entries kept (found_each others.entries sorted)).0 in
    let rest = all_from (other_at others) (suc KEPT) (MAX - KEPT) in
    flat_map-append h first (values_of others.entries)
    ∙ ap (λ xs. flat_map h first ++ xs) (sym (held_from h (suc KEPT) (MAX - KEPT) others.entries none sorted within))
    ∙ sym (flat_map-append h first rest)

pub held_valid : (first : List Journal) (others : BTreeMap ℕ Journal) → AreKept first others → IsStrictlySortedBy nat_cmp (keys_of others.entries)
    → AllByRecursion IsJournal (first ++ values_of others.entries)
held_valid first others kept sorted =
    all_append IsJournal first (values_of others.entries) kept.each (others_of first others others.entries kept (found_each others.entries sorted)).1

-- whether one of them holds anything
abbrev those : Journal → List Journal
those journal = cond (holds_any journal) (journal ∷ []) []

some_of : (journals : List Journal) → list_any holds_any journals ≡ nat_lt 0 (length (flat_map those journals))
some_of [] = refl
some_of (journal ∷ journals) = one (holds_any journal) journal (flat_map those journals) (list_any holds_any journals) (some_of journals)
  where
    one : (b : Bool) (x : Journal) (xs : List Journal) (rest : Bool) → rest ≡ nat_lt 0 (length xs) → (b || rest) ≡ nat_lt 0 (length (cond b (x ∷ []) [] ++ xs))
    one true x xs rest is = sym (lt-ltb 0 (suc (length xs)) (omega arith))
    one false x xs rest is = is

pub any_held : (first : List Journal) (others : BTreeMap ℕ Journal) → AreKept first others → IsStrictlySortedBy nat_cmp (keys_of others.entries)
    → list_any holds_any first ≡ false → list_any holds_any (values_of others.entries) ≡ list_any holds_any (all_of first others)
any_held first others kept sorted none =
    sym (list_any-append holds_any first (values_of others.entries) ∙ ap (λ b. b || list_any holds_any (values_of others.entries)) none)
    ∙ some_of (first ++ values_of others.entries)
    ∙ ap (λ (xs : List Journal). nat_lt 0 (length xs)) (held_by those first others (λ k. refl) kept sorted)
    ∙ sym (some_of (all_of first others))
