-- Helps: a journal for each session that there may be.
use Rattle.std.specs.Prelude.{◌≡◌, ℕ, zero, suc, ◌+◌, ◌-◌, ◌<◌, cond, Option, Some, None, unwrap_or, List, [], ◌∷◌, ◌++◌, length, slice_index_or, slice_set}
use Rattle.std.specs.BTreeMap.{BTreeMap, get, is_at}
use Rattle.std.specs.List.{AllByRecursion}
use Rattle.std.specs.Ordering.{nat_cmp}
use Rattle.escrow_num.specs.declared.session.TheConstants.Session.{MAX}
use Rattle.escrow_journal.specs.Journal.{Journal, IsJournal, empty_journal}
use Rattle.escrow_txn.specs.declared.journals.TheConstants.{KEPT}

-- journals are of consecutive sessions, from the first on
abbrev pub AreNumbered : ℕ → List Journal → Type 0
AreNumbered first [] = Unit {0}
AreNumbered first (journal ∷ journals) = (journal.session ≡ first) × AreNumbered (1 + first) journals

-- there is an empty journal for each of the first n sessions
pub record AreEmpty (n : ℕ) (journals : List Journal) : Type 0 where
  pub count : length journals ≡ n
  pub numbered : AreNumbered 1 journals
  pub each : AllByRecursion (λ journal. journal ≡ empty_journal journal.session) journals

-- there is a valid journal for each session
pub record AreSessions (journals : List Journal) : Type 0 where
  pub count : length journals ≡ MAX
  pub numbered : AreNumbered 1 journals
  pub each : AllByRecursion IsJournal journals

-- the journal of a session, among those of all
abbrev pub journal_at : List Journal → ℕ → Journal
journal_at journals session = slice_index_or journals (session - 1) (empty_journal session)

-- the journals, with another one for a session
abbrev pub with_journal : List Journal → ℕ → Journal → List Journal
with_journal journals session journal = slice_set journals (session - 1) journal

-- the values of a function at so many numbers, from the first on
unfoldable pub all_from : (ℕ → Journal) → ℕ → ℕ → List Journal
all_from f first zero = []
all_from f first (suc n) = f first ∷ all_from f (suc first) n

-- the journal of a session among others: an empty one, if they have none
abbrev pub other_at : BTreeMap ℕ Journal → ℕ → Journal
other_at others session = unwrap_or (get nat_cmp others session) (empty_journal session)

-- after a change, others have this for a session, and for each further one what they had
abbrev pub Puts : ℕ → Option Journal → BTreeMap ℕ Journal → BTreeMap ℕ Journal → Type 0
Puts session journal old new =
    (number : ℕ) → get nat_cmp new number ≡ cond (is_at (nat_cmp session) number) journal (get nat_cmp old number)

-- a journal for each session: those that are kept, and those of the others
abbrev pub all_of : List Journal → BTreeMap ℕ Journal → List Journal
all_of first others = first ++ all_from (other_at others) (1 + KEPT) (MAX - KEPT)

-- a journal that others have for a session is a valid one of that session, which is none of those whose journals are
-- kept
pub record IsOther (session : ℕ) (journal : Journal) : Type 0 where
  pub behind : KEPT < session
  pub number : journal.session ≡ session
  pub is_journal : IsJournal journal

-- the journals that are kept, and those of others, are valid
pub record AreKept (first : List Journal) (others : BTreeMap ℕ Journal) : Type 0 where
  pub count : length first ≡ KEPT
  pub numbered : AreNumbered 1 first
  pub each : AllByRecursion IsJournal first
  pub others_are : (session : ℕ) (journal : Journal) → get nat_cmp others session ≡ Some journal
      → IsOther session journal
