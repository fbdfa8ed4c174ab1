-- Marked outboxes, and their ranks among the marked ones.
use Rattle.std.proofs.Common.{◌≡◌, ◌⊎◌, ℕ, zero, suc, ◌+◌, ◌<◌, Bool, true, false, eqb, if◌then◌else◌, List, [], ◌∷◌, map, length, set, replicate, slice_get, get_or, Some, All, refl, sym, ap, subst, ◌∙◌, inl, inr, arith}
use Rattle.std.specs.List.{AllByRecursion}
use Rattle.std.proofs.lemmas.Bool.{eq-eqb, ne_eqb, cases_eq}
use Rattle.std.proofs.lemmas.List.{length-replicate}
use Rattle.escrow_statement.specs.declared.statement.Request.{Request}
use Rattle.escrow_shards.specs.Shared.{Shared, HasPass}
use Rattle.escrow_sessions.specs.Fed.{of}
use Rattle.escrow_sessions.specs.Serving.{Serves}
use Rattle.escrow_free.specs.Outboxes.{answers_of, HasOutbox, ArePassesServed, AreServed}
use Rattle.escrow_free.specs.Ranks.{marked_by, ranks_from, rank, renamed, parted, rested, merged}
use Rattle.escrow_free.specs.declared.outbox.Outbox.{Outbox}
use Rattle.escrow_sessions.proofs.Places.{some_same, none_some, long_set, set_here, below_at, at_below, all_places, all_parts}

-- MARKS

-- a mark that is set stays set
set_stays : (marks : List Bool) (i k : ℕ) → slice_get marks k ≡ Some true → slice_get (set marks i true) k ≡ Some true
set_stays [] i k e = e
set_stays (m ∷ marks) zero zero e = refl
set_stays (m ∷ marks) zero (suc k) e = e
set_stays (m ∷ marks) (suc i) zero e = e
set_stays (m ∷ marks) (suc i) (suc k) e = set_stays marks i k e

stays_marked : (items : List (ℕ × Request)) (marks : List Bool) (k : ℕ) → slice_get marks k ≡ Some true → slice_get (marked_by items marks) k ≡ Some true
stays_marked [] marks k e = e
stays_marked (item ∷ items) marks k e = stays_marked items (set marks item.0 true) k (set_stays marks item.0 k e)

pub long_marked : (items : List (ℕ × Request)) (marks : List Bool) → length (marked_by items marks) ≡ length marks
long_marked [] marks = refl
long_marked (item ∷ items) marks = long_marked items (set marks item.0 true) ∙ long_set marks item.0 true

-- an item names one of the marked outboxes
abbrev pub IsMarked : List Bool → ℕ × Request → Type 0
IsMarked marks item = slice_get marks item.0 ≡ Some true

pub all_marked : (items : List (ℕ × Request)) (marks : List Bool) → AllByRecursion (λ x. x.0 < length marks) items → AllByRecursion (IsMarked (marked_by items marks)) items
all_marked [] marks within = tt
all_marked (item ∷ items) marks within = (
  stays_marked items (set marks item.0 true) item.0 (set_here marks item.0 true within.0),
  all_marked items (set marks item.0 true) (subst (λ n. AllByRecursion (λ (x : ℕ × Request). x.0 < n) items) (sym (long_set marks item.0 true)) within.1),
)

-- RANKS

pub long_ranks : (n : ℕ) (marks : List Bool) → length (ranks_from n marks) ≡ length marks
long_ranks n [] = refl
long_ranks n (true ∷ marks) = ap suc (long_ranks (n + 1) marks)
long_ranks n (false ∷ marks) = ap suc (long_ranks n marks)

rank_at : (n : ℕ) (marks : List Bool) (k : ℕ) → k < length marks → get_or (ranks_from n marks) k 0 ≡ n + rank marks k
rank_at n [] k below = absurd (omega (arith, below))
rank_at n (true ∷ marks) zero below = omega arith
rank_at n (false ∷ marks) zero below = omega arith
rank_at n (true ∷ marks) (suc k) below = let more = rank_at (n + 1) marks k (omega (arith, below)) in omega arith
rank_at n (false ∷ marks) (suc k) below = rank_at n marks k (omega (arith, below))

suc_same : (a b : ℕ) → suc a ≡ suc b → a ≡ b
suc_same a b e = omega arith

no_mark : Some false ≡ Some true → ⊥
no_mark e = cc

-- marked outboxes of one rank are the same outbox
same_rank : (marks : List Bool) (j k : ℕ) → slice_get marks j ≡ Some true → slice_get marks k ≡ Some true → rank marks j ≡ rank marks k → j ≡ k
same_rank [] j k at there e = absurd (none_some true at)
same_rank (m ∷ marks) zero zero at there e = refl
same_rank (true ∷ marks) zero (suc k) at there e = absurd (omega (arith, e))
same_rank (false ∷ marks) zero (suc k) at there e = absurd (no_mark at)
same_rank (true ∷ marks) (suc j) zero at there e = absurd (omega (arith, e))
same_rank (false ∷ marks) (suc j) zero at there e = absurd (no_mark there)
same_rank (true ∷ marks) (suc j) (suc k) at there e = ap suc (same_rank marks j k at there (suc_same (rank marks j) (rank marks k) e))
same_rank (false ∷ marks) (suc j) (suc k) at there e = ap suc (same_rank marks j k at there e)

rank_of : (marks : List Bool) (item : ℕ × Request) → IsMarked marks item → (renamed (ranks_from 0 marks) item).0 ≡ rank marks item.0
rank_of marks item at = let e = rank_at 0 marks item.0 (below_at marks item.0 true at) in omega (arith, e)

if_same : (b c : Bool) (x : Request) (xs ys : List Request) → b ≡ c → xs ≡ ys → (if b then x ∷ xs else xs) ≡ (if c then x ∷ ys else ys)
if_same b c x xs ys e f = rw (e, f) refl

-- two tests with the same result
tests_same : (a b c d : ℕ) → (a ≡ b → c ≡ d) → (c ≡ d → a ≡ b) → eqb a b ≡ eqb c d
tests_same a b c d there back = elim (cases_eq a b) [
  | inl same ↦ eq-eqb a b same ∙ sym (eq-eqb c d (there same))
  | inr apart ↦ ne_eqb a b apart ∙ sym (ne_eqb c d (λ same. apart (back same)))
]

-- the items of a marked outbox are those that name its rank
of_renamed : (marks : List Bool) (k : ℕ) (items : List (ℕ × Request)) → slice_get marks k ≡ Some true → AllByRecursion (IsMarked marks) items
    → of (rank marks k) (map (renamed (ranks_from 0 marks)) items) ≡ of k items
of_renamed marks k [] at all = refl
of_renamed marks k (item ∷ items) at all =
    let named = rank_of marks item all.0 in
    if_same (eqb (renamed (ranks_from 0 marks) item).0 (rank marks k)) (eqb item.0 k) item.1 (of (rank marks k) (map (renamed (ranks_from 0 marks)) items)) (of k items)
    (tests_same (renamed (ranks_from 0 marks) item).0 (rank marks k) item.0 k (λ e. same_rank marks item.0 k all.0 at (sym named ∙ e)) (λ e. named ∙ ap (rank marks) e))
    (of_renamed marks k items at all.1)

-- PARTS

-- the pass of a marked outbox is at its rank
pub parted_at : (marks : List Bool) (outboxes : List Outbox) (k : ℕ) (outbox : Outbox) → slice_get marks k ≡ Some true → slice_get outboxes k ≡ Some outbox
    → slice_get (parted marks outboxes) (rank marks k) ≡ Some outbox.pass
parted_at [] outboxes k outbox at there = absurd (none_some true at)
parted_at (m ∷ marks) [] k outbox at there = absurd (none_some outbox there)
parted_at (true ∷ marks) (d ∷ outboxes) zero outbox at there = ap (λ (x : Outbox). Some x.pass) (some_same d outbox there)
parted_at (false ∷ marks) (d ∷ outboxes) zero outbox at there = absurd (no_mark at)
parted_at (true ∷ marks) (d ∷ outboxes) (suc k) outbox at there = parted_at marks outboxes k outbox at there
parted_at (false ∷ marks) (d ∷ outboxes) (suc k) outbox at there = parted_at marks outboxes k outbox at there

parted_none : (marks : List Bool) → parted marks [] ≡ []
parted_none [] = refl
parted_none (true ∷ marks) = parted_none marks
parted_none (false ∷ marks) = parted_none marks

-- the passes are those of the outboxes
pub parted_seats : {S : Type 0} (sharing : Shared S) (marks : List Bool) (outboxes : List Outbox) → AllByRecursion (HasOutbox sharing) outboxes → AllByRecursion (HasPass sharing) (parted marks outboxes)
parted_seats sharing [] outboxes all = tt
parted_seats sharing (true ∷ marks) [] all = parted_seats sharing marks [] all
parted_seats sharing (false ∷ marks) [] all = parted_seats sharing marks [] all
parted_seats sharing (true ∷ marks) (d ∷ outboxes) all = (all.0, parted_seats sharing marks outboxes all.1)
parted_seats sharing (false ∷ marks) (d ∷ outboxes) all = parted_seats sharing marks outboxes all.1

-- the outbox at a place: an unmarked outbox is the old one, and a marked one is the served outbox of its rank
abbrev StoodAt : List Bool → List Outbox → List Outbox → ℕ → Outbox → Type 0
StoodAt marks outboxes served k new = (slice_get outboxes k ≡ Some new) ⊎ ((slice_get marks k ≡ Some true) × (slice_get served (rank marks k) ≡ Some new))

stood_at : (marks : List Bool) (outboxes served : List Outbox) (k : ℕ) (new : Outbox) → length served ≡ length (parted marks outboxes) → length outboxes ≡ length marks
    → slice_get (merged marks served (rested marks outboxes)) k ≡ Some new → StoodAt marks outboxes served k new
stood_at [] outboxes served k new long all e = absurd (none_some new e)
stood_at (m ∷ marks) [] served k new long all e = absurd (omega (arith, all))
stood_at (true ∷ marks) (d ∷ outboxes) [] k new long all e = absurd (omega (arith, long))
stood_at (true ∷ marks) (d ∷ outboxes) (s ∷ served) zero new long all e = inr (refl, e)
stood_at (true ∷ marks) (d ∷ outboxes) (s ∷ served) (suc k) new long all e = stood_at marks outboxes served k new (omega (arith, long)) (omega (arith, all)) e
stood_at (false ∷ marks) (d ∷ outboxes) served zero new long all e = inl e
stood_at (false ∷ marks) (d ∷ outboxes) served (suc k) new long all e = stood_at marks outboxes served k new long (omega (arith, all)) e

long_merged : (marks : List Bool) (outboxes served : List Outbox) → length served ≡ length (parted marks outboxes) → length outboxes ≡ length marks
    → length (merged marks served (rested marks outboxes)) ≡ length outboxes
long_merged [] outboxes served long all = omega (arith, all)
long_merged (m ∷ marks) [] served long all = absurd (omega (arith, all))
long_merged (true ∷ marks) (d ∷ outboxes) [] long all = absurd (omega (arith, long))
long_merged (true ∷ marks) (d ∷ outboxes) (s ∷ served) long all = ap suc (long_merged marks outboxes served (omega (arith, long)) (omega (arith, all)))
long_merged (false ∷ marks) (d ∷ outboxes) served long all = ap suc (long_merged marks outboxes served long (omega (arith, all)))

-- ALL OUTBOXES

-- the marks of items, for a number of outboxes
abbrev pub marks_over : List Outbox → List (ℕ × Request) → List Bool
marks_over outboxes items = marked_by items (replicate (length outboxes) false)

module _ (outboxes : List Outbox) (items : List (ℕ × Request)) (within : All (λ x. x.0 < length outboxes) items) where
  marks : List Bool
  marks = marks_over outboxes items

  pub long_over : length (marks_over outboxes items) ≡ length outboxes
  long_over = long_marked items (replicate (length outboxes) false) ∙ length-replicate (length outboxes) false

  pub marked_over : AllByRecursion (IsMarked (marks_over outboxes items)) items
  marked_over =
      all_marked items (replicate (length outboxes) false)
      (subst (λ n. AllByRecursion (λ (x : ℕ × Request). x.0 < n) items) (sym (length-replicate (length outboxes) false)) (all_parts (λ (x : ℕ × Request). x.0 < length outboxes) items within))

  -- an item names one of the passes by rank
  rank_within : (item : ℕ × Request) → IsMarked (marks_over outboxes items) item → (renamed (ranks_from 0 (marks_over outboxes items)) item).0 < length (parted (marks_over outboxes items) outboxes)
  rank_within item at =
      let here = at_below outboxes item.0 (subst (λ n. item.0 < n) long_over (below_at (marks_over outboxes items) item.0 true at)) in
      let there = parted_at (marks_over outboxes items) outboxes item.0 here.0 at here.1 in
      subst (λ r. r < length (parted (marks_over outboxes items) outboxes)) (sym (rank_of (marks_over outboxes items) item at))
      (below_at (parted (marks_over outboxes items) outboxes) (rank (marks_over outboxes items) item.0) (here.0).pass there)

  ranks_within : (xs : List (ℕ × Request)) → AllByRecursion (IsMarked (marks_over outboxes items)) xs
      → AllByRecursion (λ x. x.0 < length (parted (marks_over outboxes items) outboxes)) (map (renamed (ranks_from 0 (marks_over outboxes items))) xs)
  ranks_within [] all = tt
  ranks_within (x ∷ xs) all = (rank_within x all.0, ranks_within xs all.1)

  pub renamed_within : All (λ x. x.0 < length (parted (marks_over outboxes items) outboxes)) (map (renamed (ranks_from 0 (marks_over outboxes items))) items)
  renamed_within = all_places (λ (x : ℕ × Request). x.0 < length (parted (marks_over outboxes items) outboxes)) (map (renamed (ranks_from 0 (marks_over outboxes items))) items) (ranks_within items marked_over)

  -- the reassembled outboxes are those that were served
  pub all_served : (served : List Outbox) → ArePassesServed (parted (marks_over outboxes items) outboxes) (map (renamed (ranks_from 0 (marks_over outboxes items))) items) served
      → AreServed outboxes items (merged (marks_over outboxes items) served (rested (marks_over outboxes items) outboxes))
  all_served served passes = record {
    count = long_merged (marks_over outboxes items) outboxes served passes.count (sym long_over);
    each = λ k before after at_old at_new none. was k before after at_old none (stood_at (marks_over outboxes items) outboxes served k after passes.count (sym long_over) at_new);
  } where
    was : (k : ℕ) (before after : Outbox) → slice_get outboxes k ≡ Some before → answers_of before ≡ [] → StoodAt (marks_over outboxes items) outboxes served k after
        → Serves before.pass (of k items) (answers_of after) after.pass
    was k before after at_old none (inl same) =
        let e : before ≡ after = some_same before after (sym at_old ∙ same) in
        subst (λ (d : Outbox). Serves before.pass (of k items) (answers_of d) d.pass) e (rw none refl)
    was k before after at_old none (inr there) =
        subst (λ rs. Serves before.pass rs (answers_of after) after.pass) (of_renamed (marks_over outboxes items) k items there.0 marked_over)
        (passes.each (rank (marks_over outboxes items) k) before.pass after (parted_at (marks_over outboxes items) outboxes k before there.0 at_old) there.1)
