-- Entries of sessions without a pass.
use Rattle.std.proofs.Common.{◌≡◌, ◌==◌, ℕ, zero, suc, ◌+◌, ◌<◌, true, false, Bool, List, [], ◌∷◌, ◌++◌, length, get_or, drop, refl, sym, ap, ◌∙◌, subst, arith, inr}
use Rattle.std.specs.List.{AllByRecursion}
use Rattle.escrow_transcript.specs.declared.entry.Entry.{Entry}
use Rattle.escrow_shards.specs.declared.close.Cause.{Cause}
use Rattle.escrow_shards.specs.declared.close.Cause.TheVariants as cause
use Rattle.escrow_shards.specs.Closed.{Closed}
use Rattle.escrow_shards.specs.Found.{IsOfNoPass}
use Rattle.escrow_shards.specs.Part.{Part, parts_of, entries_of}
use Rattle.escrow_shards.specs.Receipts.{receipts_of}
use Rattle.escrow_shards.specs.Pass.{Pass, AreAllPasses}
use Rattle.escrow_shards.specs.Whole.{HasItsReceipts, HaveParts, IsTrueOf}
use Rattle.escrow_shards.proofs.Following.{parts_here, parts_past}
use Rattle.escrow_shards.proofs.Matching.{beside, receipts_append, receipts_cons, receipts_here}

-- what holds of all items of two lists holds of all items of their concatenation
pub all_append : {X : Type 0} (P : X → Type 0) (xs ys : List X) → AllByRecursion P xs → AllByRecursion P ys → AllByRecursion P (xs ++ ys)
all_append P [] ys front rest = rest
all_append P (x ∷ xs) ys front rest = (front.0, all_append P xs ys front.1 rest)

-- if a concatenation is empty, both lists are
pub both_empty : {X : Type 0} (xs ys : List X) → xs ++ ys ≡ [] → (xs ≡ []) × (ys ≡ [])
both_empty [] ys none = (refl, none)
both_empty (x ∷ xs) ys none = absurd (cc)

-- a session with an entry has a receipt
pub has_receipt : (k : ℕ) (entries : List Entry) (i : ℕ) (e : Entry) → i < length entries → e ≡ get_or entries i e → (e.session == k) ≡ true
    → receipts_of k entries ≡ [] → ⊥
has_receipt k [] i e below at of none = absurd (omega arith)
has_receipt k (x ∷ xs) zero e below at of none =
    let here : (x.session == k) ≡ true = ap (λ (y : Entry). y.session == k) (sym at) ∙ of in
    let is : beside true x (receipts_of k xs) ≡ [] = ap (λ (b : Bool). beside b x (receipts_of k xs)) (sym here) ∙ sym (receipts_cons k x xs) ∙ none in
    absurd (cc)
has_receipt k (x ∷ xs) (suc i) e below at of none =
    let later : receipts_of k xs ≡ [] → ⊥ = λ left. has_receipt k xs i e (omega arith) at of left in
    (elim (x.session == k) as (λ (b : Bool). beside b x (receipts_of k xs) ≡ [] → ⊥) [ true ↦ λ is. absurd (cc) | false ↦ later ])
    (sym (receipts_cons k x xs) ∙ none)

module _ {S : Type 0} (d : ℕ) (parts : List (Part S)) where
  -- what holds of all remaining entries holds of all entries
  abbrev pub AllLeft : (Entry → Type 0) → ℕ → Type 0
  AllLeft P i = AllByRecursion P (entries_of (parts_of d (drop i parts))) → AllByRecursion P (entries_of (parts_of d parts))

  pub all_past : (P : Entry → Type 0) (i : ℕ) (p : Part S) → i < length parts → p ≡ get_or parts i p → (p.database == d) ≡ false → AllLeft P i → AllLeft P (i + 1)
  all_past P i p below at of left rest = left (subst (λ (ps : List (Part S)). AllByRecursion P (entries_of ps)) (sym (parts_past d parts i p below at of)) rest)

  pub all_here : (P : Entry → Type 0) (i : ℕ) (p : Part S) → i < length parts → p ≡ get_or parts i p → (p.database == d) ≡ true → AllByRecursion P p.entries
      → AllLeft P i → AllLeft P (i + 1)
  all_here P i p below at of its left rest =
      left (subst (λ (ps : List (Part S)). AllByRecursion P (entries_of ps)) (sym (parts_here d parts i p below at of))
      (all_append P p.entries (entries_of (parts_of d (drop (i + 1) parts))) its rest))

  -- a session without an entry has none among the remaining ones
  abbrev pub NoneLeft : ℕ → ℕ → Type 0
  NoneLeft i k = receipts_of k (entries_of (parts_of d parts)) ≡ [] → receipts_of k (entries_of (parts_of d (drop i parts))) ≡ []

  pub none_past : (i k : ℕ) (p : Part S) → i < length parts → p ≡ get_or parts i p → (p.database == d) ≡ false → NoneLeft i k → NoneLeft (i + 1) k
  none_past i k p below at of left none = ap (λ (ps : List (Part S)). receipts_of k (entries_of ps)) (sym (parts_past d parts i p below at of)) ∙ left none

  pub none_at : (i k : ℕ) (p : Part S) → i < length parts → p ≡ get_or parts i p → (p.database == d) ≡ true → NoneLeft i k
      → receipts_of k (entries_of (parts_of d parts)) ≡ [] → (receipts_of k p.entries ≡ []) × (receipts_of k (entries_of (parts_of d (drop (i + 1) parts))) ≡ [])
  none_at i k p below at of left none =
      both_empty (receipts_of k p.entries) (receipts_of k (entries_of (parts_of d (drop (i + 1) parts)))) (sym (receipts_here d k parts i p below at of) ∙ left none)

-- nor has it one in the first entries or in the last
pub none_in : (k : ℕ) (xs ys : List Entry) → receipts_of k (xs ++ ys) ≡ [] → (receipts_of k xs ≡ []) × (receipts_of k ys ≡ [])
none_in k xs ys none = both_empty (receipts_of k xs) (receipts_of k ys) (sym (receipts_append k xs ys) ∙ none)

-- if a cause reports a missing pass, it is true, provided that passes, parts and receipts are sound
pub of_no_pass : {S : Type 0} (sessions : ℕ) (passes : List Pass) (parts : List (Part S)) (closed : List (Closed S)) (cause : Cause) → AreAllPasses (length closed) sessions passes
    → HaveParts (length closed) parts closed → AllByRecursion (HasItsReceipts parts closed) passes → IsOfNoPass sessions parts closed cause → IsTrueOf sessions passes parts closed cause
of_no_pass sessions passes parts closed (cause.Receipts d k) all have its found = (all, (have, inr (its, found)))
of_no_pass sessions passes parts closed cause.Passes all have its found = absurd found
of_no_pass sessions passes parts closed (cause.Parts d) all have its found = absurd found
of_no_pass sessions passes parts closed cause.Memory all have its found = absurd found
