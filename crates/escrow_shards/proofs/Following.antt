-- The parts of one database among all parts, visited in order.
use Rattle.std.proofs.Common.{◌≡◌, ◌↔◌, ◌==◌, ℕ, ◌+◌, ◌<◌, ◌≤◌, true, false, Bool, cond, List, ◌∷◌, length, get_or, drop, sym, ap, ◌∙◌, subst}
use Rattle.std.proofs.lemmas.List.{drop_all}
use Rattle.std.specs.List.{AllByRecursion}
use Rattle.sqlite_trees.specs.declared.store.Store.{Ghosts}
use Rattle.escrow_transcript.specs.declared.base.Base.{Base}
use Rattle.escrow_shards.specs.Closed.{Follow}
use Rattle.escrow_shards.specs.Part.{Part, IsSound, parts_of}
use Rattle.escrow_shards.proofs.Rest.{rest_at}

-- at a part of the database, the remaining parts begin with it
pub parts_here : {S : Type 0} (d : ℕ) (parts : List (Part S)) (i : ℕ) (p : Part S) → i < length parts → p ≡ get_or parts i p → (p.database == d) ≡ true
    → parts_of d (drop i parts) ≡ p ∷ parts_of d (drop (i + 1) parts)
parts_here d parts i p below at of =
    ap (parts_of d) (rest_at parts i p below at) ∙ ap (λ (b : Bool). cond b (p ∷ parts_of d (drop (i + 1) parts)) (parts_of d (drop (i + 1) parts))) of

-- a part of another database is not among them
pub parts_past : {S : Type 0} (d : ℕ) (parts : List (Part S)) (i : ℕ) (p : Part S) → i < length parts → p ≡ get_or parts i p → (p.database == d) ≡ false
    → parts_of d (drop i parts) ≡ parts_of d (drop (i + 1) parts)
parts_past d parts i p below at of =
    ap (parts_of d) (rest_at parts i p below at) ∙ ap (λ (b : Bool). cond b (p ∷ parts_of d (drop (i + 1) parts)) (parts_of d (drop (i + 1) parts))) of

module _ {S : Type 0} (d : ℕ) (parts : List (Part S)) (first last : Base) (count : ℕ) where
  -- the remaining parts follow one another exactly if all do
  abbrev pub Left : ℕ → ℕ → Base → Type 0
  Left i number base = Follow number base (parts_of d (drop i parts)) count last ↔ Follow 0 first (parts_of d parts) count last

  pub left_past : (i number : ℕ) (base : Base) (p : Part S) → i < length parts → p ≡ get_or parts i p → (p.database == d) ≡ false
      → Left i number base → Left (i + 1) number base
  left_past i number base p below at of left =
      subst (λ (ps : List (Part S)). Follow number base ps count last ↔ Follow 0 first (parts_of d parts) count last) (parts_past d parts i p below at of) left

  pub left_here : (i number : ℕ) (base : Base) (p : Part S) → i < length parts → p ≡ get_or parts i p → (p.database == d) ≡ true
      → (p.number ≡ number + 1) × (p.base ≡ base) → Left i number base → Left (i + 1) p.number p.end
  left_here i number base p below at of next left =
      let at_p : Follow number base (p ∷ parts_of d (drop (i + 1) parts)) count last ↔ Follow 0 first (parts_of d parts) count last =
      subst (λ (ps : List (Part S)). Follow number base ps count last ↔ Follow 0 first (parts_of d parts) count last) (parts_here d parts i p below at of) left in
      subst (λ (n : ℕ). Follow n p.end (parts_of d (drop (i + 1) parts)) count last ↔ Follow 0 first (parts_of d parts) count last) (sym next.0)
      (λ rest. at_p.0 (next.0, (next.1, rest)), λ all. (at_p.1 all).1.1)

  pub left_fails : (i number : ℕ) (base : Base) (p : Part S) → i < length parts → p ≡ get_or parts i p → (p.database == d) ≡ true
      → ((p.number ≡ number + 1) × (p.base ≡ base) → ⊥) → Left i number base → Follow 0 first (parts_of d parts) count last → ⊥
  left_fails i number base p below at of other left all =
      let at_p : Follow number base (p ∷ parts_of d (drop (i + 1) parts)) count last =
      subst (λ (ps : List (Part S)). Follow number base ps count last) (parts_here d parts i p below at of) (left.1 all) in
      other (at_p.0, at_p.1.0)

  pub left_end : (i number : ℕ) (base : Base) → length parts ≤ i → Left i number base → ((number ≡ count) × (base ≡ last)) ↔ Follow 0 first (parts_of d parts) count last
  left_end i number base past left =
      subst (λ (ps : List (Part S)). Follow number base (parts_of d ps) count last ↔ Follow 0 first (parts_of d parts) count last) (drop_all i parts past) left

module _ {S : Type 0} (g : Ghosts S) (d : ℕ) (parts : List (Part S)) where
  -- all parts of a database are sound if the remaining ones are
  abbrev pub Told : ℕ → Type 0
  Told i = AllByRecursion (IsSound g) (parts_of d (drop i parts)) → AllByRecursion (IsSound g) (parts_of d parts)

  pub told_past : (i : ℕ) (p : Part S) → i < length parts → p ≡ get_or parts i p → (p.database == d) ≡ false → Told i → Told (i + 1)
  told_past i p below at of told =
      subst (λ (ps : List (Part S)). AllByRecursion (IsSound g) ps → AllByRecursion (IsSound g) (parts_of d parts)) (parts_past d parts i p below at of) told

  pub told_here : (i : ℕ) (p : Part S) → i < length parts → p ≡ get_or parts i p → (p.database == d) ≡ true → IsSound g p → Told i → Told (i + 1)
  told_here i p below at of sound told rest =
      told (subst (λ (ps : List (Part S)). AllByRecursion (IsSound g) ps) (sym (parts_here d parts i p below at of)) (sound, rest))

  pub told_end : (i : ℕ) → length parts ≤ i → Told i → AllByRecursion (IsSound g) (parts_of d parts)
  told_end i past told = told (subst (λ (ps : List (Part S)). AllByRecursion (IsSound g) (parts_of d ps)) (sym (drop_all i parts past)) tt)
