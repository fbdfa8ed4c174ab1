-- Databases that are read one after another.
use Rattle.std.proofs.Common.{◌≡◌, ◌↔◌, ℕ, zero, suc, ◌<◌, Bool, true, false, inl, inr, List, [], ◌∷◌, length, get_or, set, refl, ap, ◌∙◌, subst, arith}
use Rattle.std.proofs.lemmas.Bool.{or_parts}
use Rattle.std.specs.Prelude.{Result, Ok, Err, IfErr}
use Rattle.std.specs.Result.{IsErrAnd}
use Rattle.sqlite.specs.Held.{state}
use Rattle.sqlite.specs.State.{HasCleanDisk}
use Rattle.sqlite_trees.specs.declared.store.Store.{Ghosts}
use Rattle.escrow_num.specs.declared.refusal.Refusal.{Refusal}
use Rattle.escrow_num.specs.declared.refusal.Refusal.TheVariants as refusal
use Rattle.escrow_core.specs.Database.{Database}
use Rattle.escrow_machine.specs.State.{has_open}
use Rattle.escrow_history.specs.Calls.{IsFailed}
use Rattle.escrow_shards.specs.Opened.{any_open, IsRead, AreRead}

-- databases that were not touched
pub read_same : {S : Type 0} (g : Ghosts S) (xs : List (Database S)) → AreRead g xs xs
read_same g [] = tt
read_same g (x ∷ xs) = (record { unchanged = refl; clean = λ h. h }, read_same g xs)

-- one more database was read
pub read_set : {S : Type 0} (g : Ghosts S) (olds news : List (Database S)) (i : ℕ) (n m : Database S) → AreRead g olds news → n ≡ get_or news i n → IsRead g n m
    → AreRead g olds (set news i m)
read_set g [] [] i n m read at more = tt
read_set g [] (x ∷ xs) i n m read at more = absurd read
read_set g (o ∷ os) [] i n m read at more = absurd read
read_set g (o ∷ os) (x ∷ xs) zero n m read at more =
    (record { unchanged = more.unchanged ∙ ap (λ (d : Database _). d.state) at ∙ read.0.unchanged; clean = λ h. read.0.clean (subst (λ (d : Database _). HasCleanDisk (state g d.store)) at (more.clean h)) }, read.1)
read_set g (o ∷ os) (x ∷ xs) (suc i) n m read at more = (read.0, read_set g os xs i n m read.1 at more)

-- if none was open, none is open after reading
pub closed_at : {S : Type 0} (g : Ghosts S) (olds news : List (Database S)) (i : ℕ) (n : Database S) → AreRead g olds news → any_open olds ≡ false
    → i < length news → n ≡ get_or news i n → has_open n.state ≡ false
closed_at g [] [] i n read closed below at = absurd (omega arith)
closed_at g [] (x ∷ xs) i n read closed below at = absurd read
closed_at g (o ∷ os) [] i n read closed below at = absurd read
closed_at g (o ∷ os) (x ∷ xs) zero n read closed below at =
    ap (λ (d : Database _). has_open d.state) at ∙ ap has_open read.0.unchanged ∙ (or_parts (has_open o.state) (any_open os) closed).0
closed_at g (o ∷ os) (x ∷ xs) (suc i) n read closed below at =
    closed_at g os xs i n read.1 (or_parts (has_open o.state) (any_open os) closed).1 (omega arith) at

-- a failure does not report an open transaction
pub failed_closed : (r : Refusal) (opened : Bool) → IsFailed r → opened ≡ false → (r ≡ refusal.TransactionOpen) ↔ (opened ≡ true)
failed_closed r opened (inl memory) closed = (λ is. absurd (cc), λ is. absurd (cc))
failed_closed r opened (inr store) closed = (λ is. absurd (cc), λ is. absurd (cc))

-- what follows from a fact about the error holds of the error
pub of_err : {T E : Type 0} (r : Result T E) (P Q : E → Type 0) → IsErrAnd r P → ((e : E) → P e → Q e) → IfErr r Q
of_err (Ok x) P Q said follows = tt
of_err (Err e) P Q said follows = follows e said
