-- The outcome of each COMMIT of a plan, entry by entry and by session.
use Rattle.std.specs.Prelude.{◌≡◌, ℕ, ◌+◌, ◌==◌, true, false, if◌then◌else◌, Option, Some, None, is_none, List, [], ◌∷◌, ◌++◌, length, map, take, drop, replicate, slice_get}
use Rattle.std.specs.List.{AllByRecursion}
use Rattle.std.proofs.Common.{zero, suc, refl, sym, ap₂, eq-eqb, add-one, ◌∙◌}
use Rattle.std.proofs.lemmas.Bool.{false_from_ne_true, eqb-true}
use Rattle.escrow_num.specs.declared.failure.Failure.{Failure}
use Rattle.escrow_num.specs.declared.session.End.{End}
use Rattle.escrow_machine.specs.Held.{Outcome}
use Rattle.escrow_machine.specs.Settle.{after_end, after_ends}
use Rattle.escrow_machine.specs.State.{State}
use Rattle.escrow_core.specs.Beside.{AreApart, ended}

-- the outcome of the COMMIT of each session of a plan
abbrev pub outcome_in : List (ℕ × End) → List (Option Failure) → Outcome
outcome_in [] outcomes session = None
outcome_in (entry ∷ plan) [] session = None
outcome_in (entry ∷ plan) (outcome ∷ outcomes) session = if entry.0 == session then outcome else outcome_in plan outcomes session

-- the outcome of each entry of a plan, by its session
abbrev pub outcomes_by : Outcome → List (ℕ × End) → List (Option Failure)
outcomes_by outcome plan = map (λ entry. outcome entry.0) plan

-- BY SESSION, AND BACK

-- an entry in front does not change the outcomes of other sessions
pub others_found : (entry : ℕ × End) (outcome : Option Failure) (by : Outcome) (plan : List (ℕ × End)) → AllByRecursion (λ later. ¬ (later.0 ≡ entry.0)) plan
    → map (λ (later : ℕ × End). if entry.0 == later.0 then outcome else by later.0) plan ≡ outcomes_by by plan
others_found entry outcome by [] apart = refl
others_found entry outcome by (later ∷ plan) apart =
    let other : (entry.0 == later.0) ≡ false = false_from_ne_true (entry.0 == later.0) (λ t. apart.0 (sym (eqb-true entry.0 later.0 t))) in
    ap₂ (λ (o : Option Failure) (os : List (Option Failure)). o ∷ os) (rw other refl) (others_found entry outcome by plan apart.1)

pub found_again : (plan : List (ℕ × End)) (outcomes : List (Option Failure)) → AreApart plan → length outcomes ≡ length plan
    → outcomes_by (outcome_in plan outcomes) plan ≡ outcomes
found_again [] [] apart as_many = refl
found_again [] (outcome ∷ outcomes) apart as_many = absurd (cc)
found_again (entry ∷ plan) [] apart as_many = absurd (cc)
found_again (entry ∷ plan) (outcome ∷ outcomes) apart as_many =
    let same : (entry.0 == entry.0) ≡ true = eq-eqb entry.0 entry.0 refl in
    ap₂ (λ (o : Option Failure) (os : List (Option Failure)). o ∷ os) (rw same refl)
    (others_found entry outcome (outcome_in plan outcomes) plan apart.0 ∙ found_again plan outcomes apart.1 (cc))

-- THE STATE

-- one more entry
pub ended_more : (plan : List (ℕ × End)) (outcomes : List (Option Failure)) (entry : ℕ × End) (outcome : Option Failure) (s : State) → length outcomes ≡ length plan
    → ended (plan ++ entry ∷ []) (outcomes ++ outcome ∷ []) s
    ≡ (if is_none outcome then after_end (ended plan outcomes s) entry.0 entry.1 else ended plan outcomes s)
ended_more [] [] entry outcome s as_many = refl
ended_more [] (first ∷ outcomes) entry outcome s as_many = absurd (cc)
ended_more (front ∷ plan) [] entry outcome s as_many = absurd (cc)
ended_more (front ∷ plan) (first ∷ outcomes) entry outcome s as_many =
    ended_more plan outcomes entry outcome (if is_none first then after_end s front.0 front.1 else s) (cc)

-- no entry failed
pub all_ended : (plan : List (ℕ × End)) (s : State) → ended plan (replicate (length plan) None) s ≡ after_ends s plan
all_ended [] s = refl
all_ended (entry ∷ plan) s = all_ended plan (after_end s entry.0 entry.1)

-- the first failed entry has an index
past_one : (plan : List (ℕ × End)) (place : ℕ) (entry : ℕ × End) (cause : Failure) (more : List (Option Failure)) (s : State) → slice_get plan place ≡ Some entry
    → ended plan (replicate place None ++ Some cause ∷ more) s ≡ ended (drop (suc place) plan) more (after_ends s (take place plan))
past_one [] place entry cause more s found = absurd (cc)
past_one (front ∷ plan) zero entry cause more s found = refl
past_one (front ∷ plan) (suc place) entry cause more s found = past_one plan place entry cause more (after_end s front.0 front.1) found

pub ended_past : (plan : List (ℕ × End)) (place : ℕ) (entry : ℕ × End) (cause : Failure) (more : List (Option Failure)) (s : State) → slice_get plan place ≡ Some entry
    → ended plan (replicate place None ++ Some cause ∷ more) s ≡ ended (drop (place + 1) plan) more (after_ends s (take place plan))
ended_past plan place entry cause more s found = rw (add-one place) (past_one plan place entry cause more s found)
