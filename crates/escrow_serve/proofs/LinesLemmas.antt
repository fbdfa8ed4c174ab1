-- Lines that are taken one after another and served in that order.
use Rattle.std.proofs.Common.{◌≡◌, ℕ, suc, ◌+◌, ◌≤◌, List, [], ◌∷◌, ◌++◌, length, take, Option, arith, refl, sym, ap, subst, ◌∙◌, append_assoc, true}
use Rattle.std.proofs.lemmas.List.{append-nil, length-append}
use Rattle.escrow_machine.specs.State.{State}
use Rattle.escrow_script.specs.declared.limits.TheConstants.{MAX_LINE}
use Rattle.escrow_script.specs.Script.{TakesLine}
use Rattle.escrow_script.proofs.TakenLemmas.{kept_line, Rests, next_of}
use Rattle.escrow_serve.specs.Batch.{TakesLines}
use Rattle.escrow_serve.specs.Output.{Sitting, ServesBytes, ServesLines}
use Rattle.escrow_serve.specs.Totals.{AllSit, LineServed, LinesServed}
use Rattle.escrow_serve.specs.declared.totals.Totals.{Totals}

-- of each line, at most one byte more than the longest line is kept
abbrev pub AreKept : List (List ℕ) → List (List ℕ) → Type 0
AreKept [] [] = Unit {0}
AreKept (line ∷ lines) (kept ∷ more) = (kept ≡ take (MAX_LINE + 1) line) × AreKept lines more
AreKept _ _ = ⊥

pub kept_count : (lines kept : List (List ℕ)) → AreKept lines kept → length lines ≡ length kept
kept_count [] [] are = refl
kept_count [] (k ∷ kept) are = absurd are
kept_count (l ∷ lines) [] are = absurd are
kept_count (l ∷ lines) (k ∷ kept) are = ap suc (kept_count lines kept are.1)

-- serving the kept part of lines is serving the lines
pub serves_kept : (sessions : ℕ) → (sittings new : List Sitting) (lines kept : List (List ℕ)) (out : List ℕ) → AreKept lines kept → ServesLines sessions sittings kept out new → ServesLines sessions sittings lines out new
serves_kept sessions sittings new [] [] out are serves = serves
serves_kept sessions sittings new [] (k ∷ kept) out are serves = absurd are
serves_kept sessions sittings new (l ∷ lines) [] out are serves = absurd are
serves_kept sessions sittings new (l ∷ lines) (k ∷ kept) out are serves =
    let step = serves.3 in
    (serves.0, serves.1, serves.2, (step.0, kept_line (length sittings) sessions l k step.0 are.0 step.1, step.2), serves_kept sessions serves.2 new lines kept serves.1 are.1 serves.4, serves.5)

-- lines are served after others
pub serves_behind : (sessions : ℕ) → (sittings mid new : List Sitting) (served lines : List (List ℕ)) (out first : List ℕ) → ServesLines sessions sittings served out mid
    → ServesLines sessions mid lines first new → ServesLines sessions sittings (served ++ lines) (out ++ first) new
serves_behind sessions sittings mid new [] lines out first h step =
    subst (λ (o : List ℕ). ServesLines sessions sittings lines (o ++ first) new) (sym h.0) (subst (λ (m : List Sitting). ServesLines sessions m lines first new) h.1 step)
serves_behind sessions sittings mid new (l ∷ ls) lines out first h step =
    (h.0, h.1 ++ first, h.2, h.3, serves_behind sessions h.2 mid new ls lines h.1 first h.4 step, ap (λ (o : List ℕ). o ++ first) h.5 ∙ append_assoc h.0 h.1 first)

-- the next lines of a script
pub record Nexts (script rest new_rest : Option (List ℕ)) (kept served : List (List ℕ)) : Type 0 where
  pub lines : List (List ℕ)
  pub are_kept : AreKept lines kept
  pub rests : Rests (served ++ lines) script new_rest

pub nexts_of : (script rest new_rest : Option (List ℕ)) (kept served : List (List ℕ)) → TakesLines kept rest new_rest → Rests served script rest → Nexts script rest new_rest kept served
nexts_of script rest new_rest [] served same rests = record {
  lines = [];
  are_kept = tt;
  rests = subst (λ (ls : List (List ℕ)). Rests ls script new_rest) (sym (append-nil served)) (subst (λ (r : Option (List ℕ)). Rests served script r) (sym same) rests);
}
nexts_of script rest new_rest (k ∷ kept) served taken rests =
    let next = next_of script rest taken.0 k served taken.1 taken.2 rests in
    let more = nexts_of script taken.0 new_rest kept (served ++ next.line ∷ []) taken.3 next.rests in
    record {
      lines = next.line ∷ more.lines;
      are_kept = (next.is_kept, more.are_kept);
      rests = subst (λ (ls : List (List ℕ)). Rests ls script new_rest) (append_assoc served (next.line ∷ []) more.lines) more.rests;
    }

-- one more line is taken
pub takes_more : (lines : List (List ℕ)) (kept : List ℕ) (bytes mid rest : Option (List ℕ)) → TakesLines lines bytes mid → length kept ≤ MAX_LINE + 1 → TakesLine true mid rest kept
    → TakesLines (lines ++ kept ∷ []) bytes rest
takes_more [] kept bytes mid rest same short taken = (rest, short, subst (λ (b : Option (List ℕ)). TakesLine true b rest kept) same taken, refl)
takes_more (l ∷ lines) kept bytes mid rest before short taken = (before.0, before.1, before.2, takes_more lines kept before.0 mid rest before.3 short taken)

one_line : (sessions : ℕ) → (sittings new : List Sitting) (line out : List ℕ) → ServesBytes sessions sittings line out new → ServesLines sessions sittings (line ∷ []) out new
one_line sessions sittings new line out serves = (out, [], new, serves, (refl, refl), sym (append-nil out))

-- no line is served, or one more line is
pub lines_none : (sessions : ℕ) → (states : List State) (totals : List Totals) → LinesServed sessions states totals [] [] states totals
lines_none sessions states totals = λ sittings most all below.
    let same : most ≡ most + 0 = omega arith in
    (sittings, (refl, refl), subst (λ (n : ℕ). AllSit states totals sittings n) same all)

pub lines_more : (sessions : ℕ) → (states mid new : List State) (totals between counted : List Totals) (lines : List (List ℕ)) (line out first : List ℕ) → LinesServed sessions states totals lines out mid between
    → LineServed sessions mid between line first new counted → LinesServed sessions states totals (lines ++ line ∷ []) (out ++ first) new counted
lines_more sessions states mid new totals between counted lines line out first before step = λ sittings most all below.
    let count : length (lines ++ line ∷ []) ≡ length lines + 1 = omega (arith, length-append lines (line ∷ [])) in
    let start = before sittings most all (omega (arith, below, count)) in
    let next = step start.0 (most + length lines) start.2 (omega (arith, below, count)) in
    let one = one_line sessions start.0 next.0 line first next.1 in
    let sum : (most + length lines) + 1 ≡ most + length (lines ++ line ∷ []) = omega (arith, count) in
    (next.0, serves_behind sessions sittings start.0 next.0 lines (line ∷ []) out first start.1 one, subst (λ (n : ℕ). AllSit new counted next.0 n) sum next.2)
