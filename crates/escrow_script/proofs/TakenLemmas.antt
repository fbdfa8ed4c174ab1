-- The lines of a script are taken one after another.
use Rattle.std.proofs.Common.{◌≡◌, ℕ, ◌+◌, ◌<◌, ◌≤◌, List, [], ◌∷◌, ◌++◌, length, take, Option, Some, None, arith, refl, sym, ap, subst, ◌∙◌, append_assoc, inl, inr}
use Rattle.std.specs.Prelude.{IfSome, Bool, true, false, ⊤}
use Rattle.std.specs.Io.KnownBytes.{IsAtEnd}
use Rattle.std.proofs.lemmas.List.{take_all, length-take}
use Rattle.std.proofs.lemmas.Bool.{cases_lt}
use Rattle.escrow_script.specs.declared.limits.TheConstants.{MAX_LINE}
use Rattle.escrow_script.specs.Line.{Reading, no_line, Reads, lines_of}
use Rattle.escrow_script.specs.Script.{TakesLine, Spends, left}

-- of a longer line, enough is kept to see that it is no line
kept_long : (databases sessions : ℕ) (line kept : List ℕ) (reading : Reading) → kept ≡ take (MAX_LINE + 1) line → MAX_LINE < length line → Reads databases sessions kept reading → reading ≡ no_line
kept_long databases sessions line kept reading e long (inl good) = absurd (omega (arith, good.0.0, ap length e, length-take (MAX_LINE + 1) line))
kept_long databases sessions line kept reading e long (inr bad) = bad.1

-- what is kept of a line is read as the line
pub kept_line : (databases sessions : ℕ) (line kept : List ℕ) (reading : Reading) → kept ≡ take (MAX_LINE + 1) line → Reads databases sessions kept reading → Reads databases sessions line reading
kept_line databases sessions line kept reading e reads = elim (cases_lt MAX_LINE (length line)) [
  | inl long ↦ inr ((λ readable. omega (arith, readable.0)), kept_long databases sessions line kept reading e long reads)
  | inr short ↦ subst (λ (bytes : List ℕ). Reads databases sessions bytes reading) (e ∙ take_all (MAX_LINE + 1) line (omega arith)) reads
]

-- the lines that were served and those that remain are those of the script, if its bytes are known
abbrev pub Rests : List (List ℕ) → Option (List ℕ) → Option (List ℕ) → Type 0
Rests served None rest = ⊤
Rests served (Some bytes) None = ⊥
Rests served (Some bytes) (Some rest) = lines_of bytes ≡ served ++ lines_of rest

pub rests_at_start : (script : Option (List ℕ)) → Rests [] script (left [] script)
rests_at_start None = tt
rests_at_start (Some bytes) = refl

-- the next line of a script; at most 4,097 bytes of it are kept
pub record Next (script rest new_rest : Option (List ℕ)) (kept : List ℕ) (served : List (List ℕ)) : Type 0 where
  pub line : List ℕ
  pub is_kept : kept ≡ take (MAX_LINE + 1) line
  pub rests : Rests (served ++ line ∷ []) script new_rest

pub next_of : (script rest new_rest : Option (List ℕ)) (kept : List ℕ) (served : List (List ℕ)) → length kept ≤ MAX_LINE + 1
    → TakesLine true rest new_rest kept → Rests served script rest → Next script rest new_rest kept served
next_of None rest new_rest kept served short taken h = record { line = kept; is_kept = sym (take_all (MAX_LINE + 1) kept short); rests = tt }
next_of (Some bytes) None new_rest kept served short taken h = absurd h
next_of (Some bytes) (Some rest) None kept served short taken h = absurd taken
next_of (Some bytes) (Some rest) (Some more) kept served short taken h = record {
  line = taken.0;
  is_kept = taken.2;
  rests = h ∙ ap (λ (ls : List (List ℕ)). served ++ ls) taken.1 ∙ sym (append_assoc served (taken.0 ∷ []) (lines_of more));
}

nothing_behind : (xs ys : List ℕ) → xs ++ ys ≡ [] → ys ≡ []
nothing_behind [] ys e = e
nothing_behind (x ∷ xs) ys e = cc

-- a script that was read to its end had at most the greatest number of bytes
pub within_limit : (bytes : List ℕ) (remaining : Option (List ℕ)) (old new : ℕ) → Spends (Some bytes) remaining old new → IsAtEnd remaining → length bytes ≤ old
within_limit bytes None old new spends ended = absurd spends
within_limit bytes (Some rest) old new spends ended = omega (arith, spends, ap length ended)

-- at the end of the script, its reader is at its end
pub ended : (script was remaining : Option (List ℕ)) (found : Bool) (was_unread kept unread : List ℕ) (limit now : ℕ) → found ≡ false → Spends script was limit now
    → TakesLine found (left was_unread was) (left unread remaining) kept → IfSome script (λ bytes. IsAtEnd remaining)
ended None was remaining found was_unread kept unread limit now is_false spends taken = tt
ended (Some bytes) None remaining found was_unread kept unread limit now is_false spends taken = absurd spends
ended (Some bytes) (Some rest) None found was_unread kept unread limit now is_false spends taken = tt
ended (Some bytes) (Some rest) (Some more) found was_unread kept unread limit now is_false spends taken =
    let none = subst (λ (f : Bool). TakesLine f (left was_unread (Some rest)) (left unread (Some more)) kept) is_false taken in
    nothing_behind unread more none.1

-- the test says that a line is in hand
pub read_without : (tested in_hand : Bool) → tested ≡ in_hand → tested ≡ true → in_hand ≡ false → ⊥
read_without tested in_hand same found none = let e : true ≡ false = sym found ∙ same ∙ none in cc
