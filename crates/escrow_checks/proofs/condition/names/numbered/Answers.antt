use Rattle.std.proofs.Common.{◌≡◌, ℕ, List, ◌∷◌, [], ◌+◌, ◌%◌, ◌/◌, ◌++◌, ◌<◌, ◌≤◌, arith, ap, ◌∙◌, sym, append_assoc, Option, Some, None}
use Rattle.std.specs.Prelude.{codes, if◌then◌else◌}
use Rattle.std.specs.Fmt.{decimal}
use Rattle.std.proofs.lemmas.Fmt.{decimal_digit, decimal_step}
use Rattle.escrow_checks.specs.WrittenName.{is_written_name}
use Rattle.escrow_checks.proofs.condition.names.numbered.Goals as goal

one_digit : (n : ℕ) → n < 10 → (48 + n % 10) ∷ [] ≡ decimal n
one_digit n below = ap (λ k. (48 + k) ∷ []) (omega arith) ∙ sym (decimal_digit n below)

two_digits : (n : ℕ) → 10 ≤ n → n ≤ 32 → (48 + n / 10) ∷ (48 + n % 10) ∷ [] ≡ decimal n
two_digits n above small =
    ap (λ front. front ++ (48 + n % 10) ∷ []) (sym (decimal_digit (n / 10) (omega arith))) ∙ sym (decimal_step n above (omega arith))

-- `_` and the digits are appended to a text
behind : (text digits : List ℕ) (n : ℕ) → digits ≡ decimal n → text ++ (95 ∷ digits) ≡ text ++ codes "_" ++ decimal n
behind text digits n e = ap (λ ds. text ++ (95 ∷ ds)) e ∙ sym (append_assoc text (95 ∷ []) (decimal n))

if_written : List ℕ → Option (List ℕ)
if_written name = if is_written_name name then Some name else None

pub returns-then-number-lt10 : goal.returns-then-number-lt10
unfolding if_written
returns-then-number-lt10 c =
    c.joined.ensures ∙ ap if_written (behind c.args.text.now _ c.args.number (one_digit c.args.number c.if-number-lt10.true))

pub returns-else-number-lt10 : goal.returns-else-number-lt10
unfolding if_written
returns-else-number-lt10 c =
    c.joined-else-number-lt10.ensures ∙ ap if_written (behind c.args.text.now _ c.args.number (two_digits c.args.number c.if-number-lt10.false c.requires))
