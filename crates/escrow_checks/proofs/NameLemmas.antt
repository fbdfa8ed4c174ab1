-- The names that a statement can write.
use Rattle.std.proofs.Common.{◌≡◌, ℕ, ◌≤◌, Bool, true, false, ◌&&◌, List, length, refl, arith}
use Rattle.std.specs.Prelude.{nat_le, is_none}
use Rattle.std.proofs.lemmas.Bool.{and_parts}
use Rattle.std.proofs.lemmas.Bool.Decides.{nat_tests}
use Rattle.escrow_num.specs.Name.{IsName, spells_name}
use Rattle.escrow_num.specs.declared.name.TheConstants.Name.{MAX_WRITTEN}
use Rattle.escrow_statement.specs.Word.{reserved}
use Rattle.escrow_checks.specs.WrittenName.{is_written_name}

-- a name that a statement can write is short and well formed
pub written_is : (name : List ℕ) → is_written_name name ≡ true → (length name ≤ MAX_WRITTEN) × IsName name
unfolding is_written_name
written_is name e =
    let both = and_parts (spells_name name && nat_le (length name) MAX_WRITTEN) (is_none (reserved name)) e in
    let parts = and_parts (spells_name name) (nat_le (length name) MAX_WRITTEN) both.0 in
    let short : length name ≤ MAX_WRITTEN = grind (arith, nat_tests, parts.1) in
    (short, record { spelled = parts.0; short = omega (arith, short) })

-- any other name cannot be written
pub unwritten : (name : List ℕ) → ¬ ((length name ≤ MAX_WRITTEN) × IsName name) → is_written_name name ≡ false
unwritten name not = go (is_written_name name) refl
  where
    go : (b : Bool) → is_written_name name ≡ b → b ≡ false
    go false e = refl
    go true e = absurd (not (written_is name e))
