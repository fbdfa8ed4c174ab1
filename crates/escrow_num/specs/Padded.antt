-- Helps: how a name lies in its place. No contract of a public call uses it.
use Rattle.std.specs.Prelude.{◌≡◌, ℕ, ◌≤◌, ◌-◌, List, length, ◌++◌, take, replicate}
use Rattle.std.proofs.Common.{arith, ap, ◌∙◌, length-append}
use Rattle.std.proofs.lemmas.List.{length-replicate, length-take}
use Rattle.escrow_num.specs.declared.name.TheConstants.Name.{MAX_LEN}

-- a name in its place: zeros fill the rest of the 36 bytes
abbrev pub padded : List ℕ → List ℕ
padded name = name ++ replicate (MAX_LEN - length name) 0

-- a place is 36 bytes long
length-padded : (name : List ℕ) → length name ≤ MAX_LEN → length (padded name) ≡ MAX_LEN
length-padded name short =
    omega (
      arith,
      length-append name (replicate (MAX_LEN - length name) 0),
      length-replicate {A = ℕ}
          (MAX_LEN - length name) 0,
    )

-- the length of the name that a place holds
pub length-held : (bytes : List ℕ) (len : ℕ) → len ≤ MAX_LEN → length (take len bytes) ≤ MAX_LEN
    → bytes ≡ padded (take len bytes) → length (take len bytes) ≡ len
length-held bytes len small short whole =
    let long : length bytes ≡ MAX_LEN = ap length whole ∙ length-padded (take len bytes) short in
    omega (arith, length-take len bytes)
