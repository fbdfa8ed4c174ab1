-- What is buffered and written piece by piece, and what remains after a fault.
use Rattle.std.proofs.Common.{◌≡◌, ℕ, ◌<◌, List, [], ◌++◌, length, drop, Option, Some, None, arith, refl, sym, ap, ◌∙◌, append_assoc}
use Rattle.std.specs.Prelude.{Bool, true, false}
use Rattle.std.specs.Io.KnownBytes.{Appends}
use Rattle.std.proofs.lemmas.List.{append-nil, length-drop}
use Rattle.escrow_script.specs.declared.fault.ServeFault.{ServeFault}
use Rattle.escrow_script.specs.Written.{IsOfWriter, Leaves}

-- one piece is written after another
pub appends_more : (old mid new : Option (List ℕ)) (xs ys : List ℕ) → Appends old mid xs → Appends mid new ys → Appends old new (xs ++ ys)
appends_more None mid new xs ys a b = tt
appends_more (Some bs) None new xs ys a b = absurd a
appends_more (Some bs) (Some cs) None xs ys a b = absurd b
appends_more (Some bs) (Some cs) (Some ds) xs ys a b = b ∙ ap (λ (l : List ℕ). l ++ ys) a ∙ append_assoc bs xs ys

pub appends_none : (bytes : Option (List ℕ)) → Appends bytes bytes []
appends_none None = tt
appends_none (Some bs) = sym (append-nil bs)

-- what remains after a fault of the writer
pub leaves_some : (why : ServeFault) (bytes : List ℕ) (len : ℕ) → IsOfWriter why → len < length bytes → Leaves why (drop len bytes)
leaves_some why bytes len write short =
    let some : 0 < length (drop len bytes) = omega (arith, length-drop len bytes) in
    rw write.1 some

-- if there was no next line, none was in hand
pub nothing_waits : (found in_hand : Bool) (gathered : List ℕ) → found ≡ false → (in_hand ≡ true → found ≡ true) → (in_hand ≡ false → gathered ≡ []) → gathered ≡ []
nothing_waits found true gathered is_false taken waits = absurd (let e = sym is_false ∙ taken refl in cc)
nothing_waits found false gathered is_false taken waits = waits refl
