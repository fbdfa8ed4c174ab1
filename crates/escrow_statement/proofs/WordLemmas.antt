-- What holds along the list of reserved words holds for each of them.
use Rattle.std.proofs.Common.{◌≡◌, get_or, refl, sym, ap, ap₂, ◌∙◌}
use Rattle.std.specs.Prelude.{map}
use Rattle.std.proofs.Math.ListN.{get_or-map}
use Rattle.escrow_statement.specs.Word.{reserved_words}
use Rattle.escrow_statement.specs.WordNumber.{number_of}
use Rattle.escrow_statement.specs.declared.word.Word.{Word}
use Rattle.escrow_statement.specs.declared.word.Word.TheVariants as word

-- each reserved word is found by its number
word_found : (w : Word) → get_or reserved_words (number_of w) word.Add ≡ w
word_found word.Add = refl
word_found other = refl

-- two functions that agree along the list of reserved words agree on each word
pub each_word : {A : Type 0} (f g : Word → A) → map f reserved_words ≡ map g reserved_words → (w : Word) → f w ≡ g w
each_word f g same w =
    let n = number_of w in
    let first : f word.Add ≡ g word.Add = ap (λ xs. get_or xs 0 (f word.Add)) same in
    ap f (sym (word_found w)) ∙ (sym (get_or-map f reserved_words n word.Add) ∙ (ap₂ (λ xs d. get_or xs n d) same first ∙ (get_or-map g reserved_words n word.Add ∙ ap g (word_found w))))
