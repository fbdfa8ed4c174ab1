-- The canonical text of a table, item by item.
use Rattle.std.proofs.Common.{◌≡◌, ℕ, ℤ, zero, suc, ◌≤◌, min, Bool, Result, OnOk, List, [], ◌∷◌, ◌++◌, length, drop, refl, sym, ap, ◌∙◌, subst, append_assoc, arith}
use Rattle.std.specs.Prelude.{◌==◌, codes}
use Rattle.std.specs.List.{flat_map}
use Rattle.std.proofs.lemmas.List.Concat.{flat_map-append}
use Rattle.escrow_statement.specs.Joined.{joined}
use Rattle.escrow_schema.specs.declared.column.Column.{Column}
use Rattle.escrow_schema.specs.Print.{column_words, columns_words, form_words}

-- the texts from a place on, each preceded by a separator unless it is the first of all
abbrev pub joined_from : ℕ → List (List ℕ) → List ℕ
joined_from zero texts = joined texts
joined_from (suc place) texts = flat_map (λ text. codes ", " ++ text) texts

-- texts after one or more columns
pub joined_behind : (columns : List Column) (key : ℕ) (texts : List (List ℕ)) → 1 ≤ length columns
    → joined (columns_words columns 0 key ++ texts) ≡ joined (columns_words columns 0 key) ++ flat_map (λ text. codes ", " ++ text) texts
joined_behind [] key texts some = absurd (omega arith)
joined_behind (column ∷ columns) key texts some =
    let separated : List ℕ → List ℕ = λ text. codes ", " ++ text in
    let rest = columns_words columns 1 key in
    ap (λ more. column_words (0 == key) column ++ more) (flat_map-append separated rest texts)
    ∙ sym (append_assoc (column_words (0 == key) column) (flat_map separated rest) (flat_map separated texts))

-- after the last name or the last coefficient, nothing is shown
pub form_past : (is_first : Bool) (names : List (List ℕ)) (coeffs : List ℤ) (i : ℕ) → i ≡ min (length names) (length coeffs) → form_words is_first (drop i names) (drop i coeffs) ≡ []
form_past is_first [] coeffs zero end = refl
form_past is_first (name ∷ names) [] zero end = refl
form_past is_first (name ∷ names) (c ∷ coeffs) zero end = absurd (omega arith)
form_past is_first [] coeffs (suc i) end = absurd (omega arith)
form_past is_first (name ∷ names) [] (suc i) end = absurd (omega arith)
form_past is_first (name ∷ names) (c ∷ coeffs) (suc i) end = form_past is_first names coeffs i (omega arith)

-- the text that was added is the text to add, if both are equal
pub added : {A E : Type 0} (r : Result A E) (new before old : List ℕ) (last text : List ℕ) → OnOk r (new ≡ before ++ last) → before ++ last ≡ old ++ text → OnOk r (new ≡ old ++ text)
added r new before old last text h e = subst (λ (bytes : List ℕ). OnOk r (new ≡ bytes)) e h

-- four concatenated texts
pub four_texts : (old a b c d : List ℕ) (one two three : List ℕ) → one ≡ old ++ a → two ≡ one ++ b → three ≡ two ++ c → three ++ d ≡ old ++ (a ++ (b ++ (c ++ d)))
four_texts old a b c d one two three e f g =
    rw (g, f, e) (append_assoc ((old ++ a) ++ b) c d ∙ (append_assoc (old ++ a) b (c ++ d) ∙ append_assoc old a (b ++ (c ++ d))))

-- the columns were added first, then the other items
pub items_added : {A E : Type 0} (r : Result A E) (new between old : List ℕ) (columns : List Column) (key : ℕ) (texts : List (List ℕ)) → 1 ≤ length columns
    → OnOk r (new ≡ between ++ flat_map (λ text. codes ", " ++ text) texts) → between ≡ old ++ joined (columns_words columns 0 key)
    → OnOk r (new ≡ old ++ joined (columns_words columns 0 key ++ texts))
items_added r new between old columns key texts some h e =
    let front = joined (columns_words columns 0 key) in
    let rest = flat_map (λ text. codes ", " ++ text) texts in
    added r new between old rest (joined (columns_words columns 0 key ++ texts)) h
    (ap (λ (bytes : List ℕ). bytes ++ rest) e ∙ (append_assoc old front rest ∙ ap (λ (bytes : List ℕ). old ++ bytes) (sym (joined_behind columns key texts some))))
