-- The canonical text of a table writes its tree by the grammar.
use Rattle.std.proofs.Common.{◌≡◌, ℕ, suc, ℤ, pos, negsuc, ◌+◌, ◌≤◌, ◌<◌, Bool, true, false, ◌&&◌, not, Option, Some, None, List, [], ◌∷◌, ◌++◌, length, map, refl, sym, subst, append_assoc, arith, inl, inr}
use Rattle.std.specs.Prelude.{◌==◌, ◌||◌, All, codes, decimal, is_none, nat_le, unsigned_abs}
use Rattle.std.specs.Char.{is_ascii_uppercase}
use Rattle.std.specs.List.{AllByRecursion, list_all, list_any}
use Rattle.std.specs.Option.{is_some}
use Rattle.std.specs.Ordering.{int_eq}
use Rattle.std.proofs.lemmas.Bool.{and_parts, cases_Bool, eqb-true, leb-true, false≢true}
use Rattle.std.proofs.lemmas.Bool.Decides.{nat_tests}
use Rattle.std.proofs.lemmas.List.{append-nil}
use Rattle.escrow_num.specs.Name.{is_name_byte, spells_name}
use Rattle.escrow_num.specs.Scale.{IsScale}
use Rattle.escrow_num.specs.declared.name.TheConstants.Name.{MAX_WRITTEN}
use Rattle.escrow_sql.specs.Grammar.{many}
use Rattle.escrow_sql.specs.Statement.{body, check, column, condition, constraint, create, digits, item, mark, name, request, signed_term, size, sum, table_statement, term, test_part, type_text}
use Rattle.escrow_statement.specs.Word.{reserved}
use Rattle.escrow_statement.specs.declared.statement.Comparison.TheVariants as comparisons
use Rattle.escrow_statement.specs.declared.statement.Item.{Item}
use Rattle.escrow_statement.specs.declared.statement.Item.TheVariants as items
use Rattle.escrow_statement.specs.declared.statement.Request.TheVariants as requests
use Rattle.escrow_statement.specs.declared.statement.Statement.TheVariants as statements
use Rattle.escrow_statement.specs.declared.statement.Term.TheVariants as terms
use Rattle.escrow_statement.specs.declared.word.Word.TheVariants as words
use Rattle.escrow_sql.proofs.Writing.{Writes, is_behind, none_more, one_more, writes_apart, writes_blank, writes_first, writes_left, writes_meaning, writes_nothing, writes_right}
use Rattle.escrow_sql.proofs.WritingLists.{WriteEach, writes_listed}
use Rattle.escrow_sql.proofs.WritingSums.{digits_plain, first_term, writes_between, writes_compare, writes_minus, writes_negated, writes_once, writes_plus, writes_sum, writes_times, writes_unsigned}
use Rattle.escrow_sql.proofs.WritingNumbers.{writes_scaled_size, writes_size}
use Rattle.escrow_sql.proofs.WritingTokens.{no_minus, writes_in_parentheses, writes_name, writes_whole, writes_word}
use Rattle.escrow_checks.specs.declared.check.Check.{Check}
use Rattle.escrow_checks.specs.DeclaredCheck.{IsDeclared, written_of}
use Rattle.escrow_checks.specs.WrittenName.{is_written_name}
use Rattle.escrow_schema.specs.declared.column.Column.{Column}
use Rattle.escrow_schema.specs.declared.column.ColumnType.{ColumnType}
use Rattle.escrow_schema.specs.declared.column.ColumnType.TheVariants.{Number, Varchar2}
use Rattle.escrow_schema.specs.Column.{names_of}
use Rattle.escrow_schema.specs.Print.{check_words, column_words, columns_words, condition_words, form_words, limit_words, marks_words, scale_words, sign_words, table_words, times_words, type_words}
use Rattle.escrow_schema.specs.Typed.{IsType}
use Rattle.escrow_schema.proofs.ColumnsLemmas.{HasType}
use Rattle.escrow_schema.proofs.PrintChecks.{AreAmounts, IsSmall, amounts_of, scale_is, small_each, some_coefficient, written_covers}
use Rattle.escrow_schema.proofs.PrintTree.{check_item, column_tree, columns_tree, condition_tree, marks_tree, scale_tree, terms_tree, test_tree, type_tree}

none_from : {A : Type 0} (o : Option A) → is_none o ≡ true → o ≡ None
none_from None e = refl
none_from (Some x) e = absurd (false≢true e)

-- a name that a statement can write is written unchanged
writes_own_name : (n : List ℕ) → is_written_name n ≡ true → Writes is_behind name n n
unfolding is_written_name
writes_own_name n h =
    let parts = and_parts (spells_name n && nat_le (length n) MAX_WRITTEN) (is_none (reserved n)) h in
    let front = and_parts (spells_name n) (nat_le (length n) MAX_WRITTEN) parts.0 in
    writes_name n front.0 (leb-true (length n) MAX_WRITTEN front.1) (none_from (reserved n) parts.1)

-- the size of a numeric type; a scale of 0 is not printed
writes_type_size : (p s : ℕ) → IsType (Number p s) → Writes is_behind size (decimal p ++ scale_words s) (record { digits = pos p; scale = scale_tree s })
writes_type_size p s h =
    elim (cases_Bool (s == 0)) [
      | inl e ↦ rw (e, append-nil (decimal p)) (writes_size p (omega (arith, h.1)))
      | inr e ↦ rw e (writes_scaled_size p s (omega (arith, h.1)) (omega (arith, h.2)))
    ]

writes_type : (kind : ColumnType) → IsType kind → Writes is_behind type_text (type_words kind) (type_tree kind)
unfolding type_text digits
writes_type (Number p s) h =
    subst (λ (text : List ℕ). Writes is_behind type_text (codes "NUMBER(" ++ text) (type_tree (Number p s))) (append_assoc (decimal p) (scale_words s) (codes ")"))
    (writes_right (writes_left (writes_meaning (writes_apart (writes_word words.Number) refl (writes_left (writes_meaning (writes_in_parentheses (writes_type_size p s h))))))))
writes_type (Varchar2 n) h = writes_right (writes_right (writes_meaning (writes_apart (writes_word words.Varchar2) refl (writes_in_parentheses (writes_whole n (omega (arith, h.1)))))))

writes_marks : (is_key reservable : Bool) → Writes is_behind (many mark (λ ms. ms)) (marks_words is_key reservable) (marks_tree is_key reservable)
unfolding mark marks_words
writes_marks true reservable = one_more (writes_left (writes_meaning (writes_blank (writes_apart (writes_word words.Primary) refl (writes_blank (writes_word words.Key)))))) refl none_more
writes_marks false true = one_more (writes_right (writes_left (writes_meaning (writes_blank (writes_word words.Reservable))))) refl none_more
writes_marks false false = none_more

-- marks may follow a type
marks_behind : (is_key reservable : Bool) → is_behind (marks_words is_key reservable) ≡ true
unfolding marks_words
marks_behind true reservable = refl
marks_behind false true = refl
marks_behind false false = refl

writes_column : (is_key : Bool) (c : Column) → is_written_name c.name ≡ true → HasType c → Writes is_behind item (column_words is_key c) (items.Column (column_tree is_key c))
unfolding item column
writes_column is_key c written typed =
    writes_left (writes_meaning (writes_apart (writes_apart (writes_own_name c.name written) refl (writes_blank (writes_type c.kind typed)))
    (marks_behind is_key c.reservable) (writes_marks is_key c.reservable)))

pub writes_columns : (columns : List Column) (place key : ℕ) → list_all is_written_name (names_of columns) ≡ true → AllByRecursion HasType columns
    → WriteEach item (columns_words columns place key) (columns_tree columns place key)
writes_columns [] place key written typed = tt
writes_columns (c ∷ columns) place key written typed =
    let parts = and_parts (is_written_name c.name) (list_all is_written_name (names_of columns)) written in
    (writes_column (place == key) c parts.0 typed.0, writes_columns columns (place + 1) key parts.1 typed.1)

-- ---- the checks

-- a name begins with a letter, not with a minus
name_plain : (n rest : List ℕ) → is_written_name n ≡ true → no_minus (n ++ rest) ≡ true
unfolding is_written_name
name_plain [] rest h = absurd (cc)
name_plain (c ∷ cs) rest h =
    let parts = and_parts (spells_name (c ∷ cs) && nat_le (length (c ∷ cs)) MAX_WRITTEN) (is_none (reserved (c ∷ cs))) h in
    let front = and_parts (spells_name (c ∷ cs)) (nat_le (length (c ∷ cs)) MAX_WRITTEN) parts.0 in
    let first = and_parts (is_ascii_uppercase c) (list_all is_name_byte cs) front.0 in
    grind (arith, nat_tests)

-- so does a column with its factor
column_plain : (m : ℕ) (n rest : List ℕ) → is_written_name n ≡ true → 0 < m → m ≤ 1000000 → no_minus (times_words m n ++ rest) ≡ true
column_plain m n rest written some small =
    elim (cases_Bool (m == 1)) [
      | inl e ↦ rw e (name_plain n rest written)
      | inr e ↦ rw (e, append_assoc (decimal m) (codes " * " ++ n) rest) (digits_plain m ((codes " * " ++ n) ++ rest) some (omega arith))
    ]

writes_column_times : (m : ℕ) (n : List ℕ) → is_written_name n ≡ true → m ≤ 1000000 → Writes is_behind term (times_words m n) (terms.Column (pos m) n)
writes_column_times m n written small =
    let name = writes_own_name n written in
    elim (cases_Bool (m == 1)) [
      | inl e ↦ subst (λ (k : ℕ). Writes is_behind term (times_words k n) (terms.Column (pos k) n)) (sym (eqb-true m 1 e)) (writes_once name)
      | inr e ↦ rw e (writes_times m (omega arith) name)
    ]

writes_first_term : (c : ℤ) (n : List ℕ) → is_written_name n ≡ true → IsSmall c → Writes is_behind first_term (sign_words true c ++ times_words (unsigned_abs c) n) (terms.Column c n)
writes_first_term (pos m) n written small = writes_unsigned (writes_column_times m n written small)
writes_first_term (negsuc m) n written small = writes_negated (λ rest. column_plain (suc m) n rest written (omega arith) small) (writes_column_times (suc m) n written small)

writes_later_term : (c : ℤ) (n : List ℕ) → is_written_name n ≡ true → IsSmall c → Writes is_behind signed_term (sign_words false c ++ times_words (unsigned_abs c) n) (terms.Column c n)
writes_later_term (pos m) n written small = writes_plus (writes_column_times m n written small)
writes_later_term (negsuc m) n written small = writes_minus (writes_column_times (suc m) n written small)

-- further terms may follow a term
later_behind : (names : List (List ℕ)) (coeffs : List ℤ) → is_behind (form_words false names coeffs) ≡ true
later_behind [] coeffs = refl
later_behind (n ∷ names) [] = refl
later_behind (n ∷ names) (pos m ∷ coeffs) = elim (cases_Bool (int_eq (pos m) (pos 0))) [ inl e ↦ rw e (later_behind names coeffs) | inr e ↦ rw e refl ]
later_behind (n ∷ names) (negsuc m ∷ coeffs) = refl

writes_later : (names : List (List ℕ)) (coeffs : List ℤ) → list_all is_written_name names ≡ true → AllByRecursion IsSmall coeffs
    → Writes is_behind (many signed_term (λ ts. ts)) (form_words false names coeffs) (terms_tree names coeffs)
writes_later [] coeffs written small = none_more
writes_later (n ∷ names) [] written small = none_more
writes_later (n ∷ names) (c ∷ coeffs) written small =
    let parts = and_parts (is_written_name n) (list_all is_written_name names) written in
    let rest = writes_later names coeffs parts.1 small.1 in
    elim (cases_Bool (int_eq c (pos 0))) [
      | inl e ↦ rw e rest
      | inr e ↦ rw e (one_more (writes_later_term c n parts.0 small.0) (later_behind names coeffs) rest)
    ]

writes_form : (names : List (List ℕ)) (coeffs : List ℤ) → list_all is_written_name names ≡ true → AllByRecursion IsSmall coeffs
    → length coeffs ≡ length names → list_any (λ c. not (int_eq c (pos 0))) coeffs ≡ true → Writes is_behind sum (form_words true names coeffs) (terms_tree names coeffs)
writes_form names [] written small whole some = absurd (false≢true some)
writes_form [] (c ∷ coeffs) written small whole some = absurd (omega arith)
writes_form (n ∷ names) (c ∷ coeffs) written small whole some =
    let parts = and_parts (is_written_name n) (list_all is_written_name names) written in
    elim (cases_Bool (int_eq c (pos 0))) [
      | inl e ↦ rw e (writes_form names coeffs parts.1 small.1 (omega arith) (rw e at some))
      | inr e ↦ rw e (writes_sum (writes_first_term c n parts.0 small.0) (later_behind names coeffs) (writes_later names coeffs parts.1 small.1))
    ]

writes_test : (scale : ℕ) (lo hi : Option ℤ) → IsScale scale → (is_some lo || is_some hi) ≡ true → AreAmounts lo hi → Writes is_behind test_part (limit_words scale lo hi) (test_tree scale lo hi)
writes_test scale (Some lo) (Some hi) scaled limited amounts =
    elim (cases_Bool (int_eq lo hi)) [
      | inl e ↦ rw e (writes_blank (writes_compare comparisons.Equal scale lo scaled amounts.0))
      | inr e ↦ rw e (writes_blank (writes_between scale lo hi scaled amounts.0 amounts.1))
    ]
writes_test scale (Some lo) None scaled limited amounts = writes_blank (writes_compare comparisons.AtLeast scale lo scaled amounts.0)
writes_test scale None (Some hi) scaled limited amounts = writes_blank (writes_compare comparisons.AtMost scale hi scaled amounts.1)
writes_test scale None None scaled limited amounts = absurd (false≢true limited)

-- limits may follow a form
limits_behind : (scale : ℕ) (lo hi : Option ℤ) → is_behind (limit_words scale lo hi) ≡ true
limits_behind scale (Some lo) (Some hi) = elim (cases_Bool (int_eq lo hi)) [ inl e ↦ rw e refl | inr e ↦ rw e refl ]
limits_behind scale (Some lo) None = refl
limits_behind scale None (Some hi) = refl
limits_behind scale None None = refl

writes_condition : (names : List (List ℕ)) (scales : List ℕ) (c : Check) → list_all is_written_name names ≡ true → All IsScale scales → IsDeclared names scales c
    → Writes is_behind condition (condition_words names scales c) (condition_tree names scales c)
unfolding condition
writes_condition names scales c written scaled h =
    writes_apart (writes_form names (written_of c scales) written (small_each names scales c h) (written_covers names scales c h) (some_coefficient names scales c h)) (limits_behind c.scale c.span.lo c.span.hi)
    (writes_test c.scale c.span.lo c.span.hi (scale_is names scales c scaled h) h.limited (amounts_of names scales c h))

writes_check : (names : List (List ℕ)) (scales : List ℕ) (c : Check) → list_all is_written_name names ≡ true → All IsScale scales → IsDeclared names scales c
    → Writes is_behind item (check_words names scales c) (check_item names scales c)
unfolding item check constraint check_words
writes_check names scales c written scaled h =
    writes_right (writes_left (writes_meaning (writes_apart
    (writes_left (writes_meaning (writes_apart (writes_word words.Constraint) refl (writes_blank (writes_own_name c.name h.written))))) refl
    (writes_blank (writes_apart (writes_word words.Check) refl (writes_blank (writes_in_parentheses (writes_first (writes_condition names scales c written scaled h) none_more))))))))

pub writes_checks : (names : List (List ℕ)) (scales : List ℕ) (checks : List Check) → list_all is_written_name names ≡ true → All IsScale scales → AllByRecursion (IsDeclared names scales) checks
    → WriteEach item (map (check_words names scales) checks) (map (check_item names scales) checks)
writes_checks names scales [] written scaled all = tt
writes_checks names scales (c ∷ checks) written scaled all = (writes_check names scales c written scaled all.0, writes_checks names scales checks written scaled all.1)

pub writes_table : (n : List ℕ) (texts : List (List ℕ)) (is : List Item) → is_written_name n ≡ true → 1 ≤ length is → WriteEach item texts is
    → Writes is_behind request (table_words n texts) (requests.Statement (statements.Create (record { table = n; items = is })))
unfolding request body table_statement create table_words
writes_table n texts is written some each =
    writes_first (writes_left (writes_meaning (writes_left (writes_meaning (writes_apart (writes_word words.Create) refl (writes_blank (writes_apart (writes_word words.Table) refl
    (writes_blank (writes_apart (writes_own_name n written) refl (writes_blank (writes_in_parentheses (writes_listed item texts is some each)))))))))))) (writes_right writes_nothing)
