-- The canonical text of a table is short enough for `lex`.
use Rattle.std.proofs.Common.{◌≡◌, ℕ, zero, suc, ℤ, pos, negsuc, ◌+◌, ◌-◌, ◌*◌, ◌/◌, ◌^◌, ◌<◌, ◌≤◌, Bool, true, false, Option, Some, None, List, [], ◌∷◌, ◌++◌, length, map, refl, subst, arith, length-append, lit<, lit≤, inl, inr}
use Rattle.std.specs.Prelude.{◌==◌, All, codes, decimal, flat_map, unsigned_abs}
use Rattle.std.specs.List.{AllByRecursion, list_all}
use Rattle.std.specs.Ordering.{int_eq}
use Rattle.std.proofs.Math.Nat.{pow-succ'}
use Rattle.std.proofs.lemmas.Bool.{and_parts, cases_Bool}
use Rattle.std.proofs.lemmas.Fmt.{length-decimal-le}
use Rattle.std.proofs.lemmas.Int.{ints}
use Rattle.escrow_num.specs.Amount.{IsAmount}
use Rattle.escrow_num.specs.Scale.{IsScale}
use Rattle.escrow_num.specs.Scaled.{before_last, last_digits, magnitude_text, pointed, scaled_text}
use Rattle.escrow_num.proofs.ReadBack.{last-length}
use Rattle.escrow_num.proofs.ScaledLemmas.{before-small}
use Rattle.escrow_statement.specs.Joined.{joined}
use Rattle.escrow_checks.specs.declared.check.Check.{Check}
use Rattle.escrow_checks.specs.DeclaredCheck.{IsDeclared, written_of}
use Rattle.escrow_checks.specs.WrittenName.{is_written_name}
use Rattle.escrow_schema.specs.declared.column.Column.{Column}
use Rattle.escrow_schema.specs.declared.column.ColumnType.{ColumnType}
use Rattle.escrow_schema.specs.declared.column.ColumnType.TheVariants.{Number, Varchar2}
use Rattle.escrow_schema.specs.Column.{names_of}
use Rattle.escrow_schema.specs.Print.{check_words, column_words, columns_words, form_words, limit_words, marks_words, scale_words, sign_words, table_words, times_words, type_words}
use Rattle.escrow_schema.specs.Typed.{IsType}
use Rattle.escrow_schema.proofs.ColumnsLemmas.{HasType}
use Rattle.escrow_schema.proofs.PrintChecks.{AreAmounts, IsSmall, amounts_of, scale_is, small_each}
use Rattle.escrow_schema.proofs.UnitLemmas.{short_from}

-- an item has at most 528 bytes
abbrev pub IsShort : List ℕ → Type 0
IsShort text = length text ≤ 528

marks_length : (is_key reservable : Bool) → length (marks_words is_key reservable) ≤ 12
unfolding marks_words
marks_length true reservable = lit≤ tt
marks_length false true = lit≤ tt
marks_length false false = lit≤ tt

scale_length : (s : ℕ) → IsScale s → length (scale_words s) ≤ 2
scale_length s h =
    let d = length-decimal-le 1 s (lit< tt) (omega arith) (omega arith) in
    elim (cases_Bool (s == 0)) [
      | inl e ↦ rw e (lit≤ tt)
      | inr e ↦ rw e (omega arith)
    ]

type_length : (kind : ColumnType) → IsType kind → length (type_words kind) ≤ 13
type_length (Number n s) h =
    let d = length-decimal-le 2 n (lit< tt) (omega (arith, h.1)) (omega (arith, h.1)) in
    omega (arith, scale_length s h.2, length-append (decimal n) (scale_words s ++ codes ")"), length-append (scale_words s) (codes ")"))
type_length (Varchar2 n) h = let d = length-decimal-le 3 n (lit< tt) (omega (arith, h.1)) (omega (arith, h.1)) in omega (arith, length-append (decimal n) (codes ")"))

column_length : (is_key : Bool) (column : Column) → is_written_name column.name ≡ true → HasType column → IsShort (column_words is_key column)
column_length is_key column written typed =
    let kind = type_words column.kind in
    omega (
      arith,
      short_from column.name written,
      type_length column.kind typed,
      marks_length is_key column.reservable,
      length-append (column.name ++ (codes " " ++ kind)) (marks_words is_key column.reservable),
      length-append column.name (codes " " ++ kind),
    )

pub columns_short : (columns : List Column) (place key : ℕ) → list_all is_written_name (names_of columns) ≡ true → AllByRecursion HasType columns → AllByRecursion IsShort (columns_words columns place key)
columns_short [] place key written typed = tt
columns_short (column ∷ columns) place key written typed =
    let parts = and_parts (is_written_name column.name) (list_all is_written_name (names_of columns)) written in
    (column_length (place == key) column parts.0 typed.0, columns_short columns (place + 1) key parts.1 typed.1)

pub length-columns_words : (columns : List Column) (place key : ℕ) → length (columns_words columns place key) ≡ length columns
length-columns_words [] place key = refl
length-columns_words (column ∷ columns) place key = let rest = length-columns_words columns (place + 1) key in omega arith

-- the digits before the point, of a number with this many digits in all
before_below : (k digits n : ℕ) → n < 10 ^ (k + digits) → before_last digits n < 10 ^ k
before_below k zero n below = let e : k + 0 ≡ k = omega arith in rw e at below
before_below k (suc d) n below =
    let e : k + suc d ≡ suc (k + d) = omega arith in
    let h = rw (e, pow-succ' 10 (k + d)) at below in
    before_below k d (n / 10) (omega (arith, h))

whole_length : (scale n : ℕ) → IsScale scale → n ≤ 999999999999999 → length (decimal (before_last scale n)) ≤ 15 - scale
whole_length scale n scaled small =
    let e : 15 ≡ (15 - scale) + scale = omega arith in
    let within : n < 10 ^ 15 = omega arith in
    let below = subst (λ (k : ℕ). n < 10 ^ k) e within in
    length-decimal-le (15 - scale) (before_last scale n) (omega arith) (before_below (15 - scale) scale n below) (omega (arith, before-small scale n))

pointed_length : (ds : List ℕ) → length (pointed ds) ≤ length ds + 1
pointed_length [] = lit≤ tt
pointed_length (d ∷ ds) = omega arith

magnitude_length : (scale n : ℕ) → IsScale scale → n ≤ 999999999999999 → length (magnitude_text scale n) ≤ 16
magnitude_length scale n scaled small =
    omega (
      arith,
      whole_length scale n scaled small,
      last-length scale n,
      pointed_length (last_digits scale n),
      length-append (decimal (before_last scale n)) (pointed (last_digits scale n)),
    )

-- an amount of units has at most 15 digits, a point and a sign
amount_length : (scale : ℕ) (z : ℤ) → IsScale scale → IsAmount z → length (scaled_text scale z) ≤ 17
unfolding scaled_text
amount_length scale (pos n) scaled h = omega (arith, magnitude_length scale n scaled (omega (arith, ints, h.1)))
amount_length scale (negsuc n) scaled h = omega (arith, magnitude_length scale (suc n) scaled (omega (arith, ints, h.0)))

limit_length : (scale : ℕ) (lo hi : Option ℤ) → IsScale scale → AreAmounts lo hi → length (limit_words scale lo hi) ≤ 48
limit_length scale (Some lo) (Some hi) scaled amounts =
    let m = amount_length scale lo scaled amounts.0 in
    let n = amount_length scale hi scaled amounts.1 in
    elim (cases_Bool (int_eq lo hi)) [
      | inl e ↦ rw e (omega arith)
      | inr e ↦ rw e (omega (arith, length-append (scaled_text scale lo) (codes " AND " ++ scaled_text scale hi)))
    ]
limit_length scale (Some lo) None scaled amounts = let n = amount_length scale lo scaled amounts.0 in omega arith
limit_length scale None (Some hi) scaled amounts = let n = amount_length scale hi scaled amounts.1 in omega arith
limit_length scale None None scaled amounts = lit≤ tt

sign_length : (is_first : Bool) (c : ℤ) → length (sign_words is_first c) ≤ 3
sign_length true (pos n) = lit≤ tt
sign_length true (negsuc n) = lit≤ tt
sign_length false (pos n) = lit≤ tt
sign_length false (negsuc n) = lit≤ tt

times_length : (m : ℕ) (name : List ℕ) → is_written_name name ≡ true → m ≤ 1000000 → length (times_words m name) ≤ 40
times_length m name written small =
    let n = short_from name written in
    let d = length-decimal-le 7 m (lit< tt) (omega arith) (omega arith) in
    elim (cases_Bool (m == 1)) [
      | inl e ↦ rw e (omega arith)
      | inr e ↦ rw e (omega (arith, length-append (decimal m) (codes " * " ++ name)))
    ]

-- a form has at most 43 bytes for each column
form_length : (is_first : Bool) (names : List (List ℕ)) (coeffs : List ℤ) → list_all is_written_name names ≡ true → AllByRecursion IsSmall coeffs → length (form_words is_first names coeffs) ≤ 43 * length names
form_length is_first [] coeffs written small = lit≤ tt
form_length is_first (name ∷ names) [] written small = omega arith
form_length is_first (name ∷ names) (c ∷ coeffs) written small =
    let parts = and_parts (is_written_name name) (list_all is_written_name names) written in
    let skipped = form_length is_first names coeffs parts.1 small.1 in
    let rest = form_length false names coeffs parts.1 small.1 in
    let sign = sign_words is_first c in
    let times = times_words (unsigned_abs c) name in
    let signed = sign_length is_first c in
    let short = times_length (unsigned_abs c) name parts.0 small.0 in
    elim (cases_Bool (int_eq c (pos 0))) [
      | inl e ↦ rw e (omega arith)
      | inr e ↦ rw e (omega (arith, length-append (sign ++ times) (form_words false names coeffs), length-append sign times))
    ]

check_length : (names : List (List ℕ)) (scales : List ℕ) (check : Check) → list_all is_written_name names ≡ true → length names ≤ 10 → All IsScale scales → IsDeclared names scales check
    → IsShort (check_words names scales check)
unfolding check_words
check_length names scales check written few scaled h =
    let form = form_words true names (written_of check scales) in
    let limits = limit_words check.scale check.span.lo check.span.hi in
    let behind = codes " CHECK (" ++ ((form ++ limits) ++ codes ")") in
    omega (
      arith,
      short_from check.name h.written,
      form_length true names (written_of check scales) written (small_each names scales check h),
      limit_length check.scale check.span.lo check.span.hi (scale_is names scales check scaled h) (amounts_of names scales check h),
      length-append (codes "CONSTRAINT " ++ check.name) behind,
      length-append (form ++ limits) (codes ")"),
      length-append form limits,
    )

pub checks_short : (names : List (List ℕ)) (scales : List ℕ) (checks : List Check) → list_all is_written_name names ≡ true → length names ≤ 10 → All IsScale scales
    → AllByRecursion (IsDeclared names scales) checks → AllByRecursion IsShort (map (check_words names scales) checks)
checks_short names scales [] written few scaled all = tt
checks_short names scales (check ∷ checks) written few scaled all = (check_length names scales check written few scaled all.0, checks_short names scales checks written few scaled all.1)

others_length : (texts : List (List ℕ)) → AllByRecursion IsShort texts → length (flat_map (λ text. codes ", " ++ text) texts) ≤ 530 * length texts
others_length [] all = lit≤ tt
others_length (text ∷ texts) all =
    let rest = others_length texts all.1 in
    let first = all.0 in
    omega (arith, length-append (codes ", " ++ text) (flat_map (λ t. codes ", " ++ t) texts))

joined_length : (texts : List (List ℕ)) → AllByRecursion IsShort texts → length (joined texts) ≤ 530 * length texts
joined_length [] all = lit≤ tt
joined_length (text ∷ texts) all =
    let rest = others_length texts all.1 in
    let first = all.0 in
    omega (arith, length-append text (flat_map (λ t. codes ", " ++ t) texts))

pub table_length : (name : List ℕ) (texts : List (List ℕ)) → is_written_name name ≡ true → AllByRecursion IsShort texts → length texts ≤ 62 → length (table_words name texts) ≤ 65536
unfolding table_words
table_length name texts written all few =
    let items = joined texts in
    omega (arith, short_from name written, joined_length texts all, length-append name (codes " (" ++ (items ++ codes ")")), length-append items (codes ")"))
