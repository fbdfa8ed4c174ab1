-- The canonical text of a table is a text in UTF-8.
use Rattle.std.proofs.Common.{◌≡◌, ℕ, ℤ, pos, negsuc, ◌+◌, ◌≤◌, Bool, true, false, Option, Some, None, List, [], ◌∷◌, ◌++◌, length, map, refl, arith, inl, inr}
use Rattle.std.specs.Prelude.{◌==◌, ◌&&◌, ◌^◌, ◌<◌, codes, decimal, flat_map, nat_le, nat_lt, unsigned_abs}
use Rattle.std.specs.List.{AllByRecursion, list_all}
use Rattle.std.specs.Option.{is_none}
use Rattle.std.specs.Ordering.{int_eq}
use Rattle.std.specs.Str.{IsAscii, IsUtf8}
use Rattle.std.proofs.lemmas.Bool.{and_parts, cases_Bool, ltb-true}
use Rattle.std.proofs.lemmas.Fmt.{IsAscii-decimal}
use Rattle.std.proofs.lemmas.Int.{ints}
use Rattle.std.proofs.lemmas.Str.{IsUtf8-append, IsUtf8-from_ascii}
use Rattle.std.proofs.lemmas.Str.Ascii.{IsAscii-cons, IsAscii-nil}
use Rattle.escrow_num.specs.Amount.{IsAmount}
use Rattle.escrow_num.specs.Name.{spells_name}
use Rattle.escrow_num.specs.declared.name.TheConstants.Name.{MAX_WRITTEN}
use Rattle.escrow_num.specs.Scale.{IsScale}
use Rattle.escrow_num.specs.Scaled.{scaled_text}
use Rattle.escrow_num.proofs.ScaledLemmas.{scaled-utf8}
use Rattle.escrow_num.proofs.Spelling.{name_is_text}
use Rattle.escrow_statement.specs.Joined.{joined}
use Rattle.escrow_statement.specs.Word.{reserved}
use Rattle.escrow_checks.specs.declared.check.Check.{Check}
use Rattle.escrow_checks.specs.DeclaredCheck.{IsDeclared, written_of}
use Rattle.escrow_checks.specs.WrittenName.{is_written_name}
use Rattle.escrow_schema.specs.declared.column.Column.{Column}
use Rattle.escrow_schema.specs.declared.column.ColumnType.{ColumnType}
use Rattle.escrow_schema.specs.declared.column.ColumnType.TheVariants.{Number, Varchar2}
use Rattle.escrow_schema.specs.declared.table.TableDef.{TableDef}
use Rattle.escrow_schema.specs.Column.{names_of, reservables, scales_of}
use Rattle.escrow_schema.specs.Definition.{IsTable}
use Rattle.escrow_schema.specs.Print.{canonical, check_words, column_words, columns_words, declared_checks, form_words, limit_words, marks_words, scale_words, sign_words, table_words, times_words, type_words}
use Rattle.escrow_schema.specs.Typed.{IsType}
use Rattle.escrow_schema.proofs.ColumnsLemmas.{HasType, reservables_written}
use Rattle.escrow_schema.proofs.ListLemmas.{both_parts}
use Rattle.escrow_schema.proofs.PrintBack.{sound_of}
use Rattle.escrow_schema.proofs.PrintChecks.{AreAmounts, IsSmall, amounts_of, small_each}

-- bytes below 128, which a literal text shows directly
abbrev is_plain : List ℕ → Bool
is_plain bytes = list_all (λ b. nat_lt b 128) bytes

plain_ascii : (bytes : List ℕ) → is_plain bytes ≡ true → IsAscii bytes
plain_ascii [] e = IsAscii-nil
plain_ascii (b ∷ bytes) e = let parts = and_parts (nat_lt b 128) (is_plain bytes) e in IsAscii-cons b bytes (ltb-true b 128 parts.0) (plain_ascii bytes parts.1)

plain : (bytes : List ℕ) → is_plain bytes ≡ true → IsUtf8 bytes
plain bytes e = IsUtf8-from_ascii bytes (plain_ascii bytes e)

pub name_text : (name : List ℕ) → is_written_name name ≡ true → IsUtf8 name
unfolding is_written_name
name_text name h = name_is_text name (and_parts (spells_name name) (nat_le (length name) MAX_WRITTEN) (and_parts (spells_name name && nat_le (length name) MAX_WRITTEN) (is_none (reserved name)) h).0).0

number_text : (n : ℕ) → n ≤ 1000000 → IsUtf8 (decimal n)
number_text n small = IsUtf8-from_ascii (decimal n) (IsAscii-decimal n (omega arith))

-- ---- the columns

marks_text : (is_key reservable : Bool) → IsUtf8 (marks_words is_key reservable)
unfolding marks_words
marks_text true reservable = plain (codes " PRIMARY KEY") refl
marks_text false true = plain (codes " RESERVABLE") refl
marks_text false false = plain [] refl

scale_text : (s : ℕ) → IsScale s → IsUtf8 (scale_words s)
scale_text s h =
    elim (cases_Bool (s == 0)) [
      | inl e ↦ rw e (plain [] refl)
      | inr e ↦ rw e (IsUtf8-append (codes ",") (decimal s) (plain (codes ",") refl) (number_text s (omega arith)))
    ]

type_text : (kind : ColumnType) → IsType kind → IsUtf8 (type_words kind)
type_text (Number n s) h =
    IsUtf8-append (codes "NUMBER(") (decimal n ++ (scale_words s ++ codes ")")) (plain (codes "NUMBER(") refl)
    (IsUtf8-append (decimal n) (scale_words s ++ codes ")") (number_text n (omega (arith, h.1))) (IsUtf8-append (scale_words s) (codes ")") (scale_text s h.2) (plain (codes ")") refl)))
type_text (Varchar2 n) h = IsUtf8-append (codes "VARCHAR2(") (decimal n ++ codes ")") (plain (codes "VARCHAR2(") refl) (IsUtf8-append (decimal n) (codes ")") (number_text n (omega (arith, h.1))) (plain (codes ")") refl))

column_text : (is_key : Bool) (column : Column) → is_written_name column.name ≡ true → HasType column → IsUtf8 (column_words is_key column)
column_text is_key column written typed =
    let kind = type_words column.kind in
    IsUtf8-append (column.name ++ (codes " " ++ kind)) (marks_words is_key column.reservable)
    (IsUtf8-append column.name (codes " " ++ kind) (name_text column.name written) (IsUtf8-append (codes " ") kind (plain (codes " ") refl) (type_text column.kind typed)))
    (marks_text is_key column.reservable)

columns_text : (columns : List Column) (place key : ℕ) → list_all is_written_name (names_of columns) ≡ true → AllByRecursion HasType columns → AllByRecursion IsUtf8 (columns_words columns place key)
columns_text [] place key written typed = tt
columns_text (column ∷ columns) place key written typed =
    let parts = and_parts (is_written_name column.name) (list_all is_written_name (names_of columns)) written in
    (column_text (place == key) column parts.0 typed.0, columns_text columns (place + 1) key parts.1 typed.1)

-- ---- the checks

amount_small : (z : ℤ) → IsAmount z → unsigned_abs z < 10 ^ 64
amount_small (pos n) h = omega (arith, ints, h.1)
amount_small (negsuc n) h = omega (arith, ints, h.0)

amount_text : (scale : ℕ) (z : ℤ) → IsAmount z → IsUtf8 (scaled_text scale z)
amount_text scale z h = scaled-utf8 scale z (amount_small z h)

limit_text : (scale : ℕ) (lo hi : Option ℤ) → AreAmounts lo hi → IsUtf8 (limit_words scale lo hi)
limit_text scale (Some lo) (Some hi) amounts =
    let least = scaled_text scale lo in
    let most = scaled_text scale hi in
    elim (cases_Bool (int_eq lo hi)) [
      | inl e ↦ rw e (IsUtf8-append (codes " = ") least (plain (codes " = ") refl) (amount_text scale lo amounts.0))
      | inr e ↦ rw e (IsUtf8-append (codes " BETWEEN ") (least ++ (codes " AND " ++ most)) (plain (codes " BETWEEN ") refl)
          (IsUtf8-append least (codes " AND " ++ most) (amount_text scale lo amounts.0) (IsUtf8-append (codes " AND ") most (plain (codes " AND ") refl) (amount_text scale hi amounts.1))))
    ]
limit_text scale (Some lo) None amounts = IsUtf8-append (codes " >= ") (scaled_text scale lo) (plain (codes " >= ") refl) (amount_text scale lo amounts.0)
limit_text scale None (Some hi) amounts = IsUtf8-append (codes " <= ") (scaled_text scale hi) (plain (codes " <= ") refl) (amount_text scale hi amounts.1)
limit_text scale None None amounts = plain [] refl

sign_text : (is_first : Bool) (c : ℤ) → IsUtf8 (sign_words is_first c)
sign_text true (pos n) = plain [] refl
sign_text true (negsuc n) = plain (codes "-") refl
sign_text false (pos n) = plain (codes " + ") refl
sign_text false (negsuc n) = plain (codes " - ") refl

times_text : (m : ℕ) (name : List ℕ) → is_written_name name ≡ true → m ≤ 1000000 → IsUtf8 (times_words m name)
times_text m name written small =
    let own = name_text name written in
    elim (cases_Bool (m == 1)) [
      | inl e ↦ rw e own
      | inr e ↦ rw e (IsUtf8-append (decimal m) (codes " * " ++ name) (number_text m small) (IsUtf8-append (codes " * ") name (plain (codes " * ") refl) own))
    ]

form_text : (is_first : Bool) (names : List (List ℕ)) (coeffs : List ℤ) → list_all is_written_name names ≡ true → AllByRecursion IsSmall coeffs → IsUtf8 (form_words is_first names coeffs)
form_text is_first [] coeffs written small = plain [] refl
form_text is_first (name ∷ names) [] written small = plain [] refl
form_text is_first (name ∷ names) (c ∷ coeffs) written small =
    let parts = and_parts (is_written_name name) (list_all is_written_name names) written in
    let skipped = form_text is_first names coeffs parts.1 small.1 in
    let sign = sign_words is_first c in
    let times = times_words (unsigned_abs c) name in
    elim (cases_Bool (int_eq c (pos 0))) [
      | inl e ↦ rw e skipped
      | inr e ↦ rw e (IsUtf8-append (sign ++ times) (form_words false names coeffs)
          (IsUtf8-append sign times (sign_text is_first c) (times_text (unsigned_abs c) name parts.0 small.0)) (form_text false names coeffs parts.1 small.1))
    ]

check_text : (names : List (List ℕ)) (scales : List ℕ) (check : Check) → list_all is_written_name names ≡ true → IsDeclared names scales check → IsUtf8 (check_words names scales check)
unfolding check_words
check_text names scales check written h =
    let form = form_words true names (written_of check scales) in
    let limits = limit_words check.scale check.span.lo check.span.hi in
    IsUtf8-append (codes "CONSTRAINT " ++ check.name) (codes " CHECK (" ++ ((form ++ limits) ++ codes ")"))
    (IsUtf8-append (codes "CONSTRAINT ") check.name (plain (codes "CONSTRAINT ") refl) (name_text check.name h.written))
    (IsUtf8-append (codes " CHECK (") ((form ++ limits) ++ codes ")") (plain (codes " CHECK (") refl)
    (IsUtf8-append (form ++ limits) (codes ")")
    (IsUtf8-append form limits (form_text true names (written_of check scales) written (small_each names scales check h)) (limit_text check.scale check.span.lo check.span.hi (amounts_of names scales check h)))
    (plain (codes ")") refl)))

checks_text : (names : List (List ℕ)) (scales : List ℕ) (checks : List Check) → list_all is_written_name names ≡ true → AllByRecursion (IsDeclared names scales) checks
    → AllByRecursion IsUtf8 (map (check_words names scales) checks)
checks_text names scales [] written all = tt
checks_text names scales (check ∷ checks) written all = (check_text names scales check written all.0, checks_text names scales checks written all.1)

-- ---- the whole text

others_text : (texts : List (List ℕ)) → AllByRecursion IsUtf8 texts → IsUtf8 (flat_map (λ text. codes ", " ++ text) texts)
others_text [] all = plain [] refl
others_text (text ∷ texts) all =
    IsUtf8-append (codes ", " ++ text) (flat_map (λ t. codes ", " ++ t) texts) (IsUtf8-append (codes ", ") text (plain (codes ", ") refl) all.0) (others_text texts all.1)

joined_text : (texts : List (List ℕ)) → AllByRecursion IsUtf8 texts → IsUtf8 (joined texts)
joined_text [] all = plain [] refl
joined_text (text ∷ texts) all = IsUtf8-append text (flat_map (λ t. codes ", " ++ t) texts) all.0 (others_text texts all.1)

table_text : (name : List ℕ) (texts : List (List ℕ)) → is_written_name name ≡ true → AllByRecursion IsUtf8 texts → IsUtf8 (table_words name texts)
unfolding table_words
table_text name texts written all =
    let items = joined texts in
    IsUtf8-append (codes "CREATE TABLE ") (name ++ (codes " (" ++ (items ++ codes ")"))) (plain (codes "CREATE TABLE ") refl)
    (IsUtf8-append name (codes " (" ++ (items ++ codes ")")) (name_text name written)
    (IsUtf8-append (codes " (") (items ++ codes ")") (plain (codes " (") refl) (IsUtf8-append items (codes ")") (joined_text texts all) (plain (codes ")") refl))))

pub canonical_text : (table : TableDef) → IsTable table → IsUtf8 (canonical table)
canonical_text table is =
    let s = sound_of table is in
    let names = names_of (reservables table.columns) in
    let scales = scales_of (reservables table.columns) in
    let columns = columns_words table.columns 0 table.key in
    let checks = map (check_words names scales) (declared_checks table) in
    table_text table.name (columns ++ checks) s.name
    (both_parts IsUtf8 columns checks (columns_text table.columns 0 table.key s.columns.names s.columns.types)
    (checks_text names scales (declared_checks table) (reservables_written table.columns s.columns.names) s.declared))
