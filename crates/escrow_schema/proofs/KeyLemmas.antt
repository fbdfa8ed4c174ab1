-- The names that a CREATE TABLE writes as key.
use Rattle.std.proofs.Common.{◌≡◌, ℕ, ◌+◌, ◌<◌, true, false, Option, Some, None, List, [], ◌∷◌, ◌++◌, length, drop, get_or, map, filter, sym, subst, ap, ◌∙◌, refl, arith, length-append}
use Rattle.std.specs.Prelude.{count_by, is_some, option_to_list}
use Rattle.std.proofs.lemmas.Bool.{false≢true}
use Rattle.std.proofs.lemmas.List.{length-map}
use Rattle.std.proofs.lemmas.List.Concat.{flat_map-cons}
use Rattle.std.proofs.lemmas.List.Sums.{length-filter}
use Rattle.escrow_statement.specs.declared.statement.ColumnMark.{ColumnMark}
use Rattle.escrow_statement.specs.declared.statement.Item.{Item}
use Rattle.escrow_schema.specs.Definition.{is_key_mark, key_names, keys_of, only_one}
use Rattle.escrow_schema.proofs.ListLemmas.{drop_item}

-- a single name is the only one
only_key : (names : List (List ℕ)) → length names ≡ 1 → option_to_list (only_one names) ≡ names
only_key [] e = absurd (omega arith)
only_key (name ∷ []) e = refl
only_key (name ∷ other ∷ names) e = absurd (omega arith)

nothing : (names : List (List ℕ)) → length names ≡ 0 → names ≡ []
nothing [] e = refl
nothing (name ∷ names) e = absurd (omega arith)

-- the names that the items from an index on write as key
keys_from : (items : List Item) (i : ℕ) (item : Item) → i < length items → item ≡ get_or items i item
    → key_names (drop i items) ≡ keys_of item ++ key_names (drop (i + 1) items)
keys_from items i item within at = ap key_names (drop_item items i item within at) ∙ flat_map-cons keys_of item (drop (i + 1) items)

-- an item that writes no key
pub no_key : (items : List Item) (i : ℕ) (item : Item) (before : List (List ℕ)) → i < length items → item ≡ get_or items i item
    → length (keys_of item) ≡ 0 → before ++ key_names (drop i items) ≡ key_names items → before ++ key_names (drop (i + 1) items) ≡ key_names items
no_key items i item before within at none h =
    subst (λ (keys : List (List ℕ)). before ++ (keys ++ key_names (drop (i + 1) items)) ≡ key_names items) (nothing (keys_of item) none)
    (subst (λ (keys : List (List ℕ)). before ++ keys ≡ key_names items) (keys_from items i item within at) h)

-- an item that writes the first key
pub first_key : (items : List Item) (i : ℕ) (item : Item) (known : Option (List ℕ)) → i < length items → item ≡ get_or items i item
    → length (keys_of item) ≡ 1 → is_some known ≡ false → option_to_list known ++ key_names (drop i items) ≡ key_names items
    → option_to_list (only_one (keys_of item)) ++ key_names (drop (i + 1) items) ≡ key_names items
first_key items i item (Some known) within at one none h = absurd (false≢true (sym none))
first_key items i item None within at one none h =
    subst (λ (keys : List (List ℕ)). keys ++ key_names (drop (i + 1) items) ≡ key_names items) (sym (only_key (keys_of item) one)) (sym (keys_from items i item within at) ∙ h)

-- two or more names are not a single one
not_one : (names : List (List ℕ)) → 1 < length names → None ≡ only_one names
not_one [] many = absurd (omega arith)
not_one (name ∷ []) many = absurd (omega arith)
not_one (name ∷ other ∷ names) many = refl

-- an item that writes two keys, or a second one
pub more_keys : (items : List Item) (i : ℕ) (item : Item) (before : List (List ℕ)) → i < length items → item ≡ get_or items i item
    → 1 < length before + length (keys_of item) → before ++ key_names (drop i items) ≡ key_names items → None ≡ only_one (key_names items)
more_keys items i item before within at many h =
    let rest = key_names (drop (i + 1) items) in
    let whole : before ++ (keys_of item ++ rest) ≡ key_names items = subst (λ (keys : List (List ℕ)). before ++ keys ≡ key_names items) (keys_from items i item within at) h in
    not_one (key_names items) (subst (λ (names : List (List ℕ)). 1 < length names) whole
    (omega (arith, length-append before (keys_of item ++ rest), length-append (keys_of item) rest)))

-- an option with a value has one
pub one_known : (known : Option (List ℕ)) → is_some known ≡ true → length (option_to_list known) ≡ 1
one_known None h = absurd (false≢true h)
one_known (Some name) h = refl

-- a column is written as key once for each mark
pub length-keys_of : (name : List ℕ) (marks : List ColumnMark) → count_by is_key_mark marks ≡ length (map (λ mark. name) (filter is_key_mark marks))
length-keys_of name marks = sym (length-map (filter is_key_mark marks) (λ mark. name) ∙ length-filter is_key_mark marks)

-- a column marked once writes its name
pub key_of_column : (name : List ℕ) (marks : List ColumnMark) → length (map (λ mark. name) (filter is_key_mark marks)) ≡ 1
    → Some name ≡ only_one (map (λ mark. name) (filter is_key_mark marks))
key_of_column name marks e = go (filter is_key_mark marks) (sym (length-map (filter is_key_mark marks) (λ mark. name)) ∙ e)
  where
    go : (kept : List ColumnMark) → length kept ≡ 1 → Some name ≡ only_one (map (λ mark. name) kept)
    go [] e = absurd (omega arith)
    go (mark ∷ []) e = refl
    go (mark ∷ other ∷ kept) e = absurd (omega arith)
