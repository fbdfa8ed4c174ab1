-- The fields of a narrow entry.
use Rattle.std.proofs.Common.{◌≡◌, ℕ, ◌-◌, ℤ, int_cmp, true, false, ◌<◌, ◌≤◌, List, [], ◌∷◌, length, take, drop, get_or, arith}
use Rattle.std.proofs.lemmas.List.{take_rest}
use Rattle.std.proofs.lemmas.Bool.{le-ltb}
use Rattle.std.proofs.lemmas.Bool.Decides.{nat_tests}
use Rattle.sqlite_format.specs.Varint.{varint_len, varint_value}
use Rattle.sqlite_format.proofs.VarintLemmas.{varint_len_pos}
use Rattle.sqlite_value.specs.declared.value.Value.TheVariants.{Int}
use Rattle.sqlite_value.specs.declared.keys.Collation.{Collation}
use Rattle.sqlite_value.specs.declared.keys.Collation.TheVariants.{Binary, NoCase, RTrim}
use Rattle.sqlite_value.specs.declared.keys.Key.{Key}
use Rattle.sqlite_value.specs.Keys.{collated, by_key}
use Rattle.sqlite_value.proofs.OrderLemmas.{value_cmp-Int}
use Rattle.sqlite_record.specs.Serial.{serial_size, serial_value}
use Rattle.sqlite_record.specs.Record.{decode, values_of}
use Rattle.sqlite_record.proofs.RecordLemmas.{values_of-step, values_of-end}

-- a byte below 128 is a whole varint
narrow_len : (bytes : List ℕ) → 1 ≤ length bytes → get_or bytes 0 0 < 128 → varint_len bytes ≡ 1
unfolding varint_len
narrow_len [] some narrow = absurd (omega arith)
narrow_len (byte ∷ bytes) some narrow = grind (arith, nat_tests)

narrow_value : (bytes : List ℕ) → 1 ≤ length bytes → get_or bytes 0 0 < 128 → varint_value bytes ≡ get_or bytes 0 0
unfolding varint_value
narrow_value [] some narrow = absurd (omega arith)
narrow_value (byte ∷ bytes) some narrow = grind (arith, nat_tests)

-- the fields of an entry whose header length takes one byte
pub narrow_fields : (entry : List ℕ) → 1 ≤ length entry → get_or entry 0 0 < 128
    → decode entry ≡ values_of (drop 1 (take (get_or entry 0 0) entry)) (drop (get_or entry 0 0) entry)
unfolding decode
narrow_fields entry some narrow =
    rw (narrow_len entry some narrow, narrow_value entry some narrow, le-ltb (length entry) 1 some)

-- the first field, if its type takes one byte, and the later fields
pub narrow_first : (types body : List ℕ) → 1 ≤ length types → get_or types 0 0 < 128
    → values_of types body ≡ serial_value (get_or types 0 0) (take (serial_size (get_or types 0 0)) body) ∷ values_of (take (length types - 1) (drop 1 types)) (drop (serial_size (get_or types 0 0)) body)
narrow_first types body some narrow =
    let len = narrow_len types some narrow in
    let value = narrow_value types some narrow in
    rw (take_rest types 1, ← value, ← len) (values_of-step types body (omega arith))

-- without types there are no fields
pub no_fields : (types body : List ℕ) → length types ≡ 0 → values_of types body ≡ []
no_fields types body none = values_of-end types body (omega (arith, varint_len_pos types))

-- all collations order integers alike
collated_ints : (collation : Collation) (a b : ℤ) → collated collation (Int a) (Int b) ≡ int_cmp a b
collated_ints Binary a b = value_cmp-Int a b
collated_ints NoCase a b = value_cmp-Int a b
collated_ints RTrim a b = value_cmp-Int a b

pub ints_descending : (key : Key) (a b : ℤ) → key.descending ≡ true → by_key key (Int a) (Int b) ≡ int_cmp b a
ints_descending key a b down = rw down (collated_ints key.collation b a)

pub ints_ascending : (key : Key) (a b : ℤ) → key.descending ≡ false → by_key key (Int a) (Int b) ≡ int_cmp a b
ints_ascending key a b up = rw up (collated_ints key.collation a b)
