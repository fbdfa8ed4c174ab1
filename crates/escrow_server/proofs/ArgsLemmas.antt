-- Lemmas for reading arguments: what values ask for, read one after another, and the exit status
-- of an error.
use Rattle.std.proofs.Common.{◌≡◌, ◌⊎◌, ◌<◌, ◌≤◌, ◌^◌, ◌&&◌, arith, Bool, true, false, inl, inr, ℕ, Some, None, Result, Ok, Err, List, [], ◌∷◌, length, nat_lt, lt-ltb, ltb-true, refl, ap, ◌∙◌}
use Rattle.std.specs.Char.{digit_value}
use Rattle.std.specs.List.{list_all}
use Rattle.std.specs.Result.{result_unwrap_or}
use Rattle.std.specs.Str.Parse.{AllDigits, ParsesUnsigned, digits_value, without_leading_plus}
use Rattle.clap.specs.Walk.{Row, Text, first_of}
use Rattle.clap.proofs.WalkLemmas.{both}
use Rattle.clap.specs.Kinds.{IsAmong, Kinds}
use Rattle.clap.specs.declared.error.kind.ErrorKind.{ErrorKind}
use Rattle.clap.specs.declared.error.kind.ErrorKind.TheVariants as kind
use Rattle.std.specs.Prelude.{codes, nat_le}
use Rattle.std.proofs.lemmas.Bool.Decides.{nat_tests}
use Rattle.escrow_server.specs.declared.args.ArgFault.{ArgFault}
use Rattle.escrow_server.specs.declared.args.Mode.{Mode}
use Rattle.escrow_server.proofs.ArgsFaults.{IsOne}
use Rattle.escrow_script.specs.declared.limits.TheConstants.{MAX_DATABASES}
use Rattle.escrow_server.specs.Args.{status_at, allowed, databases_of, mode_of, no_memory, number_or_zero, sessions_of, status_of, values_ask}

-- values without a mode ask for nothing
pub no_mode : (rows : List Row) → mode_of (first_of (codes "mode") rows) ≡ None → values_ask rows ≡ None
no_mode rows none = rw none refl

-- values without a number ask for nothing
pub no_number : (rows : List Row) (mode : Mode) → mode_of (first_of (codes "mode") rows) ≡ Some mode
    → databases_of (first_of (codes "databases") rows) ≡ None → values_ask rows ≡ None
no_number rows mode found none = rw (found, none) refl

-- values without a number of sessions ask for nothing
pub no_sessions : (rows : List Row) (mode : Mode) (count : ℕ) → mode_of (first_of (codes "mode") rows) ≡ Some mode
    → databases_of (first_of (codes "databases") rows) ≡ Some count → sessions_of mode (first_of (codes "sessions") rows) ≡ None → values_ask rows ≡ None
no_sessions rows mode count found counted none = rw (found, counted, none) refl

-- values with all three ask for these
pub all_asked : (rows : List Row) (mode : Mode) (count sessions : ℕ) → mode_of (first_of (codes "mode") rows) ≡ Some mode
    → databases_of (first_of (codes "databases") rows) ≡ Some count → sessions_of mode (first_of (codes "sessions") rows) ≡ Some sessions
    → values_ask rows ≡ Some (record { mode = mode; path = first_of (codes "store") rows; databases = count; sessions = sessions })
all_asked rows mode count sessions found counted allowed = rw (found, counted, allowed) refl

-- a number that is read as a `u16`
digits_pass : (ds : List ℕ) → AllDigits 10 ds → list_all (λ d. nat_lt (digit_value d) 10) ds ≡ true
digits_pass [] h = refl
digits_pass (d ∷ ds) h = rw (lt-ltb (digit_value d) 10 h.0) (digits_pass ds h.1)

digits_from : (ds : List ℕ) → list_all (λ d. nat_lt (digit_value d) 10) ds ≡ true → AllDigits 10 ds
digits_from [] e = tt
digits_from (d ∷ ds) e =
    let parts = both _ _ e in
    (ltb-true _ _ parts.0, digits_from ds parts.1)

abbrev is_number : List ℕ → Bool
is_number ds = nat_lt 0 (length ds) && list_all (λ d. nat_lt (digit_value d) 10) ds && nat_lt (digits_value 10 ds) (2 ^ 16)

pub number_read : {E : Type 0} (text : Text) (r : Result ℕ E) → ParsesUnsigned 16 10 text r → result_unwrap_or r 0 ≡ number_or_zero text
number_read text (Ok n) h =
    let ds = without_leading_plus text in
    rw (lt-ltb 0 (length ds) h.0.0.0, digits_pass ds h.0.0.1, lt-ltb (digits_value 10 ds) (2 ^ 16) h.0.1) h.1
number_read text (Err e) h = go (is_number (without_leading_plus text)) refl
  where
    go : (b : Bool) → is_number (without_leading_plus text) ≡ b → 0 ≡ number_or_zero text
    go false t = rw t refl
    go true t =
        let outer = both _ _ t in
        let inner = both _ _ outer.0 in
        absurd (h ((ltb-true _ _ inner.0, digits_from (without_leading_plus text) inner.1), ltb-true _ _ outer.1))

-- a number within the bounds is allowed
pub within : (n : ℕ) → 1 ≤ n → n ≤ MAX_DATABASES → Some n ≡ allowed n
within n least most =
    let low : nat_le 1 n ≡ true = grind (arith, nat_tests) in
    let high : nat_le n MAX_DATABASES ≡ true = grind (arith, nat_tests) in
    rw (low, high) refl

-- a number outside the bounds is not allowed
pub below : (n : ℕ) → n < 1 → None ≡ allowed n
below n less =
    let low : nat_le 1 n ≡ false = grind (arith, nat_tests) in
    rw low refl

pub above : (n : ℕ) → 1 ≤ n → MAX_DATABASES < n → None ≡ allowed n
above n least more =
    let low : nat_le 1 n ≡ true = grind (arith, nat_tests) in
    let high : nat_le n MAX_DATABASES ≡ false = grind (arith, nat_tests) in
    rw (low, high) refl

-- the status of an error of this kind, or of memory
pub status_among : (kinds : Kinds) (k : ErrorKind) (fault : ArgFault) → IsOne kinds → (fault ≡ no_memory) ⊎ (fault.status ≡ status_of k)
    → (k ≡ kind.OutOfMemory) ⊎ IsAmong k kinds → (k ≡ kind.OutOfMemory → fault ≡ no_memory)
    → (fault ≡ no_memory) ⊎ (fault.status ≡ status_at kinds)
status_among kinds k fault one (inl memory) among is = inl memory
status_among kinds k fault one (inr same) (inl memory) is = inl (is memory)
status_among [] k fault one (inr same) (inr among) is = elim among [ ]
status_among (x ∷ []) k fault one (inr same) (inr (inl this)) is = inr (same ∙ ap status_of this)
status_among (x ∷ []) k fault one (inr same) (inr (inr none)) is = elim none [ ]
status_among (x ∷ y ∷ kinds) k fault one (inr same) (inr among) is = elim one [ ]

-- values that ask for nothing are refused as a mistake, or for memory
pub wrong_value : (rows : List Row) (fault : ArgFault) → values_ask rows ≡ None → (fault ≡ no_memory) ⊎ (fault.status ≡ 2)
    → (fault ≡ no_memory) ⊎ ((values_ask rows ≡ None) × (fault.status ≡ 2))
wrong_value rows fault none (inl memory) = inl memory
wrong_value rows fault none (inr two) = inr (none, two)
