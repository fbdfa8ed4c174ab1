-- Moves in two parts, and moves of one kind.
use Rattle.std.specs.Prelude.{◌≡◌, ℕ, ◌+◌, ℤ, ◌+ℤ◌, pos, neg_ℤ, Bool, true, false, cond, not, List, [], ◌∷◌, ◌++◌, length, map, filter}
use Rattle.std.proofs.Common.{refl, ap, ◌∙◌, arith}
use Rattle.std.proofs.lemmas.Int.{ints}
use Rattle.std.proofs.lemmas.List.{length-append}
use Rattle.std.proofs.lemmas.List.Elements.{filter-append}
use Rattle.std.proofs.lemmas.List.Filters.{length-filter_both}
use Rattle.escrow_num.specs.declared.reservation.Reservation.{Reservation}
use Rattle.escrow_num.specs.declared.row.Row.{Row}
use Rattle.escrow_num.specs.declared.value.RowName.{RowName}
use Rattle.escrow_machine.proofs.Filters.{filters_commute}
use Rattle.escrow_accounts.specs.Book.{Move, put, taken, granted, committed, released, worth, balance, granted_in, committed_in, released_in, number}

-- NUMBERS

pub number_append : (kind : Reservation → Bool) (xs ys : List Reservation) → number kind (xs ++ ys) ≡ number kind xs + number kind ys
number_append kind xs ys = ap (λ (zs : List Reservation). length zs) (filter-append kind xs ys) ∙ length-append (filter kind xs) (filter kind ys)

-- the reservations that pass a test, and the others
pub number_parts : (kind p : Reservation → Bool) (xs : List Reservation) → number kind (filter p xs) + number kind (filter (λ r. not (p r)) xs) ≡ number kind xs
number_parts kind p xs =
    let passed : number kind (filter p xs) ≡ length (filter p (filter kind xs)) = ap (λ (zs : List Reservation). length zs) (filters_commute kind p xs) in
    let failed : number kind (filter (λ (r : Reservation). not (p r)) xs) ≡ length (filter (λ (r : Reservation). not (p r)) (filter kind xs)) =
    ap (λ (zs : List Reservation). length zs) (filters_commute kind (λ (r : Reservation). not (p r)) xs) in
    let both : length (filter p (filter kind xs)) + length (filter (λ (r : Reservation). not (p r)) (filter kind xs)) ≡ length (filter kind xs) =
    length-filter_both p (λ (r : Reservation). not (p r)) (λ _. refl) (filter kind xs) in
    omega arith

-- TWO BOOKS

pub granted_append : (ms ns : List Move) → granted_in (ms ++ ns) ≡ granted_in ms ++ granted_in ns
granted_append [] ns = refl
granted_append (granted r ∷ ms) ns = ap (λ (rs : List Reservation). r ∷ rs) (granted_append ms ns)
granted_append (put row ∷ ms) ns = granted_append ms ns
granted_append (taken row ∷ ms) ns = granted_append ms ns
granted_append (committed r ∷ ms) ns = granted_append ms ns
granted_append (released r ∷ ms) ns = granted_append ms ns

pub committed_append : (ms ns : List Move) → committed_in (ms ++ ns) ≡ committed_in ms ++ committed_in ns
committed_append [] ns = refl
committed_append (committed r ∷ ms) ns = ap (λ (rs : List Reservation). r ∷ rs) (committed_append ms ns)
committed_append (put row ∷ ms) ns = committed_append ms ns
committed_append (taken row ∷ ms) ns = committed_append ms ns
committed_append (granted r ∷ ms) ns = committed_append ms ns
committed_append (released r ∷ ms) ns = committed_append ms ns

pub released_append : (ms ns : List Move) → released_in (ms ++ ns) ≡ released_in ms ++ released_in ns
released_append [] ns = refl
released_append (released r ∷ ms) ns = ap (λ (rs : List Reservation). r ∷ rs) (released_append ms ns)
released_append (put row ∷ ms) ns = released_append ms ns
released_append (taken row ∷ ms) ns = released_append ms ns
released_append (granted r ∷ ms) ns = released_append ms ns
released_append (committed r ∷ ms) ns = released_append ms ns

add_assoc : (a b c d : ℤ) → c ≡ b +ℤ d → a +ℤ c ≡ (a +ℤ b) +ℤ d
add_assoc a b c d e = omega (arith, ints)

pub balance_append : (chosen : RowName → Bool) (column : ℕ) (ms ns : List Move)
    → balance chosen column (ms ++ ns) ≡ balance chosen column ms +ℤ balance chosen column ns
balance_append chosen column [] ns = nothing (balance chosen column ns)
  where
    nothing : (a : ℤ) → a ≡ pos 0 +ℤ a
    nothing a = omega (arith, ints)
balance_append chosen column (m ∷ ms) ns =
    add_assoc (worth chosen column m) (balance chosen column ms) (balance chosen column (ms ++ ns)) (balance chosen column ns) (balance_append chosen column ms ns)

-- MOVES OF ONE KIND

pub granted_of_taken : (rows : List Row) → granted_in (map taken rows) ≡ []
granted_of_taken [] = refl
granted_of_taken (row ∷ rows) = granted_of_taken rows

pub committed_of_taken : (rows : List Row) → committed_in (map taken rows) ≡ []
committed_of_taken [] = refl
committed_of_taken (row ∷ rows) = committed_of_taken rows

pub released_of_taken : (rows : List Row) → released_in (map taken rows) ≡ []
released_of_taken [] = refl
released_of_taken (row ∷ rows) = released_of_taken rows

pub granted_of_committed : (rs : List Reservation) → granted_in (map committed rs) ≡ []
granted_of_committed [] = refl
granted_of_committed (r ∷ rs) = granted_of_committed rs

pub committed_of_committed : (rs : List Reservation) → committed_in (map committed rs) ≡ rs
committed_of_committed [] = refl
committed_of_committed (r ∷ rs) = ap (λ (qs : List Reservation). r ∷ qs) (committed_of_committed rs)

pub released_of_committed : (rs : List Reservation) → released_in (map committed rs) ≡ []
released_of_committed [] = refl
released_of_committed (r ∷ rs) = released_of_committed rs

pub granted_of_released : (rs : List Reservation) → granted_in (map released rs) ≡ []
granted_of_released [] = refl
granted_of_released (r ∷ rs) = granted_of_released rs

pub committed_of_released : (rs : List Reservation) → committed_in (map released rs) ≡ []
committed_of_released [] = refl
committed_of_released (r ∷ rs) = committed_of_released rs

pub released_of_released : (rs : List Reservation) → released_in (map released rs) ≡ rs
released_of_released [] = refl
released_of_released (r ∷ rs) = ap (λ (qs : List Reservation). r ∷ qs) (released_of_released rs)

nothing_more : (a : ℤ) → a ≡ pos 0 → pos 0 +ℤ a ≡ pos 0
nothing_more a e = omega (arith, ints)

pub balance_of_released : (chosen : RowName → Bool) (column : ℕ) (rs : List Reservation) → balance chosen column (map released rs) ≡ pos 0
balance_of_released chosen column [] = refl
balance_of_released chosen column (r ∷ rs) = nothing_more (balance chosen column (map released rs)) (balance_of_released chosen column rs)
