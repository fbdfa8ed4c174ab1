-- Quotients of whole numbers, their products, and their order.
use Rattle.std.proofs.Common.{◌≡◌, ℕ, zero, suc, ◌*◌, ◌/◌, ◌%◌, ◌<◌, ◌⊎◌, inl, inr, ℤ, pos, negsuc, neg_ℤ, ◌+ℤ◌, ◌-ℤ◌, ◌*ℤ◌, ◌≤ℤ◌, ◌<ℤ◌, int_div, int_rem, refl, ap, sym, arith, ◌∙◌}
use Rattle.std.proofs.Math.IntN.{ℤ_ind, zero-*ℤ, *ℤ_comm}
use Rattle.std.proofs.Math.Nat.{mul-mod_left, mul-div_cancel, zero-div, zero-mod}
use Rattle.std.proofs.lemmas.Int.{ints, quot-rem, by_lt_z}
use Rattle.escrow_checks.proofs.LinearLemmas.{sum-*ℤ, less-*ℤ}
use Rattle.escrow_checks.proofs.Products.{*ℤ-up, *ℤ-down}

-- ---- products of three

pub *ℤ_assoc : (a b c : ℤ) → (a *ℤ b) *ℤ c ≡ a *ℤ (b *ℤ c)
*ℤ_assoc a b c = ℤ_ind (λ m. (m *ℤ b) *ℤ c ≡ m *ℤ (b *ℤ c))
    (ap (λ x. x *ℤ c) (zero-*ℤ b) ∙ zero-*ℤ c ∙ sym (zero-*ℤ (b *ℤ c)))
    (λ n h. omega (arith, ints, h, ap (λ x. x *ℤ c) (*ℤ-up (pos n) b), sum-*ℤ (pos n *ℤ b) b c, *ℤ-up (pos n) (b *ℤ c)))
    (λ n h. omega (arith, ints, h, ap (λ x. x *ℤ c) (*ℤ-down (neg_ℤ (pos n)) b), less-*ℤ (neg_ℤ (pos n) *ℤ b) b c, *ℤ-down (neg_ℤ (pos n)) (b *ℤ c)))
    a

-- ---- quotients of products

product-over : (n k : ℕ) → 0 < k → n * k / k ≡ n
product-over n k some = mul-div_cancel n some

negative-over : (m k : ℕ) → 0 < k → int_div (neg_ℤ (pos m)) (pos k) ≡ neg_ℤ (pos (m / k))
negative-over zero k some = let e : 0 / k ≡ 0 = zero-div k in rw e refl
negative-over (suc m) k some = refl

negative-left : (m k : ℕ) → 0 < k → int_rem (neg_ℤ (pos m)) (pos k) ≡ neg_ℤ (pos (m % k))
negative-left zero k some = let e : 0 % k ≡ 0 = zero-mod k in rw e refl
negative-left (suc m) k some = refl

-- a product divided by one of its factors
pub quotient : (u : ℤ) (k : ℕ) → 0 < k → int_div (u *ℤ pos k) (pos k) ≡ u
quotient (pos n) k some = ap (λ (m : ℕ). pos m) (product-over n k some)
quotient (negsuc n) k some = negative-over (suc n * k) k some ∙ ap (λ (m : ℕ). neg_ℤ (pos m)) (product-over (suc n) k some)

-- the remainder is zero
pub remainder : (u : ℤ) (k : ℕ) → 0 < k → int_rem (u *ℤ pos k) (pos k) ≡ pos 0
remainder (pos n) k some = ap (λ (m : ℕ). pos m) (mul-mod_left n k)
remainder (negsuc n) k some = negative-left (suc n * k) k some ∙ ap (λ (m : ℕ). neg_ℤ (pos m)) (mul-mod_left (suc n) k)

-- if the remainder is zero, the quotient times the divisor is the number
pub made_up : (z : ℤ) (k : ℕ) → int_rem z (pos k) ≡ pos 0 → int_div z (pos k) *ℤ pos k ≡ z
made_up z k none = omega (arith, ints, quot-rem z (pos k), none)

-- ---- order

-- the first two numbers are in the same order as the other two
abbrev pub Ordered : ℤ → ℤ → ℤ → ℤ → Type 0
Ordered f n a b = ((f <ℤ n) × (a <ℤ b)) ⊎ ((f ≡ n) × (a ≡ b)) ⊎ ((n <ℤ f) × (b <ℤ a))

-- multiplying keeps the order
times_le : (a b : ℤ) (k : ℕ) → a ≤ℤ b → (a *ℤ pos k) ≤ℤ (b *ℤ pos k)
times_le a b zero h = omega (arith, ints, *ℤ_comm a (pos 0), *ℤ_comm b (pos 0), zero-*ℤ a, zero-*ℤ b)
times_le a b (suc k) h =
    let one : pos (suc k) ≡ pos k +ℤ pos 1 = omega (arith, ints) in
    let a_more : a *ℤ pos (suc k) ≡ (a *ℤ pos k) +ℤ a = *ℤ_comm a (pos (suc k)) ∙ ap (λ x. x *ℤ a) one ∙ *ℤ-up (pos k) a ∙ ap (λ x. x +ℤ a) (*ℤ_comm (pos k) a) in
    let b_more : b *ℤ pos (suc k) ≡ (b *ℤ pos k) +ℤ b = *ℤ_comm b (pos (suc k)) ∙ ap (λ x. x *ℤ b) one ∙ *ℤ-up (pos k) b ∙ ap (λ x. x +ℤ b) (*ℤ_comm (pos k) b) in
    omega (arith, ints, h, a_more, b_more, times_le a b k h)

times_lt : (a b : ℤ) (k : ℕ) → 0 < k → a <ℤ b → (a *ℤ pos k) <ℤ (b *ℤ pos k)
times_lt a b k some h =
    let next : (a +ℤ pos 1) ≤ℤ b = omega (arith, ints, h) in
    omega (arith, ints, some, times_le (a +ℤ pos 1) b k next, *ℤ-up a (pos k))

-- for multiples of a unit, the numbers of units are in the same order
pub ordered : (f n a b : ℤ) (k : ℕ) → 0 < k → a -ℤ b ≡ (f *ℤ pos k) -ℤ (n *ℤ pos k) → Ordered f n a b
ordered f n a b k some e =
    by_lt_z f n
    (λ below. inl (below, omega (arith, ints, e, times_lt f n k some below)))
    (λ above. by_lt_z n f
    (λ over. inr (inr (over, omega (arith, ints, e, times_lt n f k some over))))
    (λ under. let same : f ≡ n = omega (arith, ints, above, under) in inr (inl (same, omega (arith, ints, e, ap (λ x. x *ℤ pos k) same)))))
