-- The laws of the integers as a commutative ring, and the rules `ring`: `simp ring` brings a term of sums, products and negations
-- into one order of sums of products. Where terms also cancel, `simp ring (omega (arith, ints))` ends it.
use Prim.Native.Nat.{ℕ, ◌+◌, ◌*◌}
use native.Mathlib.Omega.{arith}
use mathlib.Core.Path.{◌≡◌, sym, ap, ◌∙◌}
use lib.IntN.{ℤ, pos, negsuc, neg_ℤ, ◌+ℤ◌, ◌-ℤ◌, ◌*ℤ◌, *ℤ_comm, +ℤ_comm, +ℤ_assoc, +ℤ_idl, +ℤ_idr, zero-*ℤ, *ℤ-zero, neg_ℤ-neg_ℤ, neg_ℤ-+ℤ, +ℤ_invr}
use borrow.Author.Differences.{up, down, same_in, sum_is_lem, neg_is, product_is, ints}

pub mul_assoc_z : (a b c : ℤ) → (a *ℤ b) *ℤ c ≡ a *ℤ (b *ℤ c)
mul_assoc_z a b c =
    let ab = product_is a b in
    let bc = product_is b c in
    let by = λ (k : ℕ) (m n : ℕ) (e : m ≡ n). ap (λ x. x * k) e in
    let left = product_is (a *ℤ b) c in
    let right = product_is a (b *ℤ c) in
    let ups : up ((a *ℤ b) *ℤ c) ≡ up (a *ℤ (b *ℤ c)) =
    omega (arith, by (up c) _ _ ab.0, by (down c) _ _ ab.1, by (up a) _ _ bc.0, by (down a) _ _ bc.1) in
    let downs : down ((a *ℤ b) *ℤ c) ≡ down (a *ℤ (b *ℤ c)) =
    omega (arith, by (down c) _ _ ab.0, by (up c) _ _ ab.1, by (down a) _ _ bc.0, by (up a) _ _ bc.1) in
    same_in _ _ (λ i. ups i + sym downs i)

pub add_comm_z : (a b : ℤ) → a +ℤ b ≡ b +ℤ a
add_comm_z a b = omega (arith, ints)

pub add_left_comm_z : (a b c : ℤ) → a +ℤ (b +ℤ c) ≡ b +ℤ (a +ℤ c)
add_left_comm_z a b c = omega (arith, ints)

pub mul_left_comm_z : (a b c : ℤ) → a *ℤ (b *ℤ c) ≡ b *ℤ (a *ℤ c)
mul_left_comm_z a b c = sym (mul_assoc_z a b c) ∙ ap (λ x. x *ℤ c) (*ℤ_comm a b) ∙ mul_assoc_z b a c

pub mul_add_z : (a b c : ℤ) → a *ℤ (b +ℤ c) ≡ a *ℤ b +ℤ a *ℤ c
mul_add_z a b c =
    let s = sum_is_lem b c in
    same_in _ _ (omega (arith, product_is a (b +ℤ c), product_is a b, product_is a c, sum_is_lem (a *ℤ b) (a *ℤ c), ap (λ x. x * up a) s, ap (λ x. x * down a) s))

pub add_mul_z : (a b c : ℤ) → (a +ℤ b) *ℤ c ≡ a *ℤ c +ℤ b *ℤ c
add_mul_z a b c = *ℤ_comm _ c ∙ mul_add_z c a b ∙ (λ i. *ℤ_comm c a i +ℤ *ℤ_comm c b i)

pub mul_neg_z : (a b : ℤ) → a *ℤ neg_ℤ b ≡ neg_ℤ (a *ℤ b)
mul_neg_z a b =
    let s = neg_is b in
    same_in _ _ (omega (arith, product_is a (neg_ℤ b), product_is a b, neg_is (a *ℤ b), ap (λ x. x * up a) s.0, ap (λ x. x * down a) s.0, ap (λ x. x * up a) s.1, ap (λ x. x * down a) s.1))

pub neg_mul_z : (a b : ℤ) → neg_ℤ a *ℤ b ≡ neg_ℤ (a *ℤ b)
neg_mul_z a b = *ℤ_comm _ b ∙ mul_neg_z b a ∙ ap neg_ℤ (*ℤ_comm b a)

pub one_mul_z : (a : ℤ) → pos 1 *ℤ a ≡ a
one_mul_z a = omega (arith, ints)

pub mul_one_z : (a : ℤ) → a *ℤ pos 1 ≡ a
mul_one_z a = omega (arith, ints)

pub ruleset ring = (mul_assoc_z, *ℤ_comm, mul_left_comm_z, +ℤ_assoc, +ℤ_comm, add_left_comm_z, mul_add_z, add_mul_z, mul_neg_z, neg_mul_z, neg_ℤ-+ℤ, neg_ℤ-neg_ℤ)
