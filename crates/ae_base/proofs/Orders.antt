-- What a comparison answered. The library has lemmas.Cmp, specs.Cmp (ranks, Equal-is, ..).
use Rattle.std.specs.Prelude.{ℕ, ◌≡◌, ◌<◌, false}
use Rattle.std.specs.Ordering.{MatchOrdering, is_eq}
use Rattle.std.specs.Cmp.{ranks}
use Rattle.std.proofs.Common.{refl, sym, subst, Ordering, Less, Equal, Greater, nat_cmp}

pub cmp_below : (m n : ℕ) → Less ≡ nat_cmp m n → m < n
cmp_below m n e = subst (λ (o : Ordering). MatchOrdering o (m < n) (m ≡ n) (n < m)) (sym e) (ranks m n)

pub cmp_equal : (m n : ℕ) → Equal ≡ nat_cmp m n → m ≡ n
cmp_equal m n e = subst (λ (o : Ordering). MatchOrdering o (m < n) (m ≡ n) (n < m)) (sym e) (ranks m n)

pub cmp_above : (m n : ℕ) → Greater ≡ nat_cmp m n → n < m
cmp_above m n e = subst (λ (o : Ordering). MatchOrdering o (m < n) (m ≡ n) (n < m)) (sym e) (ranks m n)

pub not_equal : (o : Ordering) → ¬ (o ≡ Equal) → is_eq o ≡ false
not_equal Less n = refl
not_equal Equal n = absurd (n refl)
not_equal Greater n = refl
