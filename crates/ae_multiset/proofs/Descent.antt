-- The order is well founded: by a bound of the names, and then by the size.
use Rattle.std.proofs.Common.{◌≡◌, ℕ, zero, suc, ◌<◌, ◌≤◌, List, length, inl, inr, refl, ◌∙◌, subst, arith}
use Rattle.std.proofs.lemmas.Bool.{cases_eq, cases_lt}
use mathlib.Core.WellFounded.{Acc}
use mathlib.Core.WellFounded.Acc.Acc.{intro}
use Rattle.ae_multiset.specs.Multisets.{count, IsLess}
use Rattle.ae_multiset.specs.Normal.{top}
use Rattle.ae_multiset.proofs.Counts.{count-above}

-- fewer of some name below `k`, and as many of each larger one
record Below (k : ℕ) (a b : List ℕ) : Type 0 where
  name : ℕ
  under : name < k
  fewer : count name a < count name b
  above : (x : ℕ) → name < x → count x a ≡ count x b

inner : (k n : ℕ) → ((b : List ℕ) → count k b < n → Acc (Below (suc k)) b) → {a : List ℕ} → count k a ≡ n → Acc (Below k) a → Acc (Below (suc k)) a
inner k n ih {a} e (intro _ h) = intro a (λ b r.
    elim (cases_eq r.name k) as (λ _. Acc (Below (suc k)) b) [
      | inl q ↦ ih b (let f : count k b < count k a = subst (λ (w : ℕ). count w b < count w a) q r.fewer in omega arith)
      | inr q ↦
          let lt : r.name < k = omega (arith, r.under, q) in
          inner k n ih (r.above k lt ∙ e) (h b (record { name = r.name; under = lt; fewer = r.fewer; above = r.above }))
    ])

up : (k : ℕ) → ((a : List ℕ) → Acc (Below k) a) → (n : ℕ) (a : List ℕ) → count k a < n → Acc (Below (suc k)) a
up k all zero a h = absurd (omega arith)
up k all (suc n) a h = inner k (count k a) (λ b l. up k all n b (omega arith)) refl (all a)

below_ends : (k : ℕ) (a : List ℕ) → Acc (Below k) a
below_ends zero a = intro a (λ b r. absurd (omega (arith, r.under)))
below_ends (suc k) a = up k (below_ends k) (suc (count k a)) a (omega arith)

whole : (k s : ℕ) → ((b : List ℕ) → length b < s → Acc IsLess b) → {a : List ℕ} → length a ≤ s → ((x : ℕ) → k ≤ x → count x a ≡ 0) → Acc (Below k) a → Acc IsLess a
whole k s ih {a} le z (intro _ h) = intro a (λ b l.
    elim l as (λ _. Acc IsLess b) [
      | inl q ↦ ih b (omega arith)
      | inr q ↦
          let lt : q.1.name < k = elim (cases_lt q.1.name k) as (λ _. q.1.name < k) [ inl y ↦ y | inr y ↦ absurd (omega (arith, q.1.fewer, z q.1.name y)) ] in
          whole k s ih (omega (arith, q.0)) (λ x kx. q.1.above x (omega arith) ∙ z x kx) (h b (record { name = q.1.name; under = lt; fewer = q.1.fewer; above = q.1.above }))
    ])

sized : (s : ℕ) (a : List ℕ) → length a < s → Acc IsLess a
sized zero a h = absurd (omega arith)
sized (suc s) a h = whole (top a) s (sized s) (omega arith) (count-above a) (below_ends (top a) a)

-- no descent goes on for ever
pub less_ends : (a : List ℕ) → Acc IsLess a
less_ends a = sized (suc (length a)) a (omega arith)
