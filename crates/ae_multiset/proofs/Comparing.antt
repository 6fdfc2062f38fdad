-- The order is total and transitive, and tells different multisets apart.
use Rattle.std.proofs.Common.{◌≡◌, ℕ, zero, suc, ◌+◌, ◌<◌, ◌≤◌, List, length, ◌⊎◌, inl, inr, sym, ◌∙◌, subst, arith}
use Rattle.std.proofs.lemmas.Bool.{cases_eq, cases_lt}
use Rattle.ae_multiset.specs.Multisets.{count, IsSame, IsLower, IsLess}
use Rattle.ae_multiset.specs.Normal.{top}
use Rattle.ae_multiset.proofs.Counts.{count-above, length_same}

by_counts : (k : ℕ) (a b : List ℕ) → ((x : ℕ) → k ≤ x → count x a ≡ count x b) → IsLower a b ⊎ IsSame a b ⊎ IsLower b a
by_counts zero a b h = inr (inl (record { each = λ x. h x (omega arith) }))
by_counts (suc k) a b h = elim (cases_lt (count k a) (count k b)) as (λ _. IsLower a b ⊎ IsSame a b ⊎ IsLower b a) [
  | inl l ↦ inl (record { name = k; fewer = l; above = λ x m. h x (omega arith) })
  | inr g ↦ elim (cases_lt (count k b) (count k a)) as (λ _. IsLower a b ⊎ IsSame a b ⊎ IsLower b a) [
    | inl l ↦ inr (inr (record { name = k; fewer = l; above = λ x m. sym (h x (omega arith)) }))
    | inr e ↦ by_counts k a b (λ x m. elim (cases_eq x k) as (λ _. count x a ≡ count x b) [
      | inl q ↦ subst (λ (w : ℕ). count w a ≡ count w b) (sym q) (omega arith)
      | inr d ↦ h x (omega arith)
    ])
  ]
]

-- one multiset, or the one is less than the other
pub less_total : (a b : List ℕ) → IsLess a b ⊎ IsSame a b ⊎ IsLess b a
less_total a b = elim (cases_lt (length a) (length b)) as (λ _. IsLess a b ⊎ IsSame a b ⊎ IsLess b a) [
  | inl l ↦ inl (inl l)
  | inr g ↦ elim (cases_lt (length b) (length a)) as (λ _. IsLess a b ⊎ IsSame a b ⊎ IsLess b a) [
    | inl l ↦ inr (inr (inl l))
    | inr e ↦ elim (by_counts (top a + top b) a b (λ x h. count-above a x (omega arith) ∙ sym (count-above b x (omega arith)))) as (λ _. IsLess a b ⊎ IsSame a b ⊎ IsLess b a) [
      | inl l ↦ inl (inr (omega arith, l))
      | inr s ↦ elim s as (λ _. IsLess a b ⊎ IsSame a b ⊎ IsLess b a) [ inl q ↦ inr (inl q) | inr l ↦ inr (inr (inr (omega arith, l))) ]
    ]
  ]
]

pub less_differs : (a b : List ℕ) → IsLess a b → IsSame a b → ⊥
less_differs a b l s = elim l as (λ _. ⊥) [ inl h ↦ omega (arith, length_same a b s) | inr h ↦ omega (arith, h.1.fewer, s.each h.1.name) ]

lower_then : {a b c : List ℕ} → IsLower a b → IsLower b c → IsLower a c
lower_then {a} {b} {c} p q = elim (cases_lt p.name q.name) as (λ _. IsLower a c) [
  | inl l ↦ record { name = q.name; fewer = omega (arith, p.above q.name l, q.fewer); above = λ x m. p.above x (omega arith) ∙ q.above x m }
  | inr g ↦ elim (cases_lt q.name p.name) as (λ _. IsLower a c) [
    | inl l ↦ record { name = p.name; fewer = omega (arith, q.above p.name l, p.fewer); above = λ x m. p.above x m ∙ q.above x (omega arith) }
    | inr e ↦
        let n : q.name ≡ p.name = omega arith in
        let f : count p.name b < count p.name c = subst (λ (w : ℕ). count w b < count w c) n q.fewer in
        record { name = p.name; fewer = omega (arith, p.fewer, f); above = λ x m. p.above x m ∙ q.above x (omega arith) }
  ]
]

pub less_then : {a b c : List ℕ} → IsLess a b → IsLess b c → IsLess a c
less_then {a} {b} {c} p q = elim p as (λ _. IsLess a c) [
  | inl l ↦ elim q as (λ _. IsLess a c) [ inl m ↦ inl (omega arith) | inr m ↦ inl (omega (arith, m.0)) ]
  | inr l ↦ elim q as (λ _. IsLess a c) [ inl m ↦ inl (omega (arith, l.0)) | inr m ↦ inr (l.0 ∙ m.0, lower_then l.1 m.1) ]
]

-- whether two lists are one multiset
pub same_or_not : (a b : List ℕ) → IsSame a b ⊎ (IsSame a b → ⊥)
same_or_not a b = elim (less_total a b) as (λ _. IsSame a b ⊎ (IsSame a b → ⊥)) [
  | inl l ↦ inr (less_differs a b l)
  | inr s ↦ elim s as (λ _. IsSame a b ⊎ (IsSame a b → ⊥)) [
    | inl q ↦ inl q
    | inr l ↦ inr (λ q. less_differs b a l (record { each = λ x. sym (q.each x) }))
  ]
]
