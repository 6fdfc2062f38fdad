-- Members of clauses.
use Rattle.std.proofs.Common.{◌≡◌, ◌≢◌, zero, suc, true, false, [], ◌∷◌, refl, arith, ◌⊎◌, inl, inr}
use Rattle.std.specs.List.{Contains}
use Rattle.std.proofs.lemmas.Bool.{or_left, or_right, or_from}
use Rattle.ae_base.specs.Decided.{decided}
use Rattle.ae_base.proofs.Decided.{decided_of, decided_not}
use Rattle.ae_rules.specs.Clauses.{Clause, stands}
use Rattle.ae_core.specs.Decided.{Lit_discrete}
use Rattle.ae_core.specs.declared.formulas.Lit.{Lit}

pub lit_cases : (m l : Lit) → (m ≡ l) ⊎ (m ≢ l)
lit_cases m l = elim (Lit_discrete m l) as (λ _. (m ≡ l) ⊎ (m ≢ l)) [ yes e ↦ inl e | no d ↦ inr d ]

pub member_cases : (c : Clause) (l : Lit) → Contains c l ⊎ (Contains c l → ⊥)
member_cases [] l = inr (λ h. absurd (omega (arith, h.1)))
member_cases (x ∷ c) l = elim (lit_cases x l) as (λ _. Contains (x ∷ c) l ⊎ (Contains (x ∷ c) l → ⊥)) [
  | inl e ↦ inl (zero, omega arith, e)
  | inr d ↦ elim (member_cases c l) as (λ _. Contains (x ∷ c) l ⊎ (Contains (x ∷ c) l → ⊥)) [
    | inl h ↦ inl (suc h.0, omega (arith, h.1), h.2)
    | inr n ↦ inr (λ h. neither x c l d n h)
  ]
]
  where
    neither : (x : Lit) (c : Clause) (l : Lit) → x ≢ l → (Contains c l → ⊥) → Contains (x ∷ c) l → ⊥
    neither x c l d n (zero, k, e) = d e
    neither x c l d n (suc j, k, e) = n (j, omega (arith, k), e)

-- the test of a member
pub stands_member : (c : Clause) (l : Lit) → Contains c l → stands c l ≡ true
stands_member [] l k = absurd (omega (arith, k.1))
stands_member (x ∷ c) l (zero, k, e) = or_left (decided (Lit_discrete x l)) (stands c l) (decided_of (Lit_discrete x l) e)
stands_member (x ∷ c) l (suc j, k, e) = or_right (decided (Lit_discrete x l)) (stands c l) (stands_member c l (j, omega (arith, k), e))

pub stands_no_member : (c : Clause) (l : Lit) → (Contains c l → ⊥) → stands c l ≡ false
stands_no_member [] l n = refl
stands_no_member (x ∷ c) l n =
    or_from (decided (Lit_discrete x l)) (stands c l) (decided_not (Lit_discrete x l) (λ e. n (zero, omega arith, e))) (stands_no_member c l (λ h. n (suc h.0, omega (arith, h.1), h.2)))
