-- How many members of a clause pass a test.
use Rattle.std.proofs.Common.{◌≡◌, zero, suc, ◌+◌, Bool, true, false, cond, [], ◌∷◌, refl, sym, ap, ◌∙◌, subst, arith, inl, inr}
use Rattle.std.specs.Prelude.{count_by}
use Rattle.std.specs.List.{Contains}
use Rattle.std.proofs.lemmas.Bool.{cases_Bool}
use Rattle.std.proofs.lemmas.List.Sums.{sum_by-cons}
use Rattle.ae_rules.specs.Clauses.{Clause}
use Rattle.ae_core.specs.declared.formulas.Lit.{Lit}

count_cons : (p : Lit → Bool) (x : Lit) (c : Clause) → count_by p (x ∷ c) ≡ cond (p x) 1 0 + count_by p c
count_cons p x c = sum_by-cons (λ m. cond (p m) 1 0) x c

count_yes : (p : Lit → Bool) (x : Lit) (c : Clause) → p x ≡ true → count_by p (x ∷ c) ≡ 1 + count_by p c
count_yes p x c y = subst (λ (b : Bool). count_by p (x ∷ c) ≡ cond b 1 0 + count_by p c) y (count_cons p x c)

count_no : (p : Lit → Bool) (x : Lit) (c : Clause) → p x ≡ false → count_by p (x ∷ c) ≡ 0 + count_by p c
count_no p x c n = subst (λ (b : Bool). count_by p (x ∷ c) ≡ cond b 1 0 + count_by p c) n (count_cons p x c)

none_passes : (p : Lit → Bool) (c : Clause) → count_by p c ≡ 0 → (m : Lit) → Contains c m → p m ≡ true → ⊥
none_passes p [] z m h y = absurd (omega (arith, h.1))
none_passes p (x ∷ c) z m (zero, l, e) y = absurd (omega (arith, z, count_yes p x c (ap p e ∙ y)))
none_passes p (x ∷ c) z m (suc k, l, e) y = none_passes p c (omega (arith, z, count_cons p x c)) m (k, omega (arith, l), e) y

-- where one literal passes, all that pass are that one
pub one_passes : (p : Lit → Bool) (c : Clause) → count_by p c ≡ 1 → (m n : Lit) → Contains c m → Contains c n → p m ≡ true → p n ≡ true → m ≡ n
one_passes p [] o m n h k y z = absurd (omega (arith, h.1))
one_passes p (x ∷ c) o m n (zero, l, e) (zero, r, f) y z = sym e ∙ f
one_passes p (x ∷ c) o m n (zero, l, e) (suc j, r, f) y z = absurd (none_passes p c (omega (arith, o, count_yes p x c (ap p e ∙ y))) n (j, omega (arith, r), f) z)
one_passes p (x ∷ c) o m n (suc i, l, e) (zero, r, f) y z = absurd (none_passes p c (omega (arith, o, count_yes p x c (ap p f ∙ z))) m (i, omega (arith, l), e) y)
one_passes p (x ∷ c) o m n (suc i, l, e) (suc j, r, f) y z = elim (cases_Bool (p x)) as (λ _. m ≡ n) [
  | inl q ↦ absurd (none_passes p c (omega (arith, o, count_yes p x c q)) m (i, omega (arith, l), e) y)
  | inr q ↦ one_passes p c (omega (arith, o, count_no p x c q)) m n (i, omega (arith, l), e) (j, omega (arith, r), f) y z
]

pub some_passes : (p : Lit → Bool) (c : Clause) → count_by p c ≡ 1 → (m : Lit) × Contains c m × (p m ≡ true)
some_passes p [] o = absurd (omega (arith, o))
some_passes p (x ∷ c) o = elim (cases_Bool (p x)) as (λ _. (m : Lit) × Contains (x ∷ c) m × (p m ≡ true)) [
  | inl q ↦ (x, (zero, omega arith, refl), q)
  | inr q ↦ let r = some_passes p c (omega (arith, o, count_no p x c q)) in (r.0, (suc r.1.0, omega (arith, r.1.1), r.1.2), r.2)
]
