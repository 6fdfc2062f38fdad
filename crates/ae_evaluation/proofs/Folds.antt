-- A commutative product over a list of terms depends on which terms stand in it alone.
use Rattle.std.specs.Prelude.{ℕ, ◌+◌, ◌<◌, List, [], ◌∷◌, ◌++◌, ◌≡◌}
use Rattle.std.specs.List.{sum_by}
use Rattle.std.specs.List.Sorted.{IsPermutation}
use Rattle.std.proofs.lemmas.List.Sorted.{sum_by-IsPermutation}
use Rattle.std.proofs.lemmas.List.Sums.{sum_by-cons}
use mathlib.Core.Path.{refl, sym, ap, ◌∙◌}
use native.Mathlib.Omega.{arith}
use Rattle.ae_core.specs.Decided.{Term_discrete}
use Rattle.ae_base.specs.Decided.{pick}
use Rattle.ae_base.proofs.Decided.{pick_yes}
use Rattle.ae_core.specs.declared.terms.Term.{Term}

abbrev pub is_it : Term → Term → ℕ
is_it t u = pick (Term_discrete t u) 1 0

abbrev pub count : Term → List Term → ℕ
count t [] = 0
count t (u ∷ us) = is_it t u + count t us

abbrev pub taken : Term → List Term → List Term
taken t [] = []
taken t (u ∷ us) = pick (Term_discrete t u) us (u ∷ taken t us)

count_taken : (s t : Term) (us : List Term) → 0 < count t us → count s us ≡ is_it s t + count s (taken t us)
count_taken s t [] h = absurd (omega arith)
count_taken s t (u ∷ us) h =
    elim (Term_discrete t u) as
    (λ d. 0 < pick d 1 0 + count t us → is_it s u + count s us ≡ is_it s t + count s (pick d us (u ∷ taken t us))) [
      | yes e ↦ λ _. ap (λ v. is_it s v + count s us) (sym e)
      | no n ↦ λ k. let ih : count s us ≡ is_it s t + count s (taken t us) = count_taken s t us (omega (arith, k)) in omega (arith, ih)
    ] h

count_sum : (t : Term) (us : List Term) → count t us ≡ sum_by (is_it t) us
count_sum t [] = refl
count_sum t (u ∷ us) = ap (λ (n : ℕ). is_it t u + n) (count_sum t us) ∙ sym (sum_by-cons (is_it t) u us)

module _ {V : Type 0} (mul : V → V → V) (one : V) (comm : (a b : V) → mul a b ≡ mul b a)
    (left_comm : (a b c : V) → mul a (mul b c) ≡ mul b (mul a c)) (mul_one : (a : V) → mul a one ≡ a) (f : Term → V) where
  pub folded : List Term → V
  folded [] = one
  folded (t ∷ ts) = mul (f t) (folded ts)

  pub folded_alone : (t : Term) → folded (t ∷ []) ≡ f t
  unfolding folded
  folded_alone t = mul_one (f t)

  assoc : (a b c : V) → mul (mul a b) c ≡ mul a (mul b c)
  assoc a b c = comm (mul a b) c ∙ left_comm c a b ∙ ap (mul a) (comm c b)

  pub folded-append : (us vs : List Term) → folded (us ++ vs) ≡ mul (folded us) (folded vs)
  unfolding folded
  folded-append [] vs = sym (comm one (folded vs) ∙ mul_one (folded vs))
  folded-append (u ∷ us) vs = ap (mul (f u)) (folded-append us vs) ∙ sym (assoc (f u) (folded us) (folded vs))

  folded_taken : (t : Term) (us : List Term) → 0 < count t us → folded us ≡ mul (f t) (folded (taken t us))
  unfolding folded
  folded_taken t [] h = absurd (omega arith)
  folded_taken t (u ∷ us) h =
      elim (Term_discrete t u) as
      (λ d. 0 < pick d 1 0 + count t us → mul (f u) (folded us) ≡ mul (f t) (folded (pick d us (u ∷ taken t us)))) [
        | yes e ↦ λ _. ap (λ v. mul (f v) (folded us)) (sym e)
        | no n ↦ λ k. ap (mul (f u)) (folded_taken t us (omega (arith, k))) ∙ left_comm (f u) (f t) (folded (taken t us))
      ] h

  folded_counts : (us vs : List Term) → ((t : Term) → count t us ≡ count t vs) → folded us ≡ folded vs
  unfolding folded
  folded_counts [] [] h = refl
  folded_counts [] (v ∷ vs) h =
      let one_there : is_it v v ≡ 1 = pick_yes (Term_discrete v v) 1 0 refl in absurd (omega (arith, h v, one_there))
  folded_counts (u ∷ us) vs h =
      let one_there : is_it u u ≡ 1 = pick_yes (Term_discrete u u) 1 0 refl in
      let k : 0 < count u vs = omega (arith, h u, one_there) in
      let rest : (t : Term) → count t us ≡ count t (taken u vs) = λ t. omega (arith, h t, count_taken t u vs k) in
      ap (mul (f u)) (folded_counts us (taken u vs) rest) ∙ sym (folded_taken u vs k)

  pub folded-permuted : (us vs : List Term) → IsPermutation us vs → folded us ≡ folded vs
  folded-permuted us vs p = folded_counts us vs (λ t. count_sum t us ∙ sym (sum_by-IsPermutation (is_it t) us vs p) ∙ sym (count_sum t vs))
