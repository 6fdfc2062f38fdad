-- Counting the numbers below a bound that pass a test.
use Rattle.std.proofs.Common.{◌≡◌, ◌≢◌, ℕ, zero, suc, ◌+◌, ◌<◌, ◌≤◌, Bool, true, false, refl, sym, ◌∙◌, subst, arith, inl, inr}
use Rattle.std.proofs.lemmas.Bool.{cases_eq, cases_Bool}
use Rattle.ae_explain.specs.Inner.Marks.{count}

pub step_yes : (f : ℕ → Bool) (n : ℕ) → f n ≡ true → count f (suc n) ≡ suc (count f n)
unfolding count
step_yes f n h = rw h (omega arith)

pub step_no : (f : ℕ → Bool) (n : ℕ) → f n ≡ false → count f (suc n) ≡ count f n
unfolding count
step_no f n h = rw h (omega arith)

step_same : (f g : ℕ → Bool) (n : ℕ) → f n ≡ g n → count f n ≡ count g n → count f (suc n) ≡ count g (suc n)
step_same f g n h k = elim (cases_Bool (f n)) as (λ _. count f (suc n) ≡ count g (suc n)) [
  | inl y ↦ omega (arith, step_yes f n y, step_yes g n (sym h ∙ y), k)
  | inr o ↦ omega (arith, step_no f n o, step_no g n (sym h ∙ o), k)
]

pub count_same : (f g : ℕ → Bool) (n : ℕ) → ((k : ℕ) → k < n → f k ≡ g k) → count f n ≡ count g n
unfolding count
count_same f g zero h = refl
count_same f g (suc n) h = step_same f g n (h n (omega arith)) (count_same f g n (λ k l. h k (omega (arith, l))))

pub count_none : (f : ℕ → Bool) (n : ℕ) → ((k : ℕ) → k < n → f k ≡ false) → count f n ≡ 0
unfolding count
count_none f zero h = refl
count_none f (suc n) h = step_no f n (h n (omega arith)) ∙ count_none f n (λ k l. h k (omega (arith, l)))

-- one more passes
pub count_more : (f g : ℕ → Bool) (p n : ℕ) → p < n → f p ≡ false → g p ≡ true → ((k : ℕ) → k < n → k ≢ p → f k ≡ g k) → count g n ≡ count f n + 1
count_more f g p zero l a b h = absurd (omega (arith, l))
count_more f g p (suc n) l a b h = elim (cases_eq p n) as (λ _. count g (suc n) ≡ count f (suc n) + 1) [
  | inl e ↦
      let fs : count f n ≡ count g n = count_same f g n (λ k m. h k (omega (arith, m)) (omega (arith, m, e))) in
      omega (arith, fs, step_no f n (subst (λ (w : ℕ). f w ≡ false) e a), step_yes g n (subst (λ (w : ℕ). g w ≡ true) e b))
  | inr d ↦
      let ih : count g n ≡ count f n + 1 = count_more f g p n (omega (arith, l, d)) a b (λ k m. h k (omega (arith, m))) in
      let same : f n ≡ g n = h n (omega arith) (λ e. d (sym e)) in
      elim (cases_Bool (f n)) as (λ _. count g (suc n) ≡ count f (suc n) + 1) [
        | inl y ↦ omega (arith, ih, step_yes f n y, step_yes g n (sym same ∙ y))
        | inr o ↦ omega (arith, ih, step_no f n o, step_no g n (sym same ∙ o))
      ]
]

pub count_some : (f : ℕ → Bool) (n : ℕ) → 0 < count f n → (p : ℕ) × (p < n) × (f p ≡ true)
unfolding count
count_some f zero h = absurd (omega (arith, h))
count_some f (suc n) h = elim (cases_Bool (f n)) as (λ _. (p : ℕ) × (p < suc n) × (f p ≡ true)) [
  | inl y ↦ (n, omega arith, y)
  | inr o ↦ let r = count_some f n (omega (arith, h, step_no f n o)) in (r.0, omega (arith, r.1), r.2)
]

pub count_positive : (f : ℕ → Bool) (n p : ℕ) → p < n → f p ≡ true → 0 < count f n
count_positive f zero p l h = absurd (omega (arith, l))
count_positive f (suc n) p l h = elim (cases_eq p n) as (λ _. 0 < count f (suc n)) [
  | inl e ↦ omega (arith, step_yes f n (subst (λ (w : ℕ). f w ≡ true) e h))
  | inr d ↦
      let ih : 0 < count f n = count_positive f n p (omega (arith, l, d)) h in
      elim (cases_Bool (f n)) as (λ _. 0 < count f (suc n)) [ inl y ↦ omega (arith, step_yes f n y) | inr o ↦ omega (arith, ih, step_no f n o) ]
]

-- where more than one passes, another one does
pub count_other : (f : ℕ → Bool) (n p : ℕ) → p < n → f p ≡ true → 1 < count f n → (q : ℕ) × (q < n) × (q ≢ p) × (f q ≡ true)
count_other f zero p l h m = absurd (omega (arith, l))
count_other f (suc n) p l h m = elim (cases_eq p n) as (λ _. (q : ℕ) × (q < suc n) × (q ≢ p) × (f q ≡ true)) [
  | inl e ↦ let r = count_some f n (omega (arith, m, step_yes f n (subst (λ (w : ℕ). f w ≡ true) e h))) in (r.0, omega (arith, r.1), omega (arith, r.1, e), r.2)
  | inr d ↦ elim (cases_Bool (f n)) as (λ _. (q : ℕ) × (q < suc n) × (q ≢ p) × (f q ≡ true)) [
    | inl y ↦ (n, omega arith, λ e. d (sym e), y)
    | inr o ↦ let r = count_other f n p (omega (arith, l, d)) h (omega (arith, m, step_no f n o)) in (r.0, omega (arith, r.1), r.2, r.3)
  ]
]

pub count_within : (f : ℕ → Bool) (n : ℕ) → count f n ≤ n
unfolding count
count_within f zero = omega arith
count_within f (suc n) = elim (cases_Bool (f n)) as (λ _. count f (suc n) ≤ suc n) [
  | inl y ↦ omega (arith, step_yes f n y, count_within f n)
  | inr o ↦ omega (arith, step_no f n o, count_within f n)
]

-- where one doesn't pass, they are fewer
pub short : (f : ℕ → Bool) (n p : ℕ) → p < n → f p ≡ false → count f n < n
short f zero p l h = absurd (omega (arith, l))
short f (suc n) p l h = elim (cases_eq p n) as (λ _. count f (suc n) < suc n) [
  | inl e ↦ omega (arith, step_no f n (subst (λ (w : ℕ). f w ≡ false) e h), count_within f n)
  | inr d ↦
      let ih : count f n < n = short f n p (omega (arith, l, d)) h in
      elim (cases_Bool (f n)) as (λ _. count f (suc n) < suc n) [ inl y ↦ omega (arith, ih, step_yes f n y) | inr o ↦ omega (arith, ih, step_no f n o) ]
]
