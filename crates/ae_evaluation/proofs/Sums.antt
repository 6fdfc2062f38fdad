-- Sums over leaves: the factors tell a settled sum.
use Rattle.std.specs.Prelude.{ℕ, ◌<◌, ◌≤◌, true, false, cond, List, [], ◌∷◌, ◌++◌, ◌≡◌, ◌≢◌}
use Rattle.std.proofs.Common.{inl, inr}
use mathlib.Core.Path.{refl, sym, ap, ◌∙◌, subst}
use native.Mathlib.Omega.{arith}
use Rattle.std.proofs.lemmas.Bool.Decides.{nat_tests}
use Rattle.std.proofs.lemmas.Bool.{cases_eq, cases_lt}
use Rattle.ae_math.specs.Fractions.{ℚ, zero_ℚ, ◌+ℚ◌, ◌*ℚ◌, ℚ_discrete}
use Rattle.ae_math.proofs.FractionLaws.{add_assoc_q, zero_add_q, add_zero_q, add_left_comm_q}
use Rattle.ae_math.proofs.FormLaws.{factor_in-append, factor_in-scale}
use native.Mathlib.Decide.{ℕ_discrete}
use Rattle.ae_base.specs.Decided.{pick}
use Rattle.ae_base.proofs.Decided.{pick_yes, pick_no}
use Rattle.ae_journal.specs.Values.{leaf_factor, put_part, enter, settled, scaled, Above, IsSettled}

-- ---- the factor of a leaf, by whether it is the one in front
pub factor_same : (k : ℕ) (x : ℚ) (ps : List (ℕ × ℚ)) → leaf_factor ((k, x) ∷ ps) k ≡ x +ℚ leaf_factor ps k
factor_same k x ps = pick_yes (ℕ_discrete k k) _ _ refl

pub factor_other : (j k : ℕ) (x : ℚ) (ps : List (ℕ × ℚ)) → j ≢ k → leaf_factor ((k, x) ∷ ps) j ≡ leaf_factor ps j
factor_other j k x ps d = pick_no (ℕ_discrete k j) _ _ (λ e. d (sym e))

pub factor-append : (ps qs : List (ℕ × ℚ)) (j : ℕ) → leaf_factor (ps ++ qs) j ≡ leaf_factor ps j +ℚ leaf_factor qs j
factor-append ps qs j = factor_in-append ℕ_discrete ps qs j

pub factor-scaled : (x : ℚ) (ps : List (ℕ × ℚ)) (j : ℕ) → leaf_factor (scaled x ps) j ≡ x *ℚ leaf_factor ps j
factor-scaled x ps j = factor_in-scale ℕ_discrete x ps j

-- ---- settling keeps each factor
factor-put : (k : ℕ) (x : ℚ) (ps : List (ℕ × ℚ)) (j : ℕ) → leaf_factor (put_part k x ps) j ≡ leaf_factor ((k, x) ∷ ps) j
factor-put k x ps j =
    elim (ℚ_discrete x zero_ℚ) as (λ d. leaf_factor (cond (pick d true false) ps ((k, x) ∷ ps)) j ≡ leaf_factor ((k, x) ∷ ps) j) [
      | yes e ↦ elim (cases_eq j k) [
        | inl f ↦ subst (λ (i : ℕ). leaf_factor ps j ≡ leaf_factor ((i, x) ∷ ps) j) f
            (sym (factor_same j x ps ∙ ap (λ y. y +ℚ leaf_factor ps j) e ∙ zero_add_q _))
        | inr f ↦ sym (factor_other j k x ps f)
      ]
      | no n ↦ refl
    ]

front_swap : (k l : ℕ) (x y : ℚ) (ps : List (ℕ × ℚ)) (j : ℕ) → leaf_factor ((k, x) ∷ (l, y) ∷ ps) j ≡ leaf_factor ((l, y) ∷ (k, x) ∷ ps) j
front_swap k l x y ps j = factor-append ((k, x) ∷ []) ((l, y) ∷ ps) j ∙ swap
  where
    swap : leaf_factor ((k, x) ∷ []) j +ℚ leaf_factor ((l, y) ∷ ps) j ≡ leaf_factor ((l, y) ∷ (k, x) ∷ ps) j
    swap =
        ap (λ z. leaf_factor ((k, x) ∷ []) j +ℚ z) (factor-append ((l, y) ∷ []) ps j) ∙ add_left_comm_q _ _ _
        ∙ ap (λ z. leaf_factor ((l, y) ∷ []) j +ℚ z) (sym (factor-append ((k, x) ∷ []) ps j))
        ∙ sym (factor-append ((l, y) ∷ []) ((k, x) ∷ ps) j)

keep_front : (p : ℕ × ℚ) (ps qs : List (ℕ × ℚ)) (j : ℕ) → leaf_factor ps j ≡ leaf_factor qs j
    → leaf_factor (p ∷ ps) j ≡ leaf_factor (p ∷ qs) j
keep_front p ps qs j e = factor-append (p ∷ []) ps j ∙ ap (λ z. leaf_factor (p ∷ []) j +ℚ z) e ∙ sym (factor-append (p ∷ []) qs j)

front_join : (k : ℕ) (x y : ℚ) (ps : List (ℕ × ℚ)) (j : ℕ) → leaf_factor ((k, x +ℚ y) ∷ ps) j ≡ leaf_factor ((k, x) ∷ (k, y) ∷ ps) j
front_join k x y ps j =
    elim (cases_eq j k) [
      | inl e ↦ subst (λ (i : ℕ). leaf_factor ((i, x +ℚ y) ∷ ps) j ≡ leaf_factor ((i, x) ∷ (i, y) ∷ ps) j) e
          (factor_same j (x +ℚ y) ps ∙ add_assoc_q _ _ _ ∙ ap (λ z. x +ℚ z) (sym (factor_same j y ps)) ∙ sym
          (factor_same j x ((j, y) ∷ ps)))
      | inr d ↦ factor_other j k (x +ℚ y) ps d ∙ sym (factor_other j k x ((k, y) ∷ ps) d ∙ factor_other j k y ps d)
    ]

pub factor-enter : (k : ℕ) (x : ℚ) (ps : List (ℕ × ℚ)) (j : ℕ) → leaf_factor (enter k x ps) j ≡ leaf_factor ((k, x) ∷ ps) j
factor-enter k x [] j = factor-put k x [] j
factor-enter k x ((l, y) ∷ ps) j =
    let ih = factor-enter k x ps j in
    elim (cases_lt l k) [
      | inl h ↦
          let e : enter k x ((l, y) ∷ ps) ≡ (l, y) ∷ enter k x ps = grind (arith, nat_tests) in
          ap (λ qs. leaf_factor qs j) e ∙ keep_front (l, y) (enter k x ps) ((k, x) ∷ ps) j ih ∙ front_swap l k y x ps j
      | inr h ↦ elim (cases_lt k l) [
        | inl i ↦
            let e : enter k x ((l, y) ∷ ps) ≡ put_part k x ((l, y) ∷ ps) = grind (arith, nat_tests) in
            ap (λ qs. leaf_factor qs j) e ∙ factor-put k x ((l, y) ∷ ps) j
        | inr i ↦
            let e : enter k x ((l, y) ∷ ps) ≡ put_part k (x +ℚ y) ps = grind (arith, nat_tests) in
            let f : k ≡ l = omega arith in
            ap (λ qs. leaf_factor qs j) e ∙ factor-put k (x +ℚ y) ps j ∙ front_join k x y ps j ∙ ap
            (λ (i : ℕ). leaf_factor ((k, x) ∷ (i, y) ∷ ps) j) f
      ]
    ]

pub factor-settled : (ps : List (ℕ × ℚ)) (j : ℕ) → leaf_factor (settled ps) j ≡ leaf_factor ps j
factor-settled [] j = refl
factor-settled ((k, x) ∷ ps) j = factor-enter k x (settled ps) j ∙ keep_front (k, x) (settled ps) ps j (factor-settled ps j)

above_lower : (j k : ℕ) (ps : List (ℕ × ℚ)) → j ≤ k → Above k ps → Above j ps
above_lower j k [] h a = tt
above_lower j k (p ∷ ps) h a = (omega (arith, a.0), above_lower j k ps h a.1)

put_above : (j k : ℕ) (x : ℚ) (ps : List (ℕ × ℚ)) → j < k → Above j ps → Above j (put_part k x ps)
put_above j k x ps h a =
    elim (ℚ_discrete x zero_ℚ) as (λ d. Above j (cond (pick d true false) ps ((k, x) ∷ ps))) [ yes e ↦ a | no n ↦ (h, a) ]

put_settled : (k : ℕ) (x : ℚ) (ps : List (ℕ × ℚ)) → Above k ps → IsSettled ps → IsSettled (put_part k x ps)
put_settled k x ps a s =
    elim (ℚ_discrete x zero_ℚ) as (λ d. IsSettled (cond (pick d true false) ps ((k, x) ∷ ps))) [ yes e ↦ s | no n ↦ (n, a, s) ]

enter_above : (j k : ℕ) (x : ℚ) (ps : List (ℕ × ℚ)) → j < k → Above j ps → Above j (enter k x ps)
enter_above j k x [] h a = put_above j k x [] h a
enter_above j k x ((l, y) ∷ ps) h a =
    elim (cases_lt l k) [
      | inl i ↦
          let e : enter k x ((l, y) ∷ ps) ≡ (l, y) ∷ enter k x ps = grind (arith, nat_tests) in
          subst (Above j) (sym e) (a.0, enter_above j k x ps h a.1)
      | inr i ↦ elim (cases_lt k l) [
        | inl m ↦
            let e : enter k x ((l, y) ∷ ps) ≡ put_part k x ((l, y) ∷ ps) = grind (arith, nat_tests) in
            subst (Above j) (sym e) (put_above j k x ((l, y) ∷ ps) h a)
        | inr m ↦
            let e : enter k x ((l, y) ∷ ps) ≡ put_part k (x +ℚ y) ps = grind (arith, nat_tests) in
            subst (Above j) (sym e) (put_above j k (x +ℚ y) ps h a.1)
      ]
    ]

enter_settled : (k : ℕ) (x : ℚ) (ps : List (ℕ × ℚ)) → IsSettled ps → IsSettled (enter k x ps)
enter_settled k x [] s = put_settled k x [] tt tt
enter_settled k x ((l, y) ∷ ps) s =
    elim (cases_lt l k) [
      | inl i ↦
          let e : enter k x ((l, y) ∷ ps) ≡ (l, y) ∷ enter k x ps = grind (arith, nat_tests) in
          subst IsSettled (sym e) (s.0, enter_above l k x ps i s.1, enter_settled k x ps s.2)
      | inr i ↦ elim (cases_lt k l) [
        | inl m ↦
            let e : enter k x ((l, y) ∷ ps) ≡ put_part k x ((l, y) ∷ ps) = grind (arith, nat_tests) in
            subst IsSettled (sym e) (put_settled k x ((l, y) ∷ ps) (m, above_lower k l ps (omega arith) s.1) s)
        | inr m ↦
            let e : enter k x ((l, y) ∷ ps) ≡ put_part k (x +ℚ y) ps = grind (arith, nat_tests) in
            let f : k ≤ l = omega arith in
            subst IsSettled (sym e) (put_settled k (x +ℚ y) ps (above_lower k l ps f s.1) s.2)
      ]
    ]

pub settles : (ps : List (ℕ × ℚ)) → IsSettled (settled ps)
settles [] = tt
settles ((k, x) ∷ ps) = enter_settled k x (settled ps) (settles ps)

-- ---- one spelling
factor_above : (k : ℕ) (ps : List (ℕ × ℚ)) → Above k ps → leaf_factor ps k ≡ zero_ℚ
factor_above k [] a = refl
factor_above k ((l, y) ∷ ps) a = factor_other k l y ps (λ e. omega (arith, a.0, e)) ∙ factor_above k ps a.1

front_factor : (k : ℕ) (x : ℚ) (ps : List (ℕ × ℚ)) → Above k ps → leaf_factor ((k, x) ∷ ps) k ≡ x
front_factor k x ps a = factor_same k x ps ∙ ap (λ y. x +ℚ y) (factor_above k ps a) ∙ add_zero_q x

pub one_sum : (ps qs : List (ℕ × ℚ)) → IsSettled ps → IsSettled qs → ((j : ℕ) → leaf_factor ps j ≡ leaf_factor qs j) → ps ≡ qs
one_sum [] [] s t h = refl
one_sum [] ((l, y) ∷ qs) s t h = absurd (t.0 (sym (front_factor l y qs t.1) ∙ sym (h l)))
one_sum ((k, x) ∷ ps) [] s t h = absurd (s.0 (sym (front_factor k x ps s.1) ∙ h k))
one_sum ((k, x) ∷ ps) ((l, y) ∷ qs) s t h =
    let below_first : ¬ (k < l) =
    λ i. s.0 (sym (front_factor k x ps s.1) ∙ h k ∙ factor_above k ((l, y) ∷ qs) (i, above_lower k l qs (omega arith) t.1)) in
    let below_second : ¬ (l < k) =
    λ i. t.0 (sym (front_factor l y qs t.1) ∙ sym (h l) ∙ factor_above l ((k, x) ∷ ps) (i, above_lower l k ps (omega arith) s.1)) in
    let e : k ≡ l =
    elim (cases_lt k l) [
      | inl i ↦ absurd (below_first i)
      | inr i ↦ elim
          (cases_lt l k) [ inl m ↦ absurd (below_second m) | inr m ↦ omega arith ]
    ] in
    let f : x ≡ y = sym (front_factor k x ps s.1) ∙ h k ∙ ap (λ (i : ℕ). leaf_factor ((l, y) ∷ qs) i) e ∙ front_factor l y qs t.1 in
    let rest : (j : ℕ) → leaf_factor ps j ≡ leaf_factor qs j =
    λ j. elim (cases_eq j k) [
      | inl i ↦ ap (leaf_factor ps) i ∙ factor_above k ps s.1 ∙ sym (ap (leaf_factor qs) (i ∙ e) ∙ factor_above l qs t.1)
      | inr d ↦ sym (factor_other j k x ps d) ∙ h j ∙ factor_other j l y qs (λ m. d (m ∙ sym e))
    ] in
    λ i. (e i, f i) ∷ one_sum ps qs s.2 t.2 rest i

pub settled_same : (ps qs : List (ℕ × ℚ)) → ((j : ℕ) → leaf_factor ps j ≡ leaf_factor qs j) → settled ps ≡ settled qs
settled_same ps qs h =
    one_sum (settled ps) (settled qs) (settles ps) (settles qs) (λ j. factor-settled ps j ∙ h j ∙ sym (factor-settled qs j))
