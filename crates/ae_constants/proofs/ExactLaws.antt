-- Forms over names, read over the terms of the names: sums, multiples, and which of them are numbers.
use Rattle.std.specs.Prelude.{ℕ, suc, ◌<◌, ◌≤◌, ◌≡◌, ◌≢◌, Bool, true, false, cond, ◌&&◌, nat_lt, Some, ◌⊎◌, List, [], ◌∷◌, ◌++◌, map, length, ℤ, pos, negsuc, zero, ◌<ℤ◌}
use Rattle.std.specs.List.{AllByRecursion, list_all}
use Rattle.std.proofs.Common.{refl, sym, ap, subst, ◌∙◌, arith, inl, inr}
use Rattle.std.proofs.lemmas.List.{map-append}
use Rattle.std.proofs.lemmas.Bool.{and_parts}
use native.Mathlib.Decide.{ℕ_discrete}
use borrow.Author.Differences.{ints}
use Rattle.ae_base.specs.Decided.{pick}
use Rattle.ae_base.proofs.Decided.{pick_yes, pick_no}
use Rattle.ae_base.proofs.ListFacts.{value_at}
use Rattle.ae_store.proofs.StoreLaws.{name_term}
use Rattle.ae_base.proofs.AllOf.{all_append, all_weaker}
use Rattle.ae_math.specs.Fractions.{ℚ, zero_ℚ, one_ℚ, neg_ℚ, inverse_ℚ, frac, ratio, ◌+ℚ◌, ◌*ℚ◌}
use Rattle.ae_math.specs.Forms.{Form, number, single, plus, scale, minus, is_zero, factor_in, sum_of, value}
use Rattle.ae_math.proofs.FractionLaws.{add_zero_q, zero_add_q, mul_zero_q, zero_mul_q, one_mul_q'}
use Rattle.ae_math.proofs.Wholes.{one_whole, zero_whole, whole_same, ratio_is_zero, ratio_of_zero}
use Rattle.ae_math.proofs.FormLaws.{value-same, same_refl, same_trans, plus-same, scale-same, zero_plus, plus_comm, scale_one, is_zero_yes, is_zero_no, zero_is}
use Rattle.ae_core.specs.Decided.{Term_discrete}
use Rattle.ae_core.specs.declared.terms.Term.{Term, Num}
use Rattle.ae_num.specs.Forms.{SameMeaning}
use Rattle.ae_rules.specs.Linear.{Linear, IsSame, is_number, factor_of, times, over}
use Rattle.ae_journal.specs.Values.{enter, put_part, settled, scaled, IsSettled, Above}
use Rattle.ae_evaluation.proofs.Sums.{factor-settled, settles}
use Rattle.ae_store.specs.Terms.{named, HasOneName}
use Rattle.ae_constants.specs.Forms.{over_terms, IsExact}

module _ (ts : List Term) where
  -- how often a name's term is u
  abbrev of_term : Term → ℕ → ℚ
  of_term u k = pick (Term_discrete (named ts k) u) one_ℚ zero_ℚ

  factor_over : (u : Term) (ps : List (ℕ × ℚ)) → factor_in Term_discrete (map (λ p. (named ts p.0, p.1)) ps) u ≡ sum_of (of_term u) ps
  factor_over u [] = refl
  factor_over u (p ∷ ps) =
      let rest = factor_in Term_discrete (map {B = Term × ℚ} (λ p. (named ts p.0, p.1)) ps) u in
      elim (Term_discrete (named ts p.0) u) as (λ d. pick d (p.1 +ℚ rest) rest ≡ p.1 *ℚ pick d one_ℚ zero_ℚ +ℚ sum_of (of_term u) ps) [
        | yes e ↦ (λ i. sym (one_mul_q' p.1) i +ℚ factor_over u ps i)
        | no n ↦ factor_over u ps ∙ sym ((λ i. mul_zero_q p.1 i +ℚ sum_of (of_term u) ps) ∙ zero_add_q _)
      ]

  over_value : (u : Term) (f : Form ℕ) → factor_of (over_terms ts f) u ≡ value (of_term u) zero_ℚ f
  over_value u f = factor_over u f.parts ∙ sym (ap (λ x. sum_of (of_term u) f.parts +ℚ x) (zero_mul_q f.constant) ∙ add_zero_q _)

  over_same : (f g : Form ℕ) → SameMeaning f g → IsSame (over_terms ts f) (over_terms ts g)
  over_same f g s = record { factors = λ u. over_value u f ∙ value-same ℕ_discrete (of_term u) zero_ℚ f g s ∙ sym (over_value u g); constants = s.constants }

  over_scaled : (x : ℚ) (ps : List (ℕ × ℚ)) → map {B = Term × ℚ} (λ p. (named ts p.0, p.1)) (scaled x ps) ≡ map (λ p. (p.0, x *ℚ p.1)) (map {B = Term × ℚ} (λ p. (named ts p.0, p.1)) ps)
  over_scaled x [] = refl
  over_scaled x (p ∷ ps) = λ i. (named ts p.0, x *ℚ p.1) ∷ over_scaled x ps i

  over_sum : (x : ℚ) (f s : Form ℕ) → over_terms ts (plus (scale x f) s) ≡ plus (scale x (over_terms ts f)) (over_terms ts s)
  over_sum x f s =
      let parts = map-append {B = Term × ℚ} (λ (p : ℕ × ℚ). (named ts p.0, p.1)) (scaled x f.parts) s.parts
      ∙ ap (λ ps. ps ++ map {B = Term × ℚ} (λ p. (named ts p.0, p.1)) s.parts) (over_scaled x f.parts) in
      λ i. record { parts = parts i; constant = x *ℚ f.constant +ℚ s.constant }

-- ---- the names of a settled sum are among those of the sum
module _ (n : ℕ) where
  abbrev Under : List (ℕ × ℚ) → Type 0
  Under ps = AllByRecursion (λ p. p.0 < n) ps

  under_either : (b : Bool) (ps qs : List (ℕ × ℚ)) → Under ps → Under qs → Under (cond b ps qs)
  under_either true ps qs a c = a
  under_either false ps qs a c = c

  under_put : (k : ℕ) (x : ℚ) (ps : List (ℕ × ℚ)) → k < n → Under ps → Under (put_part k x ps)
  under_put k x ps h a = under_either (is_zero x) ps ((k, x) ∷ ps) a (h, a)

  under_entered : (k : ℕ) (x : ℚ) (ps : List (ℕ × ℚ)) → k < n → Under ps → Under (enter k x ps)
  under_entered k x [] h a = under_put k x [] h a
  under_entered k x (p ∷ ps) h a =
      under_either (nat_lt p.0 k) (p ∷ enter k x ps) (cond (nat_lt k p.0) (put_part k x (p ∷ ps)) (put_part k (x +ℚ p.1) ps)) (a.0, under_entered k x ps h a.1)
      (under_either (nat_lt k p.0) (put_part k x (p ∷ ps)) (put_part k (x +ℚ p.1) ps) (under_put k x (p ∷ ps) h a) (under_put k (x +ℚ p.1) ps h a.1))

  under_settled : (ps : List (ℕ × ℚ)) → Under ps → Under (settled ps)
  under_settled [] a = tt
  under_settled (p ∷ ps) a = under_entered p.0 p.1 (settled ps) a.0 (under_settled ps a.1)

  under_scaled : (x : ℚ) (ps : List (ℕ × ℚ)) → Under ps → Under (scaled x ps)
  under_scaled x [] a = tt
  under_scaled x (p ∷ ps) a = (a.0, under_scaled x ps a.1)

-- ---- exact forms
pub exact_same : (ts : List Term) (n : ℕ) (g h : Linear) (f : Form ℕ) → IsExact ts n g f → IsSame g h → IsExact ts n h f
exact_same ts n g h f e s = record { settled = e.settled; within = e.within; means = same_trans Term_discrete (over_terms ts f) g h e.means s }

pub number_exact : (ts : List Term) (n : ℕ) (x : ℚ) → IsExact ts n (number x) (record { parts = []; constant = x })
number_exact ts n x = record { settled = tt; within = tt; means = same_refl Term_discrete (number x) }

one_not_zero : one_ℚ ≢ zero_ℚ
one_not_zero e = let f : pos 1 ≡ pos 0 = whole_same (pos 1) (pos 0) (sym one_whole ∙ e ∙ zero_whole) in cc

pub single_exact : (ts : List Term) (n k : ℕ) → k < n → IsExact ts n (single (named ts k)) (record { parts = (k, one_ℚ) ∷ []; constant = zero_ℚ })
single_exact ts n k h = record { settled = (one_not_zero, tt, tt); within = (h, tt); means = same_refl Term_discrete (single (named ts k)) }

pub joined_exact : (ts : List Term) (n : ℕ) (x : ℚ) (g h : Linear) (s f r : Form ℕ) → IsExact ts n g s → IsExact ts n h f → r.parts ≡ settled (scaled x f.parts ++ s.parts)
    → r.constant ≡ x *ℚ f.constant +ℚ s.constant → IsExact ts n (plus g (scale x h)) r
joined_exact ts n x g h s f r a b e c =
    let w : Form ℕ = plus (scale x f) s in
    let same : SameMeaning r w = record { factors = λ j. ap (λ ps. factor_in ℕ_discrete ps j) e ∙ factor-settled (scaled x f.parts ++ s.parts) j; constants = c } in
    let over : IsSame (over_terms ts r) (plus (scale x (over_terms ts f)) (over_terms ts s)) = subst (IsSame (over_terms ts r)) (over_sum ts x f s) (over_same ts r w same) in
    let parts : IsSame (plus (scale x (over_terms ts f)) (over_terms ts s)) (plus (scale x h) g) =
    plus-same Term_discrete (scale x (over_terms ts f)) (scale x h) (over_terms ts s) g (scale-same Term_discrete x (over_terms ts f) h b.means) a.means in
    record {
      settled = subst IsSettled (sym e) (settles (scaled x f.parts ++ s.parts));
      within = subst (Under n) (sym e) (under_settled n (scaled x f.parts ++ s.parts) (all_append (λ p. p.0 < n) (scaled x f.parts) s.parts (under_scaled n x f.parts b.within) a.within));
      means =
          same_trans Term_discrete (over_terms ts r) (plus (scale x h) g) (plus g (scale x h))
          (same_trans Term_discrete (over_terms ts r) (plus (scale x (over_terms ts f)) (over_terms ts s)) (plus (scale x h) g) over parts)
          (plus_comm Term_discrete (scale x h) g);
    }

pub multiple_exact : (ts : List Term) (n : ℕ) (x : ℚ) (h : Linear) (f r : Form ℕ) → IsExact ts n h f → r.parts ≡ settled (scaled x f.parts ++ [])
    → r.constant ≡ x *ℚ f.constant +ℚ zero_ℚ → IsExact ts n (scale x h) r
multiple_exact ts n x h f r b e c =
    exact_same ts n (plus (number zero_ℚ) (scale x h)) (scale x h) r
    (joined_exact ts n x (number zero_ℚ) h (record { parts = []; constant = zero_ℚ }) f r (number_exact ts n zero_ℚ) b e c) (zero_plus Term_discrete (scale x h))

pub combined_exact : (ts : List Term) (n : ℕ) (x : ℚ) (g h : Linear) (l s f r : Form ℕ) → IsExact ts n g l → IsExact ts n h f
    → s.parts ≡ settled (scaled one_ℚ l.parts ++ []) → s.constant ≡ one_ℚ *ℚ l.constant +ℚ zero_ℚ
    → r.parts ≡ settled (scaled x f.parts ++ s.parts) → r.constant ≡ x *ℚ f.constant +ℚ s.constant → IsExact ts n (plus g (scale x h)) r
combined_exact ts n x g h l s f r a b e c i j =
    let first : IsExact ts n g s = exact_same ts n (scale one_ℚ g) g s (multiple_exact ts n one_ℚ g l s a e c) (scale_one Term_discrete g) in
    joined_exact ts n x g h s f r first b i j

-- ---- which forms are numbers
-- a form that is a number has no factor
no_factor : (F : Term → ℚ) (ps : List (Term × ℚ)) (u : Term) → list_all (λ p. is_zero (F p.0)) ps ≡ true → (F u ≡ zero_ℚ) ⊎ (factor_in Term_discrete ps u ≡ zero_ℚ)
no_factor F [] u e = inr refl
no_factor F (p ∷ ps) u e =
    let s = and_parts (is_zero (F p.0)) (list_all (λ q. is_zero (F q.0)) ps) e in
    elim (Term_discrete p.0 u) as (λ d. (F u ≡ zero_ℚ) ⊎ (pick d (p.1 +ℚ factor_in Term_discrete ps u) (factor_in Term_discrete ps u) ≡ zero_ℚ)) [
      | yes f ↦ inl (ap F (sym f) ∙ zero_is (F p.0) s.0)
      | no n ↦ no_factor F ps u s.1
    ]

number_factor : (g : Linear) → is_number g ≡ true → (u : Term) → factor_of g u ≡ zero_ℚ
number_factor g c u = elim (no_factor (factor_of g) g.parts u c) [ inl p ↦ p | inr p ↦ p ]

module _ (ts : List Term) (one : HasOneName ts) where
  names_apart : (j k : ℕ) → j < length ts → k < length ts → named ts j ≡ named ts k → j ≡ k
  names_apart j k p q e =
      let s = value_at ts j p in
      let t = value_at ts k q in
      let same : s.0 ≡ t.0 = sym (name_term ts j s.0 s.1) ∙ e ∙ name_term ts k t.0 t.1 in
      one j k t.0 (s.1 ∙ ap Some same) t.1

  named_above : (k : ℕ) (ps : List (ℕ × ℚ)) → k < length ts → Under (length ts) ps → Above k ps → factor_in Term_discrete (map {B = Term × ℚ} (λ p. (named ts p.0, p.1)) ps) (named ts k) ≡ zero_ℚ
  named_above k [] h u a = refl
  named_above k (p ∷ ps) h u a =
      pick_no (Term_discrete (named ts p.0) (named ts k)) _ _ (λ e. omega (arith, a.0, names_apart p.0 k u.0 h e)) ∙ named_above k ps h u.1 a.1

  named_first : (p : ℕ × ℚ) (ps : List (ℕ × ℚ)) → Under (length ts) (p ∷ ps) → IsSettled (p ∷ ps)
      → factor_in Term_discrete (map {B = Term × ℚ} (λ p. (named ts p.0, p.1)) (p ∷ ps)) (named ts p.0) ≡ p.1
  named_first p ps u s = pick_yes (Term_discrete (named ts p.0) (named ts p.0)) _ _ refl ∙ ap (λ x. p.1 +ℚ x) (named_above p.0 ps u.0 u.1 s.1) ∙ add_zero_q p.1

  pub parts_of_number : (n : ℕ) (g : Linear) (f : Form ℕ) → n ≤ length ts → IsExact ts n g f → is_number g ≡ true → f.parts ≡ []
  parts_of_number n g f l e c = by_parts f.parts e.settled (all_weaker (λ p. p.0 < n) (λ p. p.0 < length ts) (λ p h. omega arith) f.parts e.within) (λ u. e.means.factors u ∙ number_factor g c u)
    where
      by_parts : (ps : List (ℕ × ℚ)) → IsSettled ps → Under (length ts) ps → ((u : Term) → factor_in Term_discrete (map {B = Term × ℚ} (λ p. (named ts p.0, p.1)) ps) u ≡ zero_ℚ) → ps ≡ []
      by_parts [] s u z = refl
      by_parts (p ∷ ps) s u z = absurd (s.0 (sym (named_first p ps u s) ∙ z (named ts p.0)))

  all_zero : (F : Term → ℚ) → ((u : Term) → F u ≡ zero_ℚ) → (ps : List (Term × ℚ)) → list_all (λ p. is_zero (F p.0)) ps ≡ true
  all_zero F z [] = refl
  all_zero F z (p ∷ ps) = ap (λ b. b && list_all (λ q. is_zero (F q.0)) ps) (is_zero_yes (F p.0) (z p.0)) ∙ all_zero F z ps

  pub number_of_parts : (n : ℕ) (g : Linear) (f : Form ℕ) → IsExact ts n g f → f.parts ≡ [] → is_number g ≡ true
  number_of_parts n g f e none =
      all_zero (factor_of g) (λ u. sym (e.means.factors u) ∙ ap (λ ps. factor_in Term_discrete (map {B = Term × ℚ} (λ p. (named ts p.0, p.1)) ps) u) none) g.parts

-- ---- the number 1
pub one_ratio : ratio (pos 1) (pos 1) ≡ one_ℚ
unfolding one_ℚ frac
one_ratio = refl

-- ---- products and quotients
module _ (ts : List Term) (one : HasOneName ts) (n : ℕ) (l : n ≤ length ts) (w : Term) (g h : Linear) (f k r : Form ℕ) (a : IsExact ts n g f) (b : IsExact ts n h k) where
  is_false : (b : Bool) → (b ≡ true → ⊥) → b ≡ false
  is_false true m = absurd (m refl)
  is_false false m = refl

  pub times_left : f.parts ≡ [] → IsExact ts n (scale f.constant h) r → IsExact ts n (times w g h) r
  times_left e x =
      subst (λ b. IsExact ts n (cond b (scale g.constant h) (cond (is_number h) (scale h.constant g) (single w))) r) (sym (number_of_parts ts one n g f a e))
      (subst (λ c. IsExact ts n (scale c h) r) a.means.constants x)

  pub times_right : (f.parts ≡ [] → ⊥) → k.parts ≡ [] → IsExact ts n (scale k.constant g) r → IsExact ts n (times w g h) r
  times_right m e x =
      subst (λ b. IsExact ts n (cond b (scale g.constant h) (cond (is_number h) (scale h.constant g) (single w))) r) (sym (is_false (is_number g) (λ c. m (parts_of_number ts one n g f l a c))))
      (subst (λ b. IsExact ts n (cond b (scale h.constant g) (single w)) r) (sym (number_of_parts ts one n h k b e)) (subst (λ c. IsExact ts n (scale c g) r) b.means.constants x))

  pub times_opaque : (f.parts ≡ [] → ⊥) → (k.parts ≡ [] → ⊥) → IsExact ts n (single w) r → IsExact ts n (times w g h) r
  times_opaque m o x =
      subst (λ b. IsExact ts n (cond b (scale g.constant h) (cond (is_number h) (scale h.constant g) (single w))) r) (sym (is_false (is_number g) (λ c. m (parts_of_number ts one n g f l a c))))
      (subst (λ b. IsExact ts n (cond b (scale h.constant g) (single w)) r) (sym (is_false (is_number h) (λ c. o (parts_of_number ts one n h k l b c)))) x)

pub over_numeral : (ts : List Term) (n : ℕ) (w : Term) (g : Linear) (r : Form ℕ) (a b : ℤ) (real : Bool) → a ≢ pos 0 → pos 0 <ℤ b → IsExact ts n (scale (inverse_ℚ (ratio a b)) g) r
    → IsExact ts n (over w g (Num a b real)) r
over_numeral ts n w g r a b real m p x =
    subst (λ z. IsExact ts n (cond z (single w) (scale (inverse_ℚ (ratio a b)) g)) r) (sym (is_zero_no (ratio a b) (λ e. m (ratio_is_zero a b p e)))) x

pub ratio_none : (a b : ℤ) → (pos 0 <ℤ b → a ≡ pos 0) → ratio a b ≡ zero_ℚ
ratio_none a (pos zero) h = refl
ratio_none a (negsuc m) h = refl
ratio_none a (pos (suc m)) h = ap (λ z. ratio z (pos (suc m))) (h (omega (arith, ints))) ∙ ratio_of_zero (pos (suc m))

pub over_none : (ts : List Term) (n : ℕ) (w : Term) (g : Linear) (r : Form ℕ) (a b : ℤ) (real : Bool) → (pos 0 <ℤ b → a ≡ pos 0) → IsExact ts n (single w) r
    → IsExact ts n (over w g (Num a b real)) r
over_none ts n w g r a b real h x =
    subst (λ z. IsExact ts n (cond z (single w) (scale (inverse_ℚ (ratio a b)) g)) r) (sym (is_zero_yes (ratio a b) (ratio_none a b h))) x

-- ---- sums and differences, and names up to a greater number
pub minus_exact : (ts : List Term) (n : ℕ) (g h : Linear) (x : ℚ) (r : Form ℕ) → x ≡ neg_ℚ one_ℚ → IsExact ts n (plus g (scale x h)) r → IsExact ts n (minus g h) r
minus_exact ts n g h x r e a = subst (λ y. IsExact ts n (plus g (scale y h)) r) e a

pub plus_exact : (ts : List Term) (n : ℕ) (g h : Linear) (x : ℚ) (r : Form ℕ) → x ≡ one_ℚ → IsExact ts n (plus g (scale x h)) r → IsExact ts n (plus g h) r
plus_exact ts n g h x r e a =
    exact_same ts n (plus g (scale one_ℚ h)) (plus g h) r (subst (λ y. IsExact ts n (plus g (scale y h)) r) e a)
    (plus-same Term_discrete g g (scale one_ℚ h) h (same_refl Term_discrete g) (scale_one Term_discrete h))

pub exact_wider : (ts : List Term) (m n : ℕ) (g : Linear) (f : Form ℕ) → m ≤ n → IsExact ts m g f → IsExact ts n g f
exact_wider ts m n g f l e = record { settled = e.settled; within = all_weaker (λ p. p.0 < m) (λ p. p.0 < n) (λ p h. omega arith) f.parts e.within; means = e.means }
