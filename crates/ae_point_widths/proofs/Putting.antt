-- Constants put for names of a sum.
use Rattle.std.specs.Prelude.{ℕ, ◌≡◌, ◌≢◌, ◌⊎◌, cond, List, [], ◌∷◌, ◌++◌}
use Rattle.std.specs.List.{AllByRecursion}
use Rattle.std.proofs.Common.{refl, sym, ap, ◌∙◌, subst, inl, inr}
use Rattle.std.proofs.lemmas.Bool.{eq-eqb, ne_eqb}
use native.Mathlib.Decide.{ℕ_discrete}
use Rattle.ae_math.specs.Fractions.{ℚ, zero_ℚ, one_ℚ, ◌+ℚ◌, ◌*ℚ◌}
use Rattle.ae_math.specs.Forms.{SameForm, number, substitute, value}
use Rattle.ae_math.proofs.FractionLaws.{add_comm_q, mul_zero_q, add_zero_q}
use Rattle.ae_math.proofs.FormLaws.{value-same, value-substitute, value-number, substitute_gone, substitute_elsewhere}
use Rattle.ae_math.proofs.FractionLaws.{one_mul_q}
use Rattle.ae_num.specs.declared.forms.Lin.{Lin}
use Rattle.ae_num.specs.Forms.{meaning, SameMeaning}
use Rattle.ae_rows.specs.Rows.{factor_at}
use Rattle.ae_journal.specs.Values.{Sum, leaf_factor, scaled, sum_of_lin}
use Rattle.ae_journal.specs.TermValues.{put_in, put_sum}
use Rattle.ae_journal.specs.Points.{constant_sum, IsPut}
use Rattle.ae_journal.specs.Points.IsPut.{as_it_is, one_more}
use Rattle.ae_evaluation.proofs.Sums.{factor-settled, factor_same, factor_other, settles, one_sum}
use Rattle.ae_combine_lines.proofs.Sums.{factor_in_sum}
use Rattle.ae_ineq.specs.Widths.{IsPlaced}
use Rattle.ae_ineq.specs.Widths.IsPlaced.{as_it_is as placed_here, one_more as placed_more}

-- ---- a constant put for one name
put_gone : (n : ℕ) (x : ℚ) (ps : List (ℕ × ℚ)) → leaf_factor (put_in n (constant_sum x) ps) n ≡ zero_ℚ
put_gone n x [] = refl
put_gone n x (p ∷ ps) = by_case (ℕ_discrete p.0 n) (put_gone n x ps)
  where
    by_case : Dec (p.0 ≡ n) → leaf_factor (put_in n (constant_sum x) ps) n ≡ zero_ℚ → leaf_factor (put_in n (constant_sum x) (p ∷ ps)) n ≡ zero_ℚ
    by_case (yes e) ih = ap (λ b. leaf_factor (cond b (scaled p.1 (constant_sum x).parts) (p ∷ []) ++ put_in n (constant_sum x) ps) n) (eq-eqb p.0 n e) ∙ ih
    by_case (no m) ih =
        ap (λ b. leaf_factor (cond b (scaled p.1 (constant_sum x).parts) (p ∷ []) ++ put_in n (constant_sum x) ps) n) (ne_eqb p.0 n m)
        ∙ factor_other n p.0 p.1 (put_in n (constant_sum x) ps) (λ z. m (sym z)) ∙ ih

put_other : (n : ℕ) (x : ℚ) (ps : List (ℕ × ℚ)) (t : ℕ) → n ≢ t → leaf_factor (put_in n (constant_sum x) ps) t ≡ leaf_factor ps t
put_other n x [] t m = refl
put_other n x (p ∷ ps) t m = by_case (ℕ_discrete p.0 n) (ℕ_discrete p.0 t) (put_other n x ps t m)
  where
    by_case : Dec (p.0 ≡ n) → Dec (p.0 ≡ t) → leaf_factor (put_in n (constant_sum x) ps) t ≡ leaf_factor ps t → leaf_factor (put_in n (constant_sum x) (p ∷ ps)) t ≡ leaf_factor (p ∷ ps) t
    by_case (yes e) d ih =
        ap (λ b. leaf_factor (cond b (scaled p.1 (constant_sum x).parts) (p ∷ []) ++ put_in n (constant_sum x) ps) t) (eq-eqb p.0 n e) ∙ ih ∙ sym (factor_other t p.0 p.1 ps (λ z. m (sym (z ∙ e))))
    by_case (no a) (yes e) ih =
        ap (λ b. leaf_factor (cond b (scaled p.1 (constant_sum x).parts) (p ∷ []) ++ put_in n (constant_sum x) ps) t) (ne_eqb p.0 n a)
        ∙ subst (λ (j : ℕ). leaf_factor ((j, p.1) ∷ put_in n (constant_sum x) ps) t ≡ leaf_factor ((j, p.1) ∷ ps) t) (sym e)
        (factor_same t p.1 (put_in n (constant_sum x) ps) ∙ ap (λ y. p.1 +ℚ y) ih ∙ sym (factor_same t p.1 ps))
    by_case (no a) (no b) ih =
        ap (λ b. leaf_factor (cond b (scaled p.1 (constant_sum x).parts) (p ∷ []) ++ put_in n (constant_sum x) ps) t) (ne_eqb p.0 n a)
        ∙ factor_other t p.0 p.1 (put_in n (constant_sum x) ps) (λ z. b (sym z)) ∙ ih ∙ sym (factor_other t p.0 p.1 ps (λ z. b (sym z)))

-- it is the form in which the name is replaced
pub put_same : (n : ℕ) (x : ℚ) (g : Sum) → SameForm ℕ_discrete (put_sum n (constant_sum x) g) (substitute ℕ_discrete g n (number x))
put_same n x g = record {
  factors = λ t. factor-settled (put_in n (constant_sum x) g.parts) t ∙ by_case t (ℕ_discrete n t);
  constants = add_comm_q (leaf_factor g.parts n *ℚ x) g.constant;
}
  where
    by_case : (t : ℕ) → Dec (n ≡ t) → leaf_factor (put_in n (constant_sum x) g.parts) t ≡ factor_at t (substitute ℕ_discrete g n (number x))
    by_case t (yes e) = subst (λ j. leaf_factor (put_in n (constant_sum x) g.parts) j ≡ factor_at j (substitute ℕ_discrete g n (number x))) e (put_gone n x g.parts ∙ sym (substitute_gone ℕ_discrete g n (number x) refl))
    by_case t (no m) =
        put_other n x g.parts t m ∙ sym (substitute_elsewhere ℕ_discrete g n (number x) t m ∙ ap (λ y. leaf_factor g.parts t +ℚ y) (mul_zero_q (leaf_factor g.parts n)) ∙ add_zero_q (leaf_factor g.parts t))

pub put_none : (n : ℕ) (x : ℚ) (g : Sum) → leaf_factor (put_sum n (constant_sum x) g).parts n ≡ zero_ℚ
put_none n x g = factor-settled (put_in n (constant_sum x) g.parts) n ∙ put_gone n x g.parts

pub put_kept : (n : ℕ) (x : ℚ) (g : Sum) (t : ℕ) → n ≢ t → leaf_factor (put_sum n (constant_sum x) g).parts t ≡ leaf_factor g.parts t
put_kept n x g t m = factor-settled (put_in n (constant_sum x) g.parts) t ∙ put_other n x g.parts t m

pub put_value : (e : ℕ → ℚ) (n : ℕ) (g : Sum) → value e one_ℚ (put_sum n (constant_sum (e n)) g) ≡ value e one_ℚ g
put_value e n g =
    value-same ℕ_discrete e one_ℚ (put_sum n (constant_sum (e n)) g) (substitute ℕ_discrete g n (number (e n))) (put_same n (e n) g)
    ∙ value-substitute ℕ_discrete e one_ℚ g n (number (e n)) (sym (value-number e one_ℚ (e n) ∙ one_mul_q (e n)))

-- ---- a form of which the sum is that
pub spelled_put : (f h : Lin) (k : ℕ) (x : ℚ) → SameMeaning (meaning h) (substitute ℕ_discrete (meaning f) k (number x)) → sum_of_lin h ≡ put_sum k (constant_sum x) (sum_of_lin f)
spelled_put f h k x s =
    let parts : (sum_of_lin h).parts ≡ (put_sum k (constant_sum x) (sum_of_lin f)).parts =
    one_sum (sum_of_lin h).parts (put_sum k (constant_sum x) (sum_of_lin f)).parts (settles (meaning h).parts) (settles (put_in k (constant_sum x) (sum_of_lin f).parts)) factors in
    λ i. record { parts = parts i; constant = constants i }
  where
    by_case : (t : ℕ) → Dec (k ≡ t) → factor_at t (substitute ℕ_discrete (meaning f) k (number x)) ≡ leaf_factor (put_sum k (constant_sum x) (sum_of_lin f)).parts t
    by_case t (yes e) =
        subst (λ j. factor_at j (substitute ℕ_discrete (meaning f) k (number x)) ≡ leaf_factor (put_sum k (constant_sum x) (sum_of_lin f)).parts j) e
        (substitute_gone ℕ_discrete (meaning f) k (number x) refl ∙ sym (put_none k x (sum_of_lin f)))
    by_case t (no m) =
        substitute_elsewhere ℕ_discrete (meaning f) k (number x) t m ∙ ap (λ y. factor_at t (meaning f) +ℚ y) (mul_zero_q (factor_at k (meaning f))) ∙ add_zero_q (factor_at t (meaning f))
        ∙ sym (put_kept k x (sum_of_lin f) t m ∙ factor_in_sum f t)

    factors : (t : ℕ) → leaf_factor (sum_of_lin h).parts t ≡ leaf_factor (put_sum k (constant_sum x) (sum_of_lin f)).parts t
    factors t = factor_in_sum h t ∙ s.factors t ∙ by_case t (ℕ_discrete k t)

    constants : (meaning h).constant ≡ leaf_factor (sum_of_lin f).parts k *ℚ x +ℚ (meaning f).constant
    constants = s.constants ∙ add_comm_q (meaning f).constant (factor_at k (meaning f) *ℚ x) ∙ ap (λ y. y *ℚ x +ℚ (meaning f).constant) (sym (factor_in_sum f k))

pub placed_put : (e : ℕ → ℚ) (row f : Lin) → IsPlaced e row f → IsPut e (sum_of_lin row) (sum_of_lin f)
placed_put e row _ placed_here = as_it_is (sum_of_lin row)
placed_put e row _ (placed_more f h k p s) = subst (IsPut e (sum_of_lin row)) (sym (spelled_put f h k (e k) s)) (one_more (sum_of_lin row) (sum_of_lin f) k (placed_put e row f p))

-- ---- constants put for names
pub puts_value : (e : ℕ → ℚ) (f h : Sum) → IsPut e f h → value e one_ℚ h ≡ value e one_ℚ f
puts_value e f _ (as_it_is _) = refl
puts_value e f _ (one_more _ h k p) = put_value e k h ∙ puts_value e f h p

pub puts_factor : (e : ℕ → ℚ) (f h : Sum) (t : ℕ) → IsPut e f h → (leaf_factor h.parts t ≡ leaf_factor f.parts t) ⊎ (leaf_factor h.parts t ≡ zero_ℚ)
puts_factor e f _ t (as_it_is _) = inl refl
puts_factor e f _ t (one_more _ h k p) = by_case (ℕ_discrete k t) (puts_factor e f h t p)
  where
    by_case : Dec (k ≡ t) → (leaf_factor h.parts t ≡ leaf_factor f.parts t) ⊎ (leaf_factor h.parts t ≡ zero_ℚ)
        → (leaf_factor (put_sum k (constant_sum (e k)) h).parts t ≡ leaf_factor f.parts t) ⊎ (leaf_factor (put_sum k (constant_sum (e k)) h).parts t ≡ zero_ℚ)
    by_case (yes d) o = inr (subst (λ j. leaf_factor (put_sum k (constant_sum (e k)) h).parts j ≡ zero_ℚ) d (put_none k (e k) h))
    by_case (no m) (inl a) = inl (put_kept k (e k) h t m ∙ a)
    by_case (no m) (inr z) = inr (put_kept k (e k) h t m ∙ z)

-- all names but one replaced
pub record IsAlone (e : ℕ → ℚ) (n : ℕ) (f h : Sum) : Type 0 where
  pub put : IsPut e f h
  pub one : (t : ℕ) → t ≢ n → leaf_factor h.parts t ≡ zero_ℚ
  pub same : leaf_factor h.parts n ≡ leaf_factor f.parts n

absent : (ps : List (ℕ × ℚ)) (t : ℕ) → AllByRecursion (λ p. p.0 ≢ t) ps → leaf_factor ps t ≡ zero_ℚ
absent [] t a = refl
absent (p ∷ ps) t a = factor_other t p.0 p.1 ps (λ z. a.0 (sym z)) ∙ absent ps t a.1

module _ (e : ℕ → ℚ) (n : ℕ) (f : Sum) where
  clear : (ps : List (ℕ × ℚ)) (h : Sum) → IsPut e f h → leaf_factor h.parts n ≡ leaf_factor f.parts n → ((t : ℕ) → t ≢ n → AllByRecursion (λ p. p.0 ≢ t) ps → leaf_factor h.parts t ≡ zero_ℚ) → (k : Sum) × IsAlone e n f k
  clear [] h p s z = (h, record { put = p; one = λ t m. z t m tt; same = s })
  clear (q ∷ ps) h p s z = by_case (ℕ_discrete q.0 n) (clear ps)
    where
      zeros : (t : ℕ) → t ≢ n → AllByRecursion (λ p. p.0 ≢ t) ps → leaf_factor (put_sum q.0 (constant_sum (e q.0)) h).parts t ≡ zero_ℚ
      zeros t m a = by_name (ℕ_discrete q.0 t)
        where
          by_name : Dec (q.0 ≡ t) → leaf_factor (put_sum q.0 (constant_sum (e q.0)) h).parts t ≡ zero_ℚ
          by_name (yes d) = subst (λ j. leaf_factor (put_sum q.0 (constant_sum (e q.0)) h).parts j ≡ zero_ℚ) d (put_none q.0 (e q.0) h)
          by_name (no b) = put_kept q.0 (e q.0) h t b ∙ z t m (b, a)

      by_case : Dec (q.0 ≡ n)
          → ((h : Sum) → IsPut e f h → leaf_factor h.parts n ≡ leaf_factor f.parts n → ((t : ℕ) → t ≢ n → AllByRecursion (λ p. p.0 ≢ t) ps → leaf_factor h.parts t ≡ zero_ℚ) → (k : Sum) × IsAlone e n f k)
          → (k : Sum) × IsAlone e n f k
      by_case (yes d) ih = ih h p s (λ t m a. z t m ((λ y. m (sym y ∙ d)), a))
      by_case (no b) ih = ih (put_sum q.0 (constant_sum (e q.0)) h) (one_more f h q.0 p) (put_kept q.0 (e q.0) h n b ∙ s) zeros

  pub alone : (k : Sum) × IsAlone e n f k
  alone = clear f.parts f (as_it_is f) refl (λ t m a. absent f.parts t a)
