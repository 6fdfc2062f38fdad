-- The widths that are licensed.
use Rattle.std.specs.Prelude.{ℕ, ℤ, pos, negsuc, ◌<◌, ◌^◌, ◌*ℤ◌, neg_ℤ, List, [], ◌∷◌, ◌++◌, ◌≡◌, ◌≢◌, map, unsigned_abs, Some, None}
use Rattle.std.specs.List.{AllByRecursion}
use Rattle.std.proofs.Common.{refl, sym, ap, ◌∙◌, subst, arith, inl}
use native.Mathlib.Decide.{ℕ_discrete}
use borrow.Author.Differences.{ints}
use Rattle.ae_base.proofs.Integers.{size_neg}
use Rattle.ae_math.specs.Fractions.{ℚ, zero_ℚ, one_ℚ, neg_ℚ, inverse_ℚ, ratio, ◌*ℚ◌}
use Rattle.ae_math.specs.Forms.{number as number_form, factor, minus, scale, substitute}
use Rattle.ae_math.proofs.FractionLaws.{cancel_q, mul_neg_q, times_inverse}
use Rattle.ae_math.proofs.FormLaws.{same_refl, same_sym, same_trans, substitute-same}
use Rattle.ae_rules.specs.Linear.{form}
use Rattle.ae_num.specs.Forms.{meaning as form_of, SameMeaning, IsNormal, Product, first_wide, plus_steps, scale_steps, multiple_of, difference_steps, factor_of}
use Rattle.ae_num.specs.declared.forms.Lin.{Lin}
use Rattle.ae_num.specs.declared.forms.Part.{Part}
use Rattle.ae_num.specs.declared.forms.Value.{Number}
use Rattle.ae_num.specs.declared.numbers.Wide.{Wide}
use Rattle.ae_num.proofs.MeaningLaws.{factor_meaning, ratio_zero}
use Rattle.ae_num.proofs.Rests.{after_none, minus_one_ratio}
use Rattle.ae_num.proofs.StepLaws.{fits, past}
use Rattle.ae_journal.specs.Values.{Val, Sum, sum_in, sum_of_lin, minus_val, scale_val, scaled, settled, leaf_factor, constant_val, meaning}
use Rattle.ae_journal.specs.Points.{constant_sum}
use Rattle.ae_journal.specs.Standing.{Setting, value_now}
use Rattle.ae_journal.specs.TermValues.{put_sum, put_leaf, IsLargest}
use Rattle.ae_journal.specs.Licences.{IsLicensed, IsLicensedStep, MayBeSolved, difference, sum_now, opposite_now}
use Rattle.ae_journal.specs.Licences.IsLicensedPlus.{of_sum, of_subtraction, of_difference}
use Rattle.ae_journal.specs.Licences.IsLicensedScale.{of_left_factor, of_right_factor, of_quotient, of_solving}
use Rattle.ae_journal.specs.Licences.IsLicensedSubst.{of_value}
use Rattle.ae_journal.specs.Licences.IsLicensedStep.{a_plus, a_scale, a_subst}
use Rattle.ae_journal.specs.declared.answers.NumStep.TheVariants as step
use Rattle.ae_journal.specs.declared.lines.Oriented.TheVariants as oriented
use Rattle.ae_journal.specs.declared.lines.Line.{Line}
use Rattle.ae_journal.specs.declared.lines.Line.TheVariants as line
use Rattle.ae_journal.specs.declared.systems.System.{System}
use Rattle.ae_linear.specs.Solving.{IsScaling}
use Rattle.ae_linear.proofs.Solutions.{inverse_times, largest_small, ratio_nonzero}
use Rattle.ae_name_lines.proofs.Spelled.{val_of, same_val, multiple_val, difference_val, put_val}
use Rattle.ae_name_lines.proofs.Written.{number_means}
use Rattle.ae_name_licences.specs.Joining.{IsInStepWith, MayJoin, IsNegation}
use Rattle.ae_name_licences.specs.Laws.{NegationsFit, DifferencesAreLicensed, ScalingsAreLicensed, PutsAreLicensed, SumsAreLicensed, SubtractionsAreLicensed, LeftFactorsAreLicensed, RightFactorsAreLicensed, QuotientsAreLicensed}
use Rattle.ae_name_licences.proofs.Now.{number_is}
use Rattle.ae_name_licences.proofs.Legal.{difference_factor, named_largest}

-- ---- the negation
size_negated : (z : ℤ) → unsigned_abs z < 2 ^ 127 → unsigned_abs (z *ℤ negsuc 0) < 2 ^ 127
size_negated z l = let e : z *ℤ negsuc 0 ≡ neg_ℤ z = omega (arith, ints) in subst (λ n. n < 2 ^ 127) (sym (ap unsigned_abs e ∙ size_neg z)) l

size_once : (z : ℤ) → unsigned_abs z < 2 ^ 127 → unsigned_abs (z *ℤ pos 1) < 2 ^ 127
size_once z l = let e : z *ℤ pos 1 ≡ z = omega (arith, ints) in subst (λ (y : ℤ). unsigned_abs y < 2 ^ 127) (sym e) l

parts_fit : (ps : List Part) (c : ℤ) → AllByRecursion (λ n. n < 2 ^ 127) (map (λ (p : Part). unsigned_abs p.factor) ps) → unsigned_abs c < 2 ^ 127
    → first_wide (map (λ (p : Part). Product p.factor (negsuc 0)) ps ++ Product c (negsuc 0) ∷ []) ≡ None
parts_fit [] c a l = past (Product c (negsuc 0)) [] (fits (Product c (negsuc 0)) (size_negated c l))
parts_fit (p ∷ ps) c a l =
    past (Product p.factor (negsuc 0)) (map (λ (q : Part). Product q.factor (negsuc 0)) ps ++ Product c (negsuc 0) ∷ []) (fits (Product p.factor (negsuc 0)) (size_negated p.factor a.0)) ∙ parts_fit ps c a.1 l

pub negations_fit : NegationsFit
negations_fit g n =
    past (Product g.den (pos 1)) (map (λ (p : Part). Product p.factor (negsuc 0)) g.parts ++ Product g.constant (negsuc 0) ∷ []) (fits (Product g.den (pos 1)) (size_once g.den n.within.0))
    ∙ parts_fit g.parts g.constant n.within.1.1 n.within.1.0

-- the negation of a value that is this form
negated_is : (v : Val) (g h : Lin) → sum_in v ≡ sum_of_lin g → IsNegation g h → sum_in (scale_val (neg_ℚ one_ℚ) v) ≡ sum_of_lin h
negated_is v g h e n =
    let same : SameMeaning (scale (neg_ℚ one_ℚ) (form_of g)) (form_of h) =
    same_sym ℕ_discrete (form_of h) (scale (neg_ℚ one_ℚ) (form_of g)) (subst (λ (z : ℚ). SameMeaning (form_of h) (scale z (form_of g))) minus_one_ratio n.means) in
    (λ i. record { parts = settled (scaled (neg_ℚ one_ℚ) (e i).parts); constant = neg_ℚ one_ℚ *ℚ (e i).constant })
    ∙ ap sum_in (multiple_val (neg_ℚ one_ℚ) (form_of g) ∙ same_val (scale (neg_ℚ one_ℚ) (form_of g)) (form_of h) same)

-- the sum with the negation is what is wide
after_negation : (f g h : Lin) (wide : Wide) → IsNormal g → IsNegation g h → first_wide (difference_steps f g) ≡ Some wide → first_wide (plus_steps f h) ≡ Some wide
after_negation f g h wide n i e =
    sym (after_none (scale_steps (negsuc 0) (pos 1) g) (plus_steps f h) (plus_steps f (multiple_of (negsuc 0) (pos 1) g)) (negations_fit g n) (ap (plus_steps f) i.form)) ∙ e

module _ (x : Setting) (js : List Line) where
  plus_licensed : (f h p q : Sum) → IsLicensedStep x js step.Plus f None h → f ≡ p → h ≡ q → IsLicensedStep x js step.Plus p None q
  plus_licensed f h p q l a b = subst (λ (z : Sum × Sum). IsLicensedStep x js step.Plus z.0 None z.1) (λ i. (a i, b i)) l

  scale_licensed : (f h p q : Sum) → IsLicensedStep x js step.Scale f None h → f ≡ p → h ≡ q → IsLicensedStep x js step.Scale p None q
  scale_licensed f h p q l a b = subst (λ (z : Sum × Sum). IsLicensedStep x js step.Scale z.0 None z.1) (λ i. (a i, b i)) l

-- ---- two names to be joined
module _ (x : Setting) (js : List Line) (y : System) (now : IsInStepWith x js y) (f g : Lin) (j : MayJoin x js y (Number f) (Number g)) where
  left_is : value_now x js j.left ≡ val_of (form_of f)
  left_is = number_is x js y now j.first j.left f j.first_is j.first_value

  right_is : value_now x js j.right ≡ val_of (form_of g)
  right_is = number_is x js y now j.second j.right g j.second_is j.second_value

  joined : MayBeSolved x js j.left j.right
  joined = (now.entered j.first j.left j.first_is, now.entered j.second j.right j.second_is, j.follows)

  difference_licensed : (h : Lin) (wide : Wide) → IsNormal f → IsNormal g → IsNegation g h → first_wide (difference_steps f g) ≡ Some wide
      → IsLicensed x js (record { step = step.Plus; left = f; key = None; right = h; wide = wide })
  difference_licensed h wide n m i e = record {
    normal = (n, i.normal);
    wide = after_negation f g h wide m i e;
    forms = inl (plus_licensed x js (sum_now x js j.left) (opposite_now x js j.right) (sum_of_lin f) (sum_of_lin h)
        (a_plus (sum_now x js j.left) (opposite_now x js j.right) (of_difference j.left j.right joined)) (ap sum_in left_is) (negated_is (value_now x js j.right) g h (ap sum_in right_is) i));
  }

  -- ---- the multiple that is the solution
  module _ (d inverse rest : Lin) (n : IsNormal d) (same : SameMeaning (form_of d) (minus (form_of f) (form_of g))) (s : IsScaling d inverse rest) where
    abbrev key : ℕ
    key = s.largest.key

    abbrev share : ℚ
    share = ratio s.largest.factor d.den

    factor_at : (k : ℕ) → factor ℕ_discrete (minus (form_of f) (form_of g)) k ≡ ratio (factor_of d.parts k) d.den
    factor_at k = sym (same.factors k) ∙ factor_meaning d k n.rising

    own : factor ℕ_discrete (minus (form_of f) (form_of g)) s.largest.key ≡ ratio s.largest.factor d.den
    own = factor_at s.largest.key ∙ ap (λ (z : ℤ). ratio z d.den) s.is_largest.factor

    some : ratio s.largest.factor d.den ≢ zero_ℚ
    some = ratio_nonzero s.largest.factor d.den n.positive s.is_largest.nonzero

    largest : IsLargest x.names s.largest.key (sum_in (minus_val (val_of (form_of f)) (val_of (form_of g))))
    largest = named_largest x js y now f g j s.largest.key (λ e. some (sym own ∙ e)) (λ k l. factor_at k ∙ ap (λ (z : ℤ). ratio z d.den) (s.is_largest.above k l) ∙ ratio_zero d.den)

    largest_now : IsLargest x.names s.largest.key (difference x js j.left j.right)
    largest_now = subst (λ (z : Val × Val). IsLargest x.names s.largest.key (sum_in (minus_val z.0 z.1))) (λ i. (sym left_is i, sym right_is i)) largest

    rest_is : put_sum s.largest.key (constant_sum (ratio (pos 0) (pos 1))) (difference x js j.left j.right) ≡ sum_of_lin rest
    rest_is =
        ap sum_in
        ((λ i. put_leaf s.largest.key (constant_val (ratio_zero (pos 1) i)) (minus_val (left_is i) (right_is i)))
        ∙ ap (put_leaf s.largest.key (val_of (number_form zero_ℚ))) (difference_val (form_of f) (form_of g)) ∙ put_val s.largest.key (number_form zero_ℚ) (minus (form_of f) (form_of g))
        ∙ same_val (substitute ℕ_discrete (minus (form_of f) (form_of g)) s.largest.key (number_form zero_ℚ)) (form_of rest)
        (same_trans ℕ_discrete (substitute ℕ_discrete (minus (form_of f) (form_of g)) s.largest.key (number_form zero_ℚ)) (substitute ℕ_discrete (form_of d) s.largest.key (number_form zero_ℚ)) (form_of rest)
        (substitute-same ℕ_discrete (minus (form_of f) (form_of g)) (form_of d) s.largest.key (number_form zero_ℚ) (number_form zero_ℚ)
        (same_sym ℕ_discrete (form_of d) (minus (form_of f) (form_of g)) same) (same_refl ℕ_discrete (number_form zero_ℚ)))
        (same_sym ℕ_discrete (form_of rest) (substitute ℕ_discrete (form_of d) s.largest.key (number_form zero_ℚ)) s.is_rest)))

    times : ratio s.largest.factor d.den *ℚ ratio inverse.constant inverse.den ≡ neg_ℚ one_ℚ
    times =
        subst (λ (l : Lin). ratio s.largest.factor d.den *ℚ ratio l.constant l.den ≡ neg_ℚ one_ℚ) (sym s.by_inverse)
        (inverse_times s.largest.factor d.den n.positive s.is_largest.nonzero (largest_small d s.largest n s.is_largest) n.within.0)

    inverse_value : ratio inverse.constant inverse.den ≡ neg_ℚ (inverse_ℚ (ratio s.largest.factor d.den))
    inverse_value =
        cancel_q (ratio s.largest.factor d.den) (ratio inverse.constant inverse.den) (neg_ℚ (inverse_ℚ (ratio s.largest.factor d.den))) some
        (times ∙ sym (mul_neg_q (ratio s.largest.factor d.den) (inverse_ℚ (ratio s.largest.factor d.den)) ∙ ap neg_ℚ (times_inverse (ratio s.largest.factor d.den) some)))

    share_is : leaf_factor (difference x js j.left j.right).parts s.largest.key ≡ ratio s.largest.factor d.den
    share_is = (λ i. leaf_factor (sum_in (minus_val (left_is i) (right_is i))).parts s.largest.key) ∙ difference_factor (form_of f) (form_of g) s.largest.key ∙ own

    inverse_is : constant_sum (neg_ℚ (inverse_ℚ (leaf_factor (difference x js j.left j.right).parts s.largest.key))) ≡ sum_of_lin inverse
    inverse_is =
        let none : inverse.parts ≡ [] = ap (λ (l : Lin). l.parts) s.by_inverse in
        ap (λ (z : ℚ). constant_sum (neg_ℚ (inverse_ℚ z))) share_is
        ∙ (λ i. record { parts = settled (map (λ (p : Part). (p.key, ratio p.factor inverse.den)) (sym none i)); constant = sym inverse_value i })

    scaling_licensed : (wide : Wide) → IsNormal inverse → first_wide (scale_steps inverse.constant inverse.den rest) ≡ Some wide
        → IsLicensed x js (record { step = step.Scale; left = rest; key = None; right = inverse; wide = wide })
    scaling_licensed wide m e = record {
      normal = (s.normal, m);
      wide = e;
      forms = inl (scale_licensed x js (put_sum s.largest.key (constant_sum (ratio (pos 0) (pos 1))) (difference x js j.left j.right))
          (constant_sum (neg_ℚ (inverse_ℚ (leaf_factor (difference x js j.left j.right).parts s.largest.key)))) (sum_of_lin rest) (sum_of_lin inverse)
          (a_scale (put_sum s.largest.key (constant_sum (ratio (pos 0) (pos 1))) (difference x js j.left j.right)) (neg_ℚ (inverse_ℚ (leaf_factor (difference x js j.left j.right).parts s.largest.key)))
          (of_solving j.left j.right s.largest.key joined largest_now)) rest_is inverse_is);
    }

pub differences_are_licensed : DifferencesAreLicensed
differences_are_licensed x js y f g h wide now j n m i e = difference_licensed x js y now f g j h wide n m i e

pub scalings_are_licensed : ScalingsAreLicensed
scalings_are_licensed x js y f g d inverse rest wide now j n same s m e = scaling_licensed x js y now f g j d inverse rest n same s wide m e

-- ---- values that are put
pub puts_are_licensed : PutsAreLicensed
puts_are_licensed x js y n name t f q wide now i a p r e = record {
  normal = (p, r);
  wide = e;
  forms = inl (subst (λ (z : Sum × Sum). IsLicensedStep x (js ++ line.Orient (oriented.Named name (Number q)) ∷ []) step.Subst z.0 (Some name) z.1) (λ k. (sum_in (number_is x js y now n t f i a k), sum_in (number_means q k)))
      (a_subst (sum_in (value_now x js t)) (sum_in (meaning (Number q))) name (of_value js name (Number q) t refl (now.entered n t i))));
}

-- ---- values of new names
pub sums_are_licensed : SumsAreLicensed
sums_are_licensed x js a b f g wide h p q n m e = record {
  normal = (n, m);
  wide = e;
  forms = inl (plus_licensed x js (sum_now x js a) (sum_now x js b) (sum_of_lin f) (sum_of_lin g) (a_plus (sum_now x js a) (sum_now x js b) (of_sum a b h)) p q);
}

pub subtractions_are_licensed : SubtractionsAreLicensed
subtractions_are_licensed x js a b f g k wide h p q n m i e = record {
  normal = (n, i.normal);
  wide = after_negation f g k wide m i e;
  forms = inl (plus_licensed x js (sum_now x js a) (opposite_now x js b) (sum_of_lin f) (sum_of_lin k) (a_plus (sum_now x js a) (opposite_now x js b) (of_subtraction a b h)) p (negated_is (value_now x js b) g k q i));
}

pub left_factors_are_licensed : LeftFactorsAreLicensed
left_factors_are_licensed x js a b f by wide h c is p n m e = record {
  normal = (n, m);
  wide = e;
  forms = inl (scale_licensed x js (sum_now x js a) (constant_sum (form b).constant) (sum_of_lin f) (sum_of_lin by) (a_scale (sum_now x js a) (form b).constant (of_left_factor a b h c)) p (sym is));
}

pub right_factors_are_licensed : RightFactorsAreLicensed
right_factors_are_licensed x js a b f by wide h c is p n m e = record {
  normal = (n, m);
  wide = e;
  forms = inl (scale_licensed x js (sum_now x js b) (constant_sum (form a).constant) (sum_of_lin f) (sum_of_lin by) (a_scale (sum_now x js b) (form a).constant (of_right_factor a b h c)) p (sym is));
}

pub quotients_are_licensed : QuotientsAreLicensed
quotients_are_licensed x js ss a top bottom real f by wide h z is p n m e = record {
  normal = (n, m);
  wide = e;
  forms = inl (scale_licensed x js (sum_now x js a) (constant_sum (inverse_ℚ (ratio top bottom))) (sum_of_lin f) (sum_of_lin by) (a_scale (sum_now x js a) (inverse_ℚ (ratio top bottom)) (of_quotient ss a top bottom real h z)) p (sym is));
}
