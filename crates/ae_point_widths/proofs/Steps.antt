-- The steps of the making of a point are licensed.
use Rattle.std.specs.Prelude.{ℕ, ◌<◌, ◌≡◌, ◌⊎◌, true, false, List, Option, Some, None, map}
use Rattle.std.proofs.Common.{refl, sym, ◌∙◌, subst, inl, inr}
use Rattle.ae_math.specs.Fractions.{ℚ, one_ℚ, neg_ℚ, inverse_ℚ, ◌+ℚ◌, ratio}
use Rattle.ae_math.specs.Forms.{Form}
use Rattle.ae_num.specs.declared.forms.Part.{Part}
use Rattle.ae_num.specs.declared.forms.Lin.{Lin}
use Rattle.ae_num.specs.Forms.{meaning}
use Rattle.ae_rows.specs.Rows.{factor_at, IsLower, IsUpper, LowerBound, UpperBound, IsChoice}
use Rattle.ae_rows.proofs.Elimination.{positive_nonzero}
use Rattle.ae_journal.specs.Values.{Sum, settled, sum_of_lin}
use Rattle.ae_journal.specs.TermValues.{IsLargest}
use Rattle.ae_journal.specs.Standing.{Setting}
use Rattle.ae_journal.specs.Points.{constant_sum, half, NoneLeft, AreConstants}
use Rattle.ae_journal.specs.Licences.{IsLicensedStep, IsLicensed}
use Rattle.ae_journal.specs.Licences.IsLicensedStep.{put_constant, make_bound, two_bounds, beyond_bound, take_mean}
use Rattle.ae_journal.specs.declared.lines.Line.{Line}
use Rattle.ae_journal.specs.declared.answers.NumStep.{NumStep}
use Rattle.ae_journal.specs.declared.answers.NumStep.TheVariants.{Plus, Scale, Subst}
use Rattle.ae_journal.specs.declared.answers.WideAt.{WideAt}
use Rattle.ae_combine_lines.proofs.Sums.{factor_in_sum}
use Rattle.ae_ineq.specs.Widths.{IsAmount, IsRowStep, IsBoundStep, IsPointStep, IsPointWide}
use Rattle.ae_ineq.specs.Widths.IsRowStep.{put_value, divide}
use Rattle.ae_ineq.specs.Widths.IsBoundStep.{compare, add, halve, above, beneath}
use Rattle.ae_ineq.specs.Widths.IsPointStep.{of_row, of_bounds}
use Rattle.ae_point_widths.specs.Laws.{AreRowsOf}
use Rattle.ae_point_widths.proofs.Putting.{placed_put}
use Rattle.ae_point_widths.proofs.Bounds.{negative_some, is_largest, lower_bound, upper_bound, greatest, least, constant_for}

number_sum : (l : Lin) (y : ℚ) → IsAmount l y → constant_sum y ≡ sum_of_lin l
number_sum l y a = λ i. record { parts = settled (map (λ (p : Part). (p.key, ratio p.factor l.den)) (sym a.bare i)); constant = sym a.value i }

module _ (x : Setting) (js : List Line) (R : Form ℕ → Type 0) (rows : AreRowsOf x js R) (none : NoneLeft x js) (e : ℕ → ℚ) (n : ℕ) (chosen : (k : ℕ) → k < n → IsChoice (LowerBound R e k) (UpperBound R e k) (e k)) where
  constants : AreConstants x js e n
  constants = (none, λ k h. constant_for x js R rows e k (e k) (chosen k h))

  -- the operands in the one spelling
  of_numbers : (s : NumStep) (l r : Lin) (k : Option ℕ) (y z : ℚ) → IsAmount l y → IsAmount r z → IsLicensedStep x js s (constant_sum y) k (constant_sum z) → IsLicensedStep x js s (sum_of_lin l) k (sum_of_lin r)
  of_numbers s l r k y z a b h =
      subst (λ (f : Sum). IsLicensedStep x js s f k (sum_of_lin r)) (number_sum l y a) (subst (λ (g : Sum). IsLicensedStep x js s (constant_sum y) k g) (number_sum r z b) h)

  largest : (row : Lin) → R (meaning row) → IsLower n (meaning row) ⊎ IsUpper n (meaning row) → IsLargest x.names n (sum_of_lin row)
  largest row h (inl l) = is_largest x js R rows e n (meaning row) h (positive_nonzero (factor_at n (meaning row)) l.sign) l.largest
  largest row h (inr u) = is_largest x js R rows e n (meaning row) h (negative_some (factor_at n (meaning row)) u.sign) u.largest

  row_step : (row : Lin) (s : NumStep) (l : Lin) (k : Option ℕ) (r : Lin) → R (meaning row) → IsLower n (meaning row) ⊎ IsUpper n (meaning row) → IsRowStep e n row s l k r → IsLicensedStep x js s (sum_of_lin l) k (sum_of_lin r)
  row_step row _ _ _ _ h o (put_value f v k p m a) =
      subst (λ (g : Sum). IsLicensedStep x js Subst (sum_of_lin f) (Some k) g) (number_sum v (e k) a)
      (put_constant e n k (rows.stand (meaning row) h).0 (sum_of_lin row) (sum_of_lin f) constants (rows.stand (meaning row) h).1 (largest row h o) (placed_put e row f p) m)
  row_step row _ _ _ _ h o (divide f rest z p others a b) =
      of_numbers Scale rest z None (meaning f).constant (inverse_ℚ (factor_at n (meaning f))) a b
      (make_bound e n (factor_at n (meaning f)) (meaning f).constant (inverse_ℚ (factor_at n (meaning f))) constants
      (record {
        strict = (rows.stand (meaning row) h).0;
        row = sum_of_lin row;
        stands = (rows.stand (meaning row) h).1;
        largest = largest row h o;
        put = sum_of_lin f;
        is_put = placed_put e row f p;
        one = λ t m. factor_in_sum f t ∙ others t m;
        factor_is = factor_in_sum f n;
        rest_is = refl;
      })
      (inl refl))

  bound_step : (s : NumStep) (l : Lin) (k : Option ℕ) (r : Lin) → IsBoundStep (LowerBound R e n) (UpperBound R e n) s l k r → IsLicensedStep x js s (sum_of_lin l) k (sum_of_lin r)
  bound_step _ _ _ _ (compare y z l r (inl (b, c)) a d) =
      of_numbers Plus l r None y (neg_ℚ z) a d (two_bounds e n true true y z (neg_ℚ z) constants (lower_bound x js R rows e n y b) (lower_bound x js R rows e n z c) (inr refl))
  bound_step _ _ _ _ (compare y z l r (inr (b, c)) a d) =
      of_numbers Plus l r None y (neg_ℚ z) a d (two_bounds e n false false y z (neg_ℚ z) constants (upper_bound x js R rows e n y b) (upper_bound x js R rows e n z c) (inr refl))
  bound_step _ _ _ _ (add y z l r b c a d) =
      of_numbers Plus l r None y z a d (two_bounds e n true false y z z constants (lower_bound x js R rows e n y b) (upper_bound x js R rows e n z c) (inl refl))
  bound_step _ _ _ _ (halve y z l r g m a d) = of_numbers Scale l r None (y +ℚ z) half a d (take_mean e n y z constants (greatest x js R rows e n y g) (least x js R rows e n z m))
  bound_step _ _ _ _ (above y l r b a d) = of_numbers Plus l r None y one_ℚ a d (beyond_bound e n true y one_ℚ constants (lower_bound x js R rows e n y b) (inl refl))
  bound_step _ _ _ _ (beneath y l r b a d) = of_numbers Plus l r None y (neg_ℚ one_ℚ) a d (beyond_bound e n false y (neg_ℚ one_ℚ) constants (upper_bound x js R rows e n y b) (inr refl))

  pub point_step : (s : NumStep) (l : Lin) (k : Option ℕ) (r : Lin) → IsPointStep R e n s l k r → IsLicensedStep x js s (sum_of_lin l) k (sum_of_lin r)
  point_step _ _ _ _ (of_row row s l k r h o st) = row_step row s l k r h o st
  point_step _ _ _ _ (of_bounds s l k r st) = bound_step s l k r st

pub licensed : (x : Setting) (js : List Line) (R : Form ℕ → Type 0) → AreRowsOf x js R → NoneLeft x js → (w : WideAt) → IsPointWide R w → IsLicensed x js w
licensed x js R rows none w p = record {
  normal = (p.wide).normal;
  wide = (p.wide).wide;
  forms = inl (point_step x js R rows none p.values p.name p.chosen w.step w.left w.key w.right (p.wide).step);
}
