-- The widths of the making of a point aren't those of combinations.
use Rattle.std.specs.Prelude.{ℕ, ◌≡◌, ◌≢◌, Option, List}
use Rattle.std.proofs.Common.{inl, inr}
use Rattle.ae_math.specs.Fractions.{ℚ}
use Rattle.ae_math.specs.Forms.{Form}
use Rattle.ae_num.specs.declared.forms.Lin.{Lin}
use Rattle.ae_rows.specs.Rows.{LowerBound, UpperBound}
use Rattle.ae_journal.specs.Standing.{Setting}
use Rattle.ae_journal.specs.Licences.{IsLicensed}
use Rattle.ae_journal.specs.declared.answers.NumStep.{NumStep}
use Rattle.ae_journal.specs.declared.answers.NumStep.TheVariants.{Combine}
use Rattle.ae_journal.specs.declared.answers.WideAt.{WideAt}
use Rattle.ae_journal.specs.declared.lines.Line.{Line}
use Rattle.ae_ineq.specs.Widths.{IsRowStep, IsBoundStep, IsPointStep, IsPointWide}
use Rattle.ae_ineq.specs.Widths.IsRowStep.{put_value, divide}
use Rattle.ae_ineq.specs.Widths.IsBoundStep.{compare, add, halve, above, beneath}
use Rattle.ae_ineq.specs.Widths.IsPointStep.{of_row, of_bounds}
use Rattle.ae_bounds.specs.declared.rows.Row.{Row}
use Rattle.ae_bound_lines.proofs.Legal.{licensed}
use Rattle.ae_bound_points.specs.Points.{IsNonzeroRow}
use Rattle.ae_bound_widths.specs.Fractions.{AreFinished}
use Rattle.ae_bound_rest.specs.Laws.{AreAgreed}
use Rattle.ae_bound_solve.specs.Widths.{IsWidth}

row_step : (e : ℕ → ℚ) (n : ℕ) (row : Lin) (s : NumStep) (l : Lin) (k : Option ℕ) (r : Lin) → IsRowStep e n row s l k r → s ≢ Combine
row_step e n row _ _ _ _ (put_value f v k p m a) = λ z. cc
row_step e n row _ _ _ _ (divide f rest z p o a b) = λ z. cc

bound_step : (L U : ℚ → Type 0) (s : NumStep) (l : Lin) (k : Option ℕ) (r : Lin) → IsBoundStep L U s l k r → s ≢ Combine
bound_step L U _ _ _ _ (compare y z l r o a b) = λ w. cc
bound_step L U _ _ _ _ (add y z l r a b c d) = λ w. cc
bound_step L U _ _ _ _ (halve y z l r a b c d) = λ w. cc
bound_step L U _ _ _ _ (above y l r a b c) = λ w. cc
bound_step L U _ _ _ _ (beneath y l r a b c) = λ w. cc

point_step : (R : Form ℕ → Type 0) (e : ℕ → ℚ) (n : ℕ) (s : NumStep) (l : Lin) (k : Option ℕ) (r : Lin) → IsPointStep R e n s l k r → s ≢ Combine
point_step R e n _ _ _ _ (of_row row s l k r a b c) = row_step e n row s l k r c
point_step R e n _ _ _ _ (of_bounds s l k r b) = bound_step (LowerBound R e n) (UpperBound R e n) s l k r b

not_combination : (R : Form ℕ → Type 0) (w : WideAt) → IsPointWide R w → w.step ≢ Combine
not_combination R w p = point_step R p.values p.name w.step w.left w.key w.right (p.wide).step

-- the width of a combination is licensed at once
pub combination_licensed : (x : Setting) (rows : List Row) (js : List Line) (w : WideAt) → IsWidth rows w → w.step ≡ Combine → AreAgreed x js rows → IsLicensed x js w
combination_licensed x rows js w (inl d) e a = licensed x rows js w a.standing d
combination_licensed x rows js w (inr p) e a = absurd (not_combination (IsNonzeroRow rows) w p.0 e)

-- another one is of the making of a point
pub making_of : (rows : List Row) (w : WideAt) → IsWidth rows w → w.step ≢ Combine → IsPointWide (IsNonzeroRow rows) w × AreFinished rows
making_of rows w (inl d) m = absurd (m d.step)
making_of rows w (inr p) m = p
