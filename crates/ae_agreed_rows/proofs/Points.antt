-- A point of the rows satisfies the literals.
use Rattle.std.specs.Prelude.{ℕ, pos, ◌≡◌, ◌⊎◌, Bool, true, List, [], ◌∷◌, map}
use Rattle.std.specs.List.{Contains}
use Rattle.std.proofs.Common.{refl, sym, ap, ◌∙◌, subst, inl, inr}
use native.Mathlib.Decide.{ℕ_discrete}
use lib.IntN.{ℤ_discrete}
use Rattle.ae_math.specs.Fractions.{ℚ, one_ℚ, is_positive, ratio}
use Rattle.ae_math.specs.Forms.{value}
use Rattle.ae_math.proofs.FormLaws.{value-same}
use Rattle.ae_core.specs.declared.formulas.Lit.{Lit}
use Rattle.ae_num.specs.declared.forms.Lin.{Lin}
use Rattle.ae_num.specs.Forms.{meaning, IsNormal}
use Rattle.ae_num.specs.declared.forms.Part.{Part}
use Rattle.ae_evaluation.proofs.Sums.{factor-settled}
use Rattle.ae_journal.specs.Values.{Sum, settled, sum_of_lin}
use Rattle.ae_journal.specs.States.{at_point, IsZeroSum, HoldsAt}
use Rattle.ae_journal.specs.Standing.{Setting}
use Rattle.ae_journal.specs.declared.lines.Line.{Line}
use Rattle.ae_journal.specs.declared.systems.PointAt.{PointAt}
use Rattle.ae_ineq.specs.Sums.{IsZero}
use Rattle.ae_bounds.specs.declared.rows.Row.{Row}
use Rattle.ae_bounds.specs.Rounding.{IsRowOf}
use Rattle.ae_bounds.specs.Rounding.IsRowOf.{as_it_is, rounded}
use Rattle.ae_bounds.proofs.Zeros.{form_zero, zero_form}
use Rattle.ae_bound_points.specs.Points.{ArePositiveAt}
use Rattle.ae_agreed_rows.specs.Kept.{IsKeptFor}
use Rattle.ae_agreed_rows.specs.Laws.{PointsSatisfyLiterals}
use Rattle.ae_agreed_rows.proofs.Agreed.{same_sum}

-- a form is 0 or not
zero_or : (f : Lin) → IsNormal f → IsZero (meaning f) ⊎ (¬ (IsZero (meaning f)))
zero_or f n = by_parts f.parts refl
  where
    by_parts : (ps : List Part) → f.parts ≡ ps → IsZero (meaning f) ⊎ (¬ (IsZero (meaning f)))
    by_parts [] e = elim (ℤ_discrete f.constant (pos 0)) [ yes c ↦ inl (zero_form f e c) | no d ↦ inr (λ z. d (form_zero f n z).1) ]
    by_parts (p ∷ ps) e = inr (λ z. let w : ◌≡◌ {A = List Part} (p ∷ ps) [] = sym e ∙ (form_zero f n z).0 in cc w)

same_value : (e : ℕ → ℚ) (f : Lin) → value e one_ℚ (sum_of_lin f) ≡ value e one_ℚ (meaning f)
same_value e f = value-same ℕ_discrete e one_ℚ (sum_of_lin f) (meaning f) (record { factors = λ k. factor-settled (meaning f).parts k; constants = refl })

zero_sum : (f : Lin) → IsNormal f → IsZero (meaning f) → IsZeroSum (sum_of_lin f)
zero_sum f n z = (ap (λ (ps : List Part). settled (map (λ p. (p.key, ratio p.factor f.den)) ps)) (form_zero f n z).0, z.constant)

module _ (x : Setting) (js : List Line) (l : Lit) (r : Row) (k : IsKeptFor x js l r) (rs : List Row) (ps : List PointAt) (at : ArePositiveAt (at_point ps) rs) (there : Contains rs r) where
  positive_form : is_positive (value (at_point ps) one_ℚ (meaning k.form)) ≡ true → HoldsAt ps k.strict (sum_of_lin k.form)
  positive_form h = inr (ap is_positive (same_value (at_point ps) k.form) ∙ h)

  by_zero : r.lin ≡ k.form → r.strict ≡ k.strict → IsZero (meaning r.lin) ⊎ (¬ (IsZero (meaning r.lin))) → HoldsAt ps k.strict (sum_of_lin k.form)
  by_zero e s (inl z) = inl (zero_sum k.form (k.of).normal (subst (λ (f : Lin). IsZero (meaning f)) e z), sym s ∙ at.loose r there z)
  by_zero e s (inr d) = positive_form (subst (λ (f : Lin). is_positive (value (at_point ps) one_ℚ (meaning f)) ≡ true) e (at.each r there d))

  by_row : IsRowOf k.form k.strict r → HoldsAt ps k.strict (sum_of_lin k.form)
  by_row (as_it_is e s u stays) = by_zero e s (zero_or r.lin (k.kept).normal)
  by_row (rounded j m d s u) = positive_form (at.before r (record { lin = k.form; strict = k.strict }) there u)

  pub form_holds : HoldsAt ps k.strict (sum_of_lin k.form)
  form_holds = by_row (k.kept).of

pub points_satisfy_literals : PointsSatisfyLiterals
points_satisfy_literals x js ls rows ps kept at l s t strict c e =
    let k = kept.all l s t strict c e in
    let w = same_sum x js l k.0 k.2 s t strict e in
    subst (λ (z : Bool × Sum). HoldsAt ps z.0 z.1) (λ i. (w.1 i, w.0 i)) (form_holds x js l k.0 k.2 rows ps at k.1)
