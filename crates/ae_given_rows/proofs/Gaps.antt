-- The difference of the sides of a row that is written out is its denominator times its form.
use Rattle.std.specs.Prelude.{pos, ◌≡◌, Bool, List}
use Rattle.std.proofs.Common.{ap, ◌∙◌}
use Rattle.ae_math.specs.Fractions.{ℚ, zero_ℚ, one_ℚ, neg_ℚ, ratio, whole, ◌+ℚ◌, ◌*ℚ◌}
use Rattle.ae_math.specs.Forms.{number, scale}
use Rattle.ae_math.proofs.FractionLaws.{add_zero_q, mul_zero_q}
use Rattle.ae_math.proofs.Wholes.{ratio_of_zero}
use Rattle.ae_math.proofs.FormLaws.{minus_factor, same_trans}
use Rattle.ae_core.specs.Decided.{Term_discrete}
use Rattle.ae_core.specs.declared.terms.Term.{Term}
use Rattle.ae_num.specs.declared.forms.Lin.{Lin}
use Rattle.ae_num.specs.Forms.{meaning, IsNormal}
use Rattle.ae_rules.specs.Linear.{Linear, form, factor_of, IsSame}
use Rattle.ae_rules.specs.Lines.{gap}
use Rattle.ae_rules.proofs.LinearLaws.{form-Num}
use Rattle.ae_just.specs.Values.{combination}
use Rattle.ae_just.proofs.ValueLaws.{written_out}
use Rattle.ae_state_steps.specs.ValueSteps.{times_of}
use Rattle.ae_state_steps.proofs.OverTerms.{over_terms, written}
use Rattle.ae_bound_blocks.specs.Said.{sum_term, row_fact}

-- a number less nothing
less_zero : (y z : ℚ) → z ≡ zero_ℚ → y +ℚ neg_ℚ one_ℚ *ℚ z ≡ y
less_zero y z e = ap (λ (w : ℚ). y +ℚ neg_ℚ one_ℚ *ℚ w) e ∙ ap (λ (w : ℚ). y +ℚ w) (mul_zero_q (neg_ℚ one_ℚ)) ∙ add_zero_q y

module _ (ts : List Term) (real strict : Bool) (l : Lin) (normal : IsNormal l) where
  abbrev sum : Linear
  sum = form (sum_term ts real l)

  nothing_is : form (row_fact ts real strict l).left ≡ number (ratio (pos 0) (pos 1))
  nothing_is = form-Num (pos 0) (pos 1) real

  gap_sum : IsSame (gap (row_fact ts real strict l)) sum
  gap_sum = record {
    factors = λ u. minus_factor Term_discrete sum (form (row_fact ts real strict l).left) u ∙ less_zero (factor_of sum u) (factor_of (form (row_fact ts real strict l).left) u) (ap (λ (f : Linear). factor_of f u) nothing_is);
    constants = less_zero sum.constant (form (row_fact ts real strict l).left).constant (ap (λ (f : Linear). f.constant) nothing_is ∙ ratio_of_zero (pos 1));
  }

  pub row_gap : IsSame (gap (row_fact ts real strict l)) (scale (whole l.den) (over_terms ts (meaning l)))
  row_gap =
      same_trans Term_discrete (gap (row_fact ts real strict l)) sum (scale (whole l.den) (over_terms ts (meaning l))) gap_sum
      (same_trans Term_discrete sum (combination ts (times_of l.parts) l.constant) (scale (whole l.den) (over_terms ts (meaning l))) (written_out ts (times_of l.parts) l.constant real) (written ts l normal))
