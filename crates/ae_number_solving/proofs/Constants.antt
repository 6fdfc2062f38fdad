-- A difference without names: the two numbers can't be equal.
use Rattle.std.specs.Prelude.{ℕ, pos, Bool, true, false, List, [], ◌≡◌, ◌≢◌}
use Rattle.std.proofs.Common.{refl, sym, ap, ◌∙◌, subst, inl, inr}
use Rattle.ae_math.specs.Fractions.{ℚ, zero_ℚ, one_ℚ, neg_ℚ, whole, ratio, ◌+ℚ◌, ◌*ℚ◌}
use Rattle.ae_math.specs.Forms.{number}
use Rattle.ae_math.proofs.FractionLaws.{zero_add_q, mul_zero_q, same_from_zero_q}
use Rattle.ae_math.proofs.FormLaws.{minus_one, minus_factor}
use Rattle.ae_math.proofs.Wholes.{whole_same, ratio_is_zero, ratio_of_zero}
use Rattle.ae_core.specs.Decided.{Term_discrete}
use Rattle.ae_core.specs.declared.terms.Term.{Term}
use Rattle.ae_core.specs.declared.problems.Signature.{Signature}
use Rattle.ae_num.specs.Forms.{meaning, factor_of}
use Rattle.ae_num.specs.declared.forms.Part.{Part}
use Rattle.ae_num.specs.declared.forms.Lin.{Lin}
use Rattle.ae_num.proofs.MeaningLaws.{factor_meaning}
use Rattle.ae_num.proofs.UniqueLaws.{same_parts}
use Rattle.ae_linear.specs.Solving.{IsOff}
use Rattle.ae_rules.specs.Derivations.{IsNumber}
use Rattle.ae_rules.specs.Linear.{Linear, form, IsSame}
use Rattle.ae_rules.specs.Lines.{equal, gap, IsNumeric}
use Rattle.ae_just.specs.Sides.{side_term}
use Rattle.ae_just.specs.Values.{combination}
use Rattle.ae_just.specs.declared.steps.Side.TheVariants as side
use Rattle.ae_just.specs.declared.steps.Step.{Step}
use Rattle.ae_just.proofs.ValueLaws.{written_out}
use Rattle.ae_state_steps.specs.ValueSteps.{sort_for, times_of, value_side, IsFormOver, StatesZero}
use Rattle.ae_state_steps.proofs.SideSorts.{form_sorted, nothing_sorted}
use Rattle.ae_conflicts.specs.declared.assumed.Assumed.{Assumed}
use Rattle.ae_conflicts.specs.Saying.{RestsOnAssumed}
use Rattle.ae_conflicts.specs.Conflicting.{IsConstant}

numeric : (real : Bool) → IsNumeric (sort_for real)
numeric true = inr refl
numeric false = inl refl

module _ (sig : Signature) (ts : List Term) (real : Bool) (d : Lin) (over : IsFormOver sig ts real d) (off : IsOff (meaning d)) where
  no_parts : d.parts ≡ []
  no_parts =
      same_parts d.parts [] (over.normal).rising tt (over.normal).nonzero tt
      (λ k. ratio_is_zero (factor_of d.parts k) d.den (over.normal).positive (sym (factor_meaning d k (over.normal).rising) ∙ off.factors k))

  abbrev left_form : Linear
  left_form = form (side_term ts (value_side real d))

  abbrev right_form : Linear
  right_form = form (side_term ts (side.Sum [] (pos 0) real))

  left_is : IsSame left_form (number (whole d.constant))
  left_is = subst (IsSame left_form) (ap (λ (ps : List Part). combination ts (times_of ps) d.constant) no_parts) (written_out ts (times_of d.parts) d.constant real)

  right_is : IsSame right_form (number (whole (pos 0)))
  right_is = written_out ts [] (pos 0) real

  number_gap : IsNumber (gap (equal (side_term ts (value_side real d)) (side_term ts (side.Sum [] (pos 0) real))))
  number_gap u =
      minus_factor Term_discrete right_form left_form u ∙ (λ i. right_is.factors u i +ℚ neg_ℚ one_ℚ *ℚ left_is.factors u i) ∙ zero_add_q (neg_ℚ one_ℚ *ℚ zero_ℚ) ∙ mul_zero_q (neg_ℚ one_ℚ)

  other_gap : (gap (equal (side_term ts (value_side real d)) (side_term ts (side.Sum [] (pos 0) real)))).constant ≢ zero_ℚ
  other_gap e =
      let equal_constants : right_form.constant ≡ left_form.constant =
      same_from_zero_q right_form.constant left_form.constant (ap (λ (z : ℚ). right_form.constant +ℚ z) (sym (minus_one left_form.constant)) ∙ e) in
      let none : pos 0 ≡ d.constant = whole_same (pos 0) d.constant (sym right_is.constants ∙ equal_constants ∙ left_is.constants) in
      off.off (ap (λ z. ratio z d.den) (sym none) ∙ ratio_of_zero d.den)

  pub constant_conflict : (steps : List Step) (id : ℕ) (held : List (ℕ × Assumed)) → StatesZero steps id real d → RestsOnAssumed ts steps held id → IsConstant sig ts steps held id
  constant_conflict steps id held states rests = record {
    left = side_term ts (value_side real d);
    right = side_term ts (side.Sum [] (pos 0) real);
    numbers = (sort_for real, numeric real, (form_sorted sig ts real d over, nothing_sorted sig ts real));
    number = number_gap;
    other = other_gap;
    says = record { step = record { left = value_side real d; right = side.Sum [] (pos 0) real; rule = states.by }; is = states.there; states = refl; rests = rests };
  }
