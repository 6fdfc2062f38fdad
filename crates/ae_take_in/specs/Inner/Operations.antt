-- Operations on names that are numbers of one sort, and numbers that are computed by them.
use Rattle.std.specs.Prelude.{ℕ, Bool, true, List, [], ◌∷◌, ◌≡◌, Option, Some}
use Rattle.ae_math.specs.Forms.{Form}
use Rattle.ae_core.specs.declared.terms.Op.{Op}
use Rattle.ae_core.specs.declared.terms.Op.TheVariants as op
use Rattle.ae_core.specs.declared.terms.Term.{Term, Apply}
use Rattle.ae_core.specs.declared.problems.Signature.{Signature}
use Rattle.ae_num.specs.Forms.{meaning, SameMeaning}
use Rattle.ae_num.specs.declared.forms.Lin.{Lin}
use Rattle.ae_rules.specs.Linear.{Rule}
use Rattle.ae_rules.specs.Linear.Rule.{opaque_term, sum_of, difference_of, negation_of, product_of, quotient_of}
use Rattle.ae_store.specs.Terms.{named}
use Rattle.ae_just.specs.Sides.{joined, numeric}
use Rattle.ae_just.specs.declared.steps.Step.{Step}
use Rattle.ae_settled.specs.Valued.{linear_by}
use Rattle.ae_state_steps.specs.ValueSteps.{IsNumberName}
use Rattle.ae_value_steps.specs.Stating.{IsStated}
use Rattle.ae_value_table.specs.Table.{Contents, number_at}
use Rattle.ae_value_fitting.specs.Sources.{RestsOnValues}
use Rattle.ae_constants.specs.Rules.{standing_for}
use Rattle.ae_constants.specs.declared.rules.Computed.{Computed}
use Rattle.ae_first_values.specs.declared.numbers.Given.{Given}

-- the name applies the operation to the two names, which are numbers of the sort
pub record IsOn (sig : Signature) (ts : List Term) (real : Bool) (n : ℕ) (o : Op) (a b : ℕ) : Type 0 where
  pub is : named ts n ≡ joined (numeric real o) [] (named ts a) (named ts b)
  pub left : IsNumberName sig ts real a
  pub right : IsNumberName sig ts real b

-- the name is the negation of the other, which is a number of the sort
pub record IsNegationOf (sig : Signature) (ts : List Term) (real : Bool) (n a : ℕ) : Type 0 where
  pub is : named ts n ≡ Apply (numeric real op.Neg) [] (named ts a ∷ [])
  pub of : IsNumberName sig ts real a

-- the name applies the operation of a rule to the rule's names
abbrev pub IsByRule : Signature → List Term → Bool → ℕ → Rule ℕ → Type 0
IsByRule sig ts real n opaque_term = Unit {0}
IsByRule sig ts real n (sum_of a b) = IsOn sig ts real n op.Add a b
IsByRule sig ts real n (difference_of a b) = IsOn sig ts real n op.Sub a b
IsByRule sig ts real n (negation_of a) = IsNegationOf sig ts real n a
IsByRule sig ts real n (product_of a b) = IsOn sig ts real n op.Mul a b
IsByRule sig ts real n (quotient_of a b) = (real ≡ true) × IsOn sig ts real n op.Div a b

abbrev pub IsApplied : Signature → List Term → Bool → ℕ → Computed → Type 0
IsApplied sig ts real n rule = IsByRule sig ts real n (standing_for (λ i. i) rule)

-- the form that the rule makes of the numbers of its names; none where it is no linear operation
abbrev pub form_by : List Term → (ℕ → Lin) → Computed → Option (Form ℕ)
form_by ts number rule = linear_by (standing_for (λ i. (named ts i, meaning (number i))) rule)

-- a number of the name that means the form, with the step that states it; what that rests on, steps that say values of c rested on before
pub record IsGiven (sig : Signature) (ts : List Term) (old new : List Step) (c : Contents) (real : Bool) (n : ℕ) (form : Form ℕ) (g : Given) : Type 0 where
  pub means : SameMeaning (meaning g.value) form
  pub stated : IsStated sig ts new real n g.value g.step
  pub rests : RestsOnValues old new c [] g.step

-- the form is the one that the rule makes
pub record IsGivenBy (sig : Signature) (ts : List Term) (old new : List Step) (c : Contents) (real : Bool) (n : ℕ) (rule : Computed) (g : Given) : Type 0 where
  pub form : Form ℕ
  pub is : form_by ts (number_at c) rule ≡ Some form
  pub given : IsGiven sig ts old new c real n form g
