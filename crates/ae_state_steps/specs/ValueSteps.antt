-- Steps that state the values of names, and that they are allowed. A value is written out as `den * name = sum`.
use Rattle.std.specs.Prelude.{ℕ, ℤ, pos, negsuc, neg_ℤ, unsigned_abs, ◌*ℤ◌, ◌<ℤ◌, ◌≡◌, Bool, cond, List, [], ◌∷◌, map, slice_get, Some}
use Rattle.std.specs.List.{AllByRecursion}
use native.Mathlib.Decide.{ℕ_discrete}
use Rattle.ae_math.specs.Fractions.{ℚ, zero_ℚ, ratio}
use Rattle.ae_math.specs.Forms.{number as number_form, single, plus as plus_form, minus as minus_form, scale as scale_form, factor, substitute}
use Rattle.ae_num.specs.declared.forms.Part.{Part}
use Rattle.ae_num.specs.declared.forms.Lin.{Lin}
use Rattle.ae_num.specs.Forms.{meaning, SameMeaning, IsNormal, factor_of}
use Rattle.ae_core.specs.Sorts.{sort_of}
use Rattle.ae_core.specs.declared.terms.Sort.{Sort, Int, Real}
use Rattle.ae_core.specs.declared.terms.Term.{Term, Num}
use Rattle.ae_core.specs.declared.terms.Op.TheVariants as op
use Rattle.ae_core.specs.declared.problems.Signature.{Signature}
use Rattle.ae_core.specs.declared.proofs.Scaled.{Scaled}
use Rattle.ae_rules.specs.Linear.{form, IsSame}
use Rattle.ae_store.specs.Terms.{named}
use Rattle.ae_just.specs.declared.steps.Times.{Times}
use Rattle.ae_just.specs.declared.steps.Side.{Side}
use Rattle.ae_just.specs.declared.steps.Side.TheVariants as side
use Rattle.ae_just.specs.declared.steps.Rule.{Rule}
use Rattle.ae_just.specs.declared.steps.Rule.TheVariants as rule
use Rattle.ae_just.specs.declared.steps.Step.{Step}
use Rattle.ae_just.specs.Sides.{joined, numeric}
use Rattle.ae_just.specs.Steps.{IsAllowedStep}

abbrev pub sort_for : Bool → Sort
sort_for real = cond real Real Int

-- ---- values written out
abbrev pub times_of : List Part → List Times
times_of ps = map (λ p. record { factor = p.factor; name = p.key }) ps

abbrev pub value_side : Bool → Lin → Side
value_side real l = side.Sum (times_of l.parts) l.constant real

abbrev pub name_side : Bool → ℕ → Lin → Side
name_side real n l = side.Sum (record { factor = l.den; name = n } ∷ []) (pos 0) real

-- the step that states the value of a name, by a combination of earlier steps
abbrev pub value_step : Bool → ℕ → Lin → ℤ → List Scaled → Step
value_step real n l times parts = record { left = name_side real n l; right = value_side real l; rule = rule.Lin times parts }

-- the step of this number states the value of the name
pub record StatesValue (steps : List Step) (id : ℕ) (real : Bool) (n : ℕ) (l : Lin) : Type 0 where
  pub by : Rule
  pub there : slice_get steps id ≡ Some (record { left = name_side real n l; right = value_side real l; rule = by })

-- the step of this number states that two names are equal
pub record StatesEqual (steps : List Step) (id n m : ℕ) : Type 0 where
  pub by : Rule
  pub there : slice_get steps id ≡ Some (record { left = side.Name n; right = side.Name m; rule = by })

-- the step that states that a sum is 0: the value times its denominator
abbrev pub zero_step : Bool → Lin → ℤ → List Scaled → Step
zero_step real d times parts = record { left = value_side real d; right = side.Sum [] (pos 0) real; rule = rule.Lin times parts }

pub record StatesZero (steps : List Step) (id : ℕ) (real : Bool) (d : Lin) : Type 0 where
  pub by : Rule
  pub there : slice_get steps id ≡ Some (record { left = value_side real d; right = side.Sum [] (pos 0) real; rule = by })

-- the step that states that two names of one value are equal
abbrev pub equal_step : ℕ → ℕ → ℤ → List Scaled → Step
equal_step a b times parts = record { left = side.Name a; right = side.Name b; rule = rule.Lin times parts }

-- a name of the sort
abbrev pub IsNumberName : Signature → List Term → Bool → ℕ → Type 0
IsNumberName sig ts real n = sort_of sig (named ts n) ≡ Some (sort_for real)

-- the name and all names in its value are of the sort
pub record IsWritten (sig : Signature) (ts : List Term) (real : Bool) (n : ℕ) (l : Lin) : Type 0 where
  pub name : IsNumberName sig ts real n
  pub parts : AllByRecursion (λ p. IsNumberName sig ts real p.key) l.parts
  pub normal : IsNormal l

-- the names in a form are of the sort
pub record IsFormOver (sig : Signature) (ts : List Term) (real : Bool) (d : Lin) : Type 0 where
  pub parts : AllByRecursion (λ p. IsNumberName sig ts real p.key) d.parts
  pub normal : IsNormal d

-- 1 or -1
abbrev pub sign_of : ℤ → ℤ
sign_of (negsuc n) = negsuc 0
sign_of _ = pos 1

-- ---- the steps
abbrev pub NumeralStep : Type 0
NumeralStep = (sig : Signature) (ts : List Term) (steps : List Step) (real : Bool) (n : ℕ) (l : Lin) (a b : ℤ) → IsWritten sig ts real n l → named ts n ≡ Num a b real
    → SameMeaning (meaning l) (number_form (ratio a b)) → IsAllowedStep sig ts steps (value_step real n l (pos 1) [])

abbrev pub LeafStep : Type 0
LeafStep = (sig : Signature) (ts : List Term) (steps : List Step) (real : Bool) (n : ℕ) (l : Lin) → IsWritten sig ts real n l → SameMeaning (meaning l) (single n)
    → IsAllowedStep sig ts steps (value_step real n l (pos 1) [])

abbrev pub SumStep : Type 0
SumStep = (sig : Signature) (ts : List Term) (steps : List Step) (real : Bool) (n a b ia ib : ℕ) (ln la lb : Lin) (D : ℤ)
    → IsWritten sig ts real n ln → IsWritten sig ts real a la → IsWritten sig ts real b lb → StatesValue steps ia real a la → StatesValue steps ib real b lb
    → named ts n ≡ joined (numeric real op.Add) [] (named ts a) (named ts b) → SameMeaning (meaning ln) (plus_form (meaning la) (meaning lb)) → pos 0 <ℤ D → D *ℤ ln.den ≡ la.den *ℤ lb.den
    → IsAllowedStep sig ts steps (value_step real n ln D (record { factor = lb.den; line = ia } ∷ record { factor = la.den; line = ib } ∷ []))

abbrev pub DifferenceStep : Type 0
DifferenceStep = (sig : Signature) (ts : List Term) (steps : List Step) (real : Bool) (n a b ia ib : ℕ) (ln la lb : Lin) (D : ℤ)
    → IsWritten sig ts real n ln → IsWritten sig ts real a la → IsWritten sig ts real b lb → StatesValue steps ia real a la → StatesValue steps ib real b lb
    → named ts n ≡ joined (numeric real op.Sub) [] (named ts a) (named ts b) → SameMeaning (meaning ln) (minus_form (meaning la) (meaning lb)) → pos 0 <ℤ D → D *ℤ ln.den ≡ la.den *ℤ lb.den
    → IsAllowedStep sig ts steps (value_step real n ln D (record { factor = lb.den; line = ia } ∷ record { factor = neg_ℤ la.den; line = ib } ∷ []))

-- the linear form of the name is c / d times that of the other: of a negation, a product with a constant factor, a quotient by a numeral
abbrev pub MultipleStep : Type 0
MultipleStep = (sig : Signature) (ts : List Term) (steps : List Step) (real : Bool) (n a ia : ℕ) (ln la : Lin) (c d D : ℤ)
    → IsWritten sig ts real n ln → IsWritten sig ts real a la → StatesValue steps ia real a la → pos 0 <ℤ d
    → IsSame (form (named ts n)) (scale_form (ratio c d) (form (named ts a))) → SameMeaning (meaning ln) (scale_form (ratio c d) (meaning la)) → pos 0 <ℤ D → D *ℤ ln.den ≡ la.den *ℤ d
    → IsAllowedStep sig ts steps (value_step real n ln D (record { factor = c; line = ia } ∷ []))

abbrev pub CoveredStep : Type 0
CoveredStep = (sig : Signature) (ts : List Term) (steps : List Step) (real : Bool) (n m ie im : ℕ) (l : Lin)
    → IsWritten sig ts real n l → IsWritten sig ts real m l → StatesEqual steps ie n m → StatesValue steps im real m l
    → IsAllowedStep sig ts steps (value_step real n l (pos 1) (record { factor = l.den; line = ie } ∷ record { factor = pos 1; line = im } ∷ []))

-- the value of x was put for x in the value of n
abbrev pub PutStep : Type 0
PutStep = (sig : Signature) (ts : List Term) (steps : List Step) (real : Bool) (n x i ix : ℕ) (new old lx : Lin) (D : ℤ)
    → IsWritten sig ts real n new → IsWritten sig ts real n old → IsWritten sig ts real x lx → StatesValue steps i real n old → StatesValue steps ix real x lx
    → SameMeaning (meaning new) (substitute ℕ_discrete (meaning old) x (meaning lx)) → pos 0 <ℤ D → D *ℤ new.den ≡ old.den *ℤ lx.den
    → IsAllowedStep sig ts steps (value_step real n new D (record { factor = lx.den; line = i } ∷ record { factor = factor_of old.parts x; line = ix } ∷ []))

-- what the equation of p and q says of their values: the difference is 0
abbrev pub ApartStep : Type 0
ApartStep = (sig : Signature) (ts : List Term) (steps : List Step) (real : Bool) (p q ie ip iq : ℕ) (lp lq d : Lin) (D : ℤ)
    → IsWritten sig ts real p lp → IsWritten sig ts real q lq → IsFormOver sig ts real d → StatesEqual steps ie p q → StatesValue steps ip real p lp → StatesValue steps iq real q lq
    → SameMeaning (meaning d) (minus_form (meaning lp) (meaning lq)) → pos 0 <ℤ D → D *ℤ d.den ≡ lp.den *ℤ lq.den
    → IsAllowedStep sig ts steps (zero_step real d D (record { factor = lp.den *ℤ lq.den; line = ie } ∷ record { factor = neg_ℤ lq.den; line = ip } ∷ record { factor = lp.den; line = iq } ∷ []))

-- the value of x at which a form is 0
abbrev pub SolvedStep : Type 0
SolvedStep = (sig : Signature) (ts : List Term) (steps : List Step) (real : Bool) (x id : ℕ) (v d : Lin) (times : ℚ) (D : ℤ)
    → IsWritten sig ts real x v → IsFormOver sig ts real d → StatesZero steps id real d → factor ℕ_discrete (meaning v) x ≡ zero_ℚ
    → SameMeaning (meaning d) (scale_form times (minus_form (single x) (meaning v))) → pos 0 <ℤ D → D *ℤ v.den ≡ pos (unsigned_abs (factor_of d.parts x))
    → IsAllowedStep sig ts steps (value_step real x v D (record { factor = sign_of (factor_of d.parts x); line = id } ∷ []))

-- two names of one value
abbrev pub AlikeStep : Type 0
AlikeStep = (sig : Signature) (ts : List Term) (steps : List Step) (real : Bool) (a b ia ib : ℕ) (l : Lin)
    → IsWritten sig ts real a l → IsWritten sig ts real b l → StatesValue steps ia real a l → StatesValue steps ib real b l
    → IsAllowedStep sig ts steps (equal_step a b l.den (record { factor = pos 1; line = ia } ∷ record { factor = neg_ℤ (pos 1); line = ib } ∷ []))
