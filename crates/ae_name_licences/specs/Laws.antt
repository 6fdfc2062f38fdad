-- The `solve` lines that a journal admits, and the widths that it licenses.
use Rattle.std.specs.Prelude.{ℕ, ℤ, pos, negsuc, ◌<◌, Bool, true, false, List, [], ◌∷◌, ◌++◌, ◌≡◌, slice_get, Some, None}
use Rattle.ae_math.specs.Fractions.{ratio, inverse_ℚ}
use Rattle.ae_math.specs.Forms.{is_zero, minus}
use Rattle.ae_core.specs.declared.terms.Sort.{Sort}
use Rattle.ae_core.specs.declared.terms.Term.{Term, Apply, Num}
use Rattle.ae_core.specs.declared.terms.Head.TheVariants as head
use Rattle.ae_core.specs.declared.terms.Op.TheVariants as op
use Rattle.ae_rules.specs.Linear.{form, is_number}
use Rattle.ae_num.specs.Forms.{meaning, SameMeaning, IsNormal, first_wide, plus_steps, scale_steps, subst_steps, difference_steps}
use Rattle.ae_num.specs.declared.forms.Lin.{Lin}
use Rattle.ae_num.specs.declared.forms.Value.{Leaf, Number}
use Rattle.ae_num.specs.declared.numbers.Wide.{Wide}
use Rattle.ae_journal.specs.Values.{sum_in, sum_of_lin}
use Rattle.ae_journal.specs.Systems.{IsName}
use Rattle.ae_journal.specs.SolverLines.{MayOrientName}
use Rattle.ae_journal.specs.Points.{constant_sum}
use Rattle.ae_journal.specs.Standing.{Setting, IsEntered, value_now}
use Rattle.ae_journal.specs.Licences.{HasName, IsLicensed}
use Rattle.ae_journal.specs.declared.answers.NumStep.TheVariants as step
use Rattle.ae_journal.specs.declared.lines.Oriented.TheVariants as oriented
use Rattle.ae_journal.specs.declared.lines.Line.{Line}
use Rattle.ae_journal.specs.declared.lines.Line.TheVariants as line
use Rattle.ae_journal.specs.declared.systems.System.{System}
use Rattle.ae_linear.specs.Solving.{SolvesFor, IsScaling}
use Rattle.ae_settled.specs.Valued.{AreValues}
use Rattle.ae_store.specs.Stores.{Stored}
use Rattle.ae_theory.specs.Names.{IsNamedBy, terms_in}
use Rattle.ae_name_lines.specs.Closed.{AreClosed}
use Rattle.ae_name_lines.specs.InStep.{AreLineValues}
use Rattle.ae_journal.specs.Journals.{live}
use Rattle.ae_name_licences.specs.Joining.{IsInStepWith, MayJoin, IsNegation}

-- the names of a store, where the store names the journal's
abbrev pub StoresAreInStep : Type 0
StoresAreInStep = (x : Setting) (js : List Line) (s : Stored) (y : System) → IsNamedBy x s js → y.names ≡ terms_in s → AreClosed s.signature y.names → AreValues s.signature y
    → AreLineValues s.signature y.names y.values (live js) → IsInStepWith x js y

-- ---- `solve` lines
-- where two numbers are to be equal, the largest name of their difference gets the value that solves it
abbrev pub SolvedNumbersAreLegal : Type 0
SolvedNumbersAreLegal = (x : Setting) (js : List Line) (y : System) (f g : Lin) (name : ℕ) (q : Lin) → IsInStepWith x js y → MayJoin x js y (Number f) (Number g)
    → SolvesFor (minus (meaning f) (meaning g)) name q → MayOrientName x js name (Number q)

-- where two leaves are, the larger one gets the smaller
abbrev pub SolvedLeavesAreLegal : Type 0
SolvedLeavesAreLegal = (x : Setting) (js : List Line) (y : System) (m n : ℕ) → IsInStepWith x js y → m < n → MayJoin x js y (Leaf m) (Leaf n) → MayOrientName x js n (Leaf m)

abbrev pub TurnedLeavesAreLegal : Type 0
TurnedLeavesAreLegal = (x : Setting) (js : List Line) (y : System) (m n : ℕ) → IsInStepWith x js y → m < n → MayJoin x js y (Leaf n) (Leaf m) → MayOrientName x js n (Leaf m)

-- ---- widths of a difference: the negated form is never wide, the sum with it may be
abbrev pub NegationsFit : Type 0
NegationsFit = (g : Lin) → IsNormal g → first_wide (scale_steps (negsuc 0) (pos 1) g) ≡ None

abbrev pub DifferencesAreLicensed : Type 0
DifferencesAreLicensed = (x : Setting) (js : List Line) (y : System) (f g negated : Lin) (wide : Wide) → IsInStepWith x js y → MayJoin x js y (Number f) (Number g) → IsNormal f → IsNormal g → IsNegation g negated
    → first_wide (difference_steps f g) ≡ Some wide
    → IsLicensed x js (record { step = step.Plus; left = f; key = None; right = negated; wide = wide })

-- ---- of solving: the difference without its largest name, times the negated inverse of that name's factor
abbrev pub ScalingsAreLicensed : Type 0
ScalingsAreLicensed = (x : Setting) (js : List Line) (y : System) (f g d inverse rest : Lin) (wide : Wide) → IsInStepWith x js y → MayJoin x js y (Number f) (Number g) → IsNormal d
    → SameMeaning (meaning d) (minus (meaning f) (meaning g)) → IsScaling d inverse rest → IsNormal inverse → first_wide (scale_steps inverse.constant inverse.den rest) ≡ Some wide
    → IsLicensed x js (record { step = step.Scale; left = rest; key = None; right = inverse; wide = wide })

-- ---- of a value put: the last line is the `solve`
abbrev pub PutsAreLicensed : Type 0
PutsAreLicensed = (x : Setting) (js : List Line) (y : System) (n name : ℕ) (t : Term) (f q : Lin) (wide : Wide) → IsInStepWith x js y → IsName y n t → slice_get y.values n ≡ Some (Number f) → IsNormal f → IsNormal q
    → first_wide (subst_steps f name q) ≡ Some wide
    → IsLicensed x (js ++ line.Orient (oriented.Named name (Number q)) ∷ []) (record { step = step.Subst; left = f; key = Some name; right = q; wide = wide })

-- ---- of new names: a form is the value of an operand
abbrev pub IsNow : Setting → List Line → Term → Lin → Type 0
IsNow x js t f = sum_in (value_now x js t) ≡ sum_of_lin f

abbrev pub SumsAreLicensed : Type 0
SumsAreLicensed = (x : Setting) (js : List Line) (a b : Term) (f g : Lin) (wide : Wide) → HasName x js op.Add a b → IsNow x js a f → IsNow x js b g → IsNormal f → IsNormal g → first_wide (plus_steps f g) ≡ Some wide
    → IsLicensed x js (record { step = step.Plus; left = f; key = None; right = g; wide = wide })

abbrev pub SubtractionsAreLicensed : Type 0
SubtractionsAreLicensed = (x : Setting) (js : List Line) (a b : Term) (f g negated : Lin) (wide : Wide) → HasName x js op.Sub a b → IsNow x js a f → IsNow x js b g → IsNormal f → IsNormal g → IsNegation g negated
    → first_wide (difference_steps f g) ≡ Some wide
    → IsLicensed x js (record { step = step.Plus; left = f; key = None; right = negated; wide = wide })

abbrev pub LeftFactorsAreLicensed : Type 0
LeftFactorsAreLicensed = (x : Setting) (js : List Line) (a b : Term) (f by : Lin) (wide : Wide) → HasName x js op.Mul a b → is_number (form b) ≡ true → sum_of_lin by ≡ constant_sum (form b).constant → IsNow x js a f
    → IsNormal f → IsNormal by → first_wide (scale_steps by.constant by.den f) ≡ Some wide → IsLicensed x js (record { step = step.Scale; left = f; key = None; right = by; wide = wide })

abbrev pub RightFactorsAreLicensed : Type 0
RightFactorsAreLicensed = (x : Setting) (js : List Line) (a b : Term) (f by : Lin) (wide : Wide) → HasName x js op.Mul a b → is_number (form a) ≡ true → sum_of_lin by ≡ constant_sum (form a).constant → IsNow x js b f
    → IsNormal f → IsNormal by → first_wide (scale_steps by.constant by.den f) ≡ Some wide → IsLicensed x js (record { step = step.Scale; left = f; key = None; right = by; wide = wide })

abbrev pub QuotientsAreLicensed : Type 0
QuotientsAreLicensed = (x : Setting) (js : List Line) (ss : List Sort) (a : Term) (m n : ℤ) (real : Bool) (f by : Lin) (wide : Wide) → IsEntered x js (Apply (head.Real op.Div) ss (a ∷ Num m n real ∷ []))
    → is_zero (ratio m n) ≡ false → sum_of_lin by ≡ constant_sum (inverse_ℚ (ratio m n)) → IsNow x js a f → IsNormal f → IsNormal by → first_wide (scale_steps by.constant by.den f) ≡ Some wide
    → IsLicensed x js (record { step = step.Scale; left = f; key = None; right = by; wide = wide })
