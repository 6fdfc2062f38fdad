-- Kept rows of inequality literals, in the values by which a journal stands.
use Rattle.std.specs.Prelude.{ℕ, Bool, true, List, ◌∷◌, ◌++◌, ◌≡◌, slice_get, Some}
use Rattle.std.specs.List.{AllByRecursion, Contains}
use Rattle.ae_core.specs.Sorts.{sort_of}
use Rattle.ae_core.specs.declared.terms.Term.{Term}
use Rattle.ae_core.specs.declared.terms.Sort.{Int}
use Rattle.ae_core.specs.declared.formulas.Lit.{Lit}
use Rattle.ae_num.specs.declared.forms.Lin.{Lin}
use Rattle.ae_num.specs.Forms.{IsNormal}
use Rattle.ae_journal.specs.Values.{sum_of_lin, sum_in, minus_val}
use Rattle.ae_journal.specs.States.{inequality}
use Rattle.ae_journal.specs.Journals.{OnlyCombines}
use Rattle.ae_journal.specs.Standing.{Setting, MayStand, SurelyStands, value_now}
use Rattle.ae_journal.specs.declared.lines.Line.{Line}
use Rattle.ae_journal.specs.declared.lines.Line.TheVariants as line
use Rattle.ae_bounds.specs.declared.rows.Origin.TheVariants.{Assumed}
use Rattle.ae_bounds.specs.declared.rows.Row.{Row}
use Rattle.ae_bounds.specs.Rounding.{IsAssumed}

-- a listed name, of sort `int` exactly where the row is over integers
pub record IsOfRow (x : Setting) (integral : Bool) (k : ℕ) : Type 0 where
  pub term : Term
  pub at : slice_get x.names k ≡ Some term
  pub whole : integral ≡ true → sort_of x.problem.signature term ≡ Some Int
  pub is_integral : sort_of x.problem.signature term ≡ Some Int → integral ≡ true

-- the form is the value of the side that isn't less, less that of the other; it is over integers exactly where the sides are
pub record IsFormOf (x : Setting) (js : List Line) (l : Lit) (form : Lin) (strict integral : Bool) : Type 0 where
  pub upper : Term
  pub lower : Term
  pub is : inequality l ≡ Some (upper, lower, strict)
  pub normal : IsNormal form
  pub sum : sum_of_lin form ≡ sum_in (minus_val (value_now x js upper) (value_now x js lower))
  pub whole : integral ≡ true → sort_of x.problem.signature upper ≡ Some Int
  pub is_integral : sort_of x.problem.signature upper ≡ Some Int → integral ≡ true
  pub names : AllByRecursion (λ p. IsOfRow x integral p.key) form.parts

-- the row was kept for the literal, and counts exactly where that surely stands
pub record IsKeptFor (x : Setting) (js : List Line) (l : Lit) (r : Row) : Type 0 where
  pub form : Lin
  pub strict : Bool
  pub integral : Bool
  pub number : ℕ
  pub of : IsFormOf x js l form strict integral
  pub kept : IsAssumed form strict integral number r
  pub sure : r.counts ≡ true → SurelyStands x js l
  pub counting : SurelyStands x js l → r.counts ≡ true

-- each row was kept for a literal of the list, and each inequality literal of the list has its row
pub record AreKeptFor (x : Setting) (js : List Line) (ls : List Lit) (rows : List Row) : Type 0 where
  pub each : (r : Row) → Contains rows r → (l : Lit) × Contains ls l × IsKeptFor x js l r
  pub all : (l : Lit) (s t : Term) (strict : Bool) → Contains ls l → inequality l ≡ Some (s, t, strict) → (r : Row) × Contains rows r × IsKeptFor x js l r

-- the same of rows with combinations among them: each assumed one was kept for a literal of the list
pub record AreRowsOf (x : Setting) (js : List Line) (ls : List Lit) (rows : List Row) : Type 0 where
  pub each : (r : Row) (tag : ℕ) → Contains rows r → r.from ≡ Assumed tag → (l : Lit) × Contains ls l × IsKeptFor x js l r
  pub all : (l : Lit) (s t : Term) (strict : Bool) → Contains ls l → inequality l ≡ Some (s, t, strict) → (r : Row) × Contains rows r × IsKeptFor x js l r

-- the literals may stand, and the inequality literals that surely stand are among them
pub record AreStandingLiterals (x : Setting) (js : List Line) (ls : List Lit) : Type 0 where
  pub may : (l : Lit) → Contains ls l → MayStand x js l
  pub sure : (l : Lit) (s t : Term) (strict : Bool) → SurelyStands x js l → inequality l ≡ Some (s, t, strict) → Contains ls l

-- the inequality literals that may stand are among them
abbrev pub HasAllThatMay : Setting → List Line → List Lit → Type 0
HasAllThatMay x js ls = (l : Lit) (s t : Term) (strict : Bool) → MayStand x js l → inequality l ≡ Some (s, t, strict) → Contains ls l

-- the last line is no `Combine` line
abbrev pub NoneCombined : List Line → Type 0
NoneCombined js = (before after : List Line) (b : Bool) (h : Lin) → js ≡ before ++ line.Combine b h ∷ after → ¬ OnlyCombines after
