-- Rows as sums of the inequalities that were given, and what a verdict says of these.
use Rattle.std.specs.Prelude.{ℕ, ◌≡◌, ◌⊎◌, Bool, false, Option, Some, None, List, []}
use Rattle.std.specs.List.{AllByRecursion}
use Rattle.ae_math.specs.Forms.{Form}
use Rattle.ae_num.specs.Forms.{meaning}
use Rattle.ae_ineq.specs.declared.solving.Inequality.{Inequality}
use Rattle.ae_ineq.specs.declared.rows.Row.{Row}
use Rattle.ae_ineq.specs.declared.elimination.Verdict.{Verdict}
use Rattle.ae_ineq.specs.declared.elimination.Verdict.TheVariants.{Open, Tight, Contradiction}
use Rattle.ae_journal.specs.declared.systems.PointAt.{PointAt}
use Rattle.ae_ineq.specs.declared.solving.Answer.{Answer}
use Rattle.ae_ineq.specs.declared.solving.Answer.TheVariants as answer
use Rattle.ae_ineq.specs.Sums.{IsSum, SomeNonzero, IsZero, HasTightSum, HasRefutedSum}
use Rattle.ae_ineq.specs.Inner.Sets.{HasForm, IsGoodRow}

-- the form is a sum of given inequalities, of which one isn't zero
pub record IsNonzeroSum (given : List Inequality) (f : Form ℕ) (strict : Bool) : Type 0 where
  pub sum : IsSum given f strict
  pub some : SomeNonzero sum.shares

abbrev pub IsDerived : List Inequality → Row → Type 0
IsDerived given r = IsNonzeroSum given (meaning r.lin) r.strict

abbrev pub IsJudged : List Inequality → Verdict → Type 0
IsJudged given Open = Unit {0}
IsJudged given Tight = HasTightSum given
IsJudged given Contradiction = HasRefutedSum given

-- the inequality has a row, or is zero and allows equality
abbrev pub IsTaken : List Row → Inequality → Type 0
IsTaken rows i = HasForm rows (meaning i.lin) ⊎ (IsZero (meaning i.lin) × (i.lin.parts ≡ []) × (i.strict ≡ false))

-- the rows of inequalities, or none where one of them can't hold
pub record AreRowsOf (given taken : List Inequality) (rows : List Row) : Type 0 where
  pub good : AllByRecursion IsGoodRow rows
  pub derived : AllByRecursion (IsDerived given) rows
  pub each : AllByRecursion (IsTaken rows) taken

abbrev pub AreGathered : List Inequality → Option (List Row) → Type 0
AreGathered given (Some rows) = AreRowsOf given given rows
AreGathered given None = HasRefutedSum given

-- ---- answers
abbrev pub IfPoint : Answer → (List PointAt → Type 0) → Type 0
IfPoint (answer.Point made) P = P made
IfPoint answer.Tight P = Unit {0}
IfPoint answer.Contradiction P = Unit {0}

abbrev pub IfSum : Answer → List Inequality → Type 0
IfSum (answer.Point made) given = Unit {0}
IfSum answer.Tight given = HasTightSum given
IfSum answer.Contradiction given = HasRefutedSum given
