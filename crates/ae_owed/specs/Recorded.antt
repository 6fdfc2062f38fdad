-- Instances beside a journal.
use Rattle.std.specs.Prelude.{ℕ, ◌<◌, List, ◌≡◌, Some}
use Rattle.std.specs.List.{Contains}
use Rattle.ae_core.specs.declared.formulas.Formula.{Formula}
use Rattle.ae_core.specs.declared.formulas.Lit.{Lit}
use Rattle.ae_core.specs.declared.terms.Sort.{Sort}
use Rattle.ae_core.specs.declared.terms.Term.{Term}
use Rattle.ae_rules.specs.Clauses.{Clause}
use Rattle.ae_rules.specs.Instances.{hypothesis}
use Rattle.ae_journal.specs.InstanceLines.{IsInstance, IsInstanceBelow, HasGeneration}
use Rattle.ae_journal.specs.Standing.{Setting}
use Rattle.ae_journal.specs.States.{of_literal, of_axiom}
use Rattle.ae_journal.specs.declared.lines.Line.{Line}
use Rattle.ae_journal.specs.declared.lines.Line.TheVariants as line
use Rattle.ae_owed.specs.Instances.{Instance, brought}

module _ (x : Setting) (js : List Line) where
  -- a literal of an instance is in the clause of a line of the instance
  pub record IsBroughtBy (i : Instance) (l : Lit) : Type 0 where
    pub own : Line
    pub clause : Clause
    pub noted : Contains js own
    pub instance : IsInstance x own clause i.owner i.sorts i.terms
    pub has : Contains clause l

  abbrev pub HasLines : Instance → Type 0
  HasLines i = (l : Lit) → Contains (brought x.problem x.goal i) l → IsBroughtBy i l

  -- and by its line, or by the equations of a later one, it is a match at the instance's number
  pub record IsBroughtAt (i : Instance) (l : Lit) : Type 0 where
    pub line_of : IsBroughtBy i l
    pub below : IsInstanceBelow x (HasGeneration x js i.number) js line_of.clause

  abbrev pub IsRecorded : Instance → Type 0
  IsRecorded i = (l : Lit) → Contains (brought x.problem x.goal i) l → IsBroughtAt i l

  -- a line is of one of these instances
  pub data IsOfInstance (instances : List Instance) : Line → Type 0 where
    of_sorts : (i : Instance) (k : ℕ) → Contains instances i → i.owner ≡ of_axiom k → IsOfInstance instances (line.TypeInstance k i.sorts)
    of_terms : (i : Instance) (l : Lit) → Contains instances i → i.owner ≡ of_literal l → IsOfInstance instances (line.TermInstance l.formula i.terms)
    of_axiom_terms : (i : Instance) (k : ℕ) (f : Formula) → Contains instances i → i.owner ≡ of_axiom k → hypothesis x.problem x.goal k i.sorts ≡ Some f
        → IsOfInstance instances (line.TermInstance f i.terms)

  -- the instances are those of the journal's lines, each with a number below the bound at which it is a match
  pub record AreRecorded (bound : ℕ) (instances : List Instance) : Type 0 where
    pub each : (i : Instance) → Contains instances i → IsRecorded i
    pub within : (i : Instance) → Contains instances i → i.number < bound
    pub sorts : (k : ℕ) (ss : List Sort) → Contains js (line.TypeInstance k ss) → IsOfInstance instances (line.TypeInstance k ss)
    pub terms : (f : Formula) (ts : List Term) → Contains js (line.TermInstance f ts) → IsOfInstance instances (line.TermInstance f ts)

-- the formulas that were opened have the first constants that the journal's setting gives them
abbrev pub AreOpenedIn : Setting → List (Formula × ℕ) → Type 0
AreOpenedIn x opened = (f : Formula) (m : ℕ) → Contains opened (f, m) → x.fresh f ≡ m
