-- The laws, as statements.
use Rattle.std.specs.Prelude.{ℕ, suc, ◌<◌, ◌≤◌, List, [], ◌≡◌, ◌⊎◌, Some}
use Rattle.std.specs.List.{Contains}
use Rattle.ae_core.specs.declared.formulas.Formula.{Formula, out-Formula}
use Rattle.ae_core.specs.declared.formulas.Lit.{Lit}
use Rattle.ae_core.specs.declared.problems.Problem.{Problem}
use Rattle.ae_core.specs.declared.terms.Term.{Term}
use Rattle.ae_rules.specs.Clauses.{Clause, yes_of, no_of}
use Rattle.ae_rules.specs.Derivations.{goal_body}
use Rattle.ae_rules.specs.Instances.{hypothesis, fresh_clause}
use Rattle.ae_journal.specs.InstanceLines.{HasGeneration}
use Rattle.ae_journal.specs.Standing.{Setting}
use Rattle.ae_journal.specs.declared.lines.Line.{Line}
use Rattle.ae_owed.specs.Generations.{IsCovered, IsJustified}
use Rattle.ae_owed.specs.Instances.{Instance, brought}
use Rattle.ae_owed.specs.Known.{IsYoung}
use Rattle.ae_store.specs.Stores.{Stored}
use Rattle.ae_ages.specs.Ages.{HasAge}
use Rattle.ae_ages.specs.Interned.{IsBrought, IsHad}
use Rattle.ae_ages.specs.declared.entries.Aged.{Aged}

-- what is had stays so where more is brought, and at each greater generation
abbrev pub WhatIsHadStays : Type 0
WhatIsHadStays =
    (g : ℕ) (old : Stored) (es : List Aged) (new : Stored) (fs : List Aged) (f h : Formula) (m n : ℕ) → IsBrought g old es new fs f → m ≤ n → IsHad old es m h → IsHad new fs n h

-- what was brought is had
abbrev pub BroughtOnesAreHad : Type 0
BroughtOnesAreHad = (g : ℕ) (old : Stored) (es : List Aged) (new : Stored) (fs : List Aged) (f : Formula) (n : ℕ) → IsBrought g old es new fs f → g ≤ n → IsHad new fs n f

-- what hypotheses and the goal bring is had at 0, what an instance brings at its number and one more, and what the `fresh` clause of an opened formula says beside
-- the formula itself at each generation of the formula
pub record AreAllHad (p : Problem) (g : ℕ) (opened : List (Formula × ℕ)) (instances : List Instance) (s : Stored) (es : List Aged) : Type 0 where
  pub hypotheses : (k : ℕ) (f : Formula) → hypothesis p g k [] ≡ Some f → IsHad s es 0 (yes_of f).formula
  pub goal : (f : Formula) → goal_body p g ≡ Some f → IsHad s es 0 (no_of f).formula
  pub instance_ones : (i : Instance) (l : Lit) → Contains instances i → Contains (brought p g i) l → IsHad s es (suc i.number) l.formula
  pub bodies : (f : Formula) (m n : ℕ) (c : Clause) (l : Lit) → Contains opened (f, m) → HasAge es n f → fresh_clause f m (out-Formula f) ≡ Some c → Contains c l → (l.formula ≡ f) ⊎ IsHad s es n l.formula

-- then the terms of each formula of a generation are known at it
abbrev pub HadOnesCover : Type 0
HadOnesCover =
    (p : Problem) (g bound : ℕ) (opened : List (Formula × ℕ)) (instances : List Instance) (s : Stored) (es : List Aged) → AreAllHad p g opened instances s es → IsCovered p g opened instances bound s

-- an entry below the bound is a generation of the journal
abbrev pub AreJustifiedAges : Setting → ℕ → List Aged → List Line → Type 0
AreJustifiedAges x bound es js = (n : ℕ) (h : Formula) → n < bound → HasAge es n h → HasGeneration x js n h

-- bringing a formula at a generation that it has by the journal leaves no generation too small
abbrev pub BringingJustifies : Type 0
BringingJustifies =
    (x : Setting) (bound g : ℕ) (js : List Line) (old : Stored) (es : List Aged) (new : Stored) (fs : List Aged) (f : Formula) → old.signature ≡ x.problem.signature
    → IsBrought g old es new fs f → (g < bound → HasGeneration x js g f) → IsJustified x bound old js → AreJustifiedAges x bound es js → IsJustified x bound new js × AreJustifiedAges x bound fs js

-- what is brought at a generation leaves what is known at smaller ones
abbrev pub BringingIsLate : Type 0
BringingIsLate = (g n : ℕ) (old : Stored) (es : List Aged) (new : Stored) (fs : List Aged) (f : Formula) (t : Term) → IsBrought g old es new fs f → n < g → IsYoung new n t → IsYoung old n t
