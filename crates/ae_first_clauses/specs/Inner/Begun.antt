-- The lines so far.
use Rattle.std.specs.Prelude.{ℕ, ◌<◌, Bool, true, false, List, [], ◌∷◌, ◌++◌, ◌≡◌, Some, None}
use Rattle.ae_base.specs.Relations.{Pairwise}
use Rattle.ae_core.specs.declared.formulas.Formula.{Formula, Formula-F}
use Rattle.ae_core.specs.declared.formulas.Formula.TheOpen as layer
use Rattle.ae_core.specs.declared.formulas.Quant.{Quant}
use Rattle.ae_core.specs.declared.problems.Problem.{Problem}
use Rattle.ae_core.specs.declared.proofs.ClauseLine.{ClauseLine}
use Rattle.ae_rules.specs.Clauses.{Clause, yes_of, no_of}
use Rattle.ae_rules.specs.Instances.{hypothesis}
use Rattle.ae_rules.specs.Derivations.{conclusion, goal_body, AreAllowed}
use Rattle.ae_new_constants.specs.Below.{AreLinesBelow}
use Rattle.ae_sat.specs.Standing.{IsOneOf}
use Rattle.ae_first_clauses.specs.First.{States}

-- a `forall` block, by the outermost part
abbrev pub is_forall : Formula-F Formula Quant → Bool
is_forall (layer.All q) = true
is_forall _ = false

module _ (p : Problem) (g : ℕ) where
  -- a line was put behind the others with its clause, or states none
  pub data IsAdded (l : ClauseLine) (ls : List ClauseLine) (cs : List Clause) : List ClauseLine → List Clause → Type 0 where
    left_out : conclusion p g l ≡ None → IsAdded l ls cs ls cs
    with_clause : (c : Clause) → conclusion p g l ≡ Some c → IsAdded l ls cs (ls ++ l ∷ []) (cs ++ c ∷ [])

  -- allowed lines with their clauses, in which no fresh constant occurs; the hypotheses of places below n are there
  pub record IsBegun (n : ℕ) (lines : List ClauseLine) (clauses : List Clause) : Type 0 where
    pub allowed : AreAllowed p g [] lines
    pub states : Pairwise (States p g) lines clauses
    pub unmarked : AreLinesBelow p g 0 lines
    pub hypotheses : (k : ℕ) (f : Formula) → k < n → hypothesis p g k [] ≡ Some f → IsOneOf clauses (yes_of f ∷ [])

  -- the goal is there too
  pub record HasGoal (lines : List ClauseLine) (clauses : List Clause) : Type 0 where
    pub begun : IsBegun g lines clauses
    pub goal : (f : Formula) → goal_body p g ≡ Some f → IsOneOf clauses (no_of f ∷ [])
