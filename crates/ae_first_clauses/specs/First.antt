-- The lines that a search for a goal begins with, and the clause that each of them states.
use Rattle.std.specs.Prelude.{ℕ, List, [], ◌∷◌, ◌≡◌, Some}
use Rattle.ae_base.specs.Relations.{Pairwise}
use Rattle.ae_core.specs.Putting.{put_formula}
use Rattle.ae_core.specs.declared.formulas.Formula.{Formula, All}
use Rattle.ae_core.specs.declared.formulas.Quant.{Quant}
use Rattle.ae_core.specs.declared.problems.Problem.{Problem}
use Rattle.ae_core.specs.declared.proofs.ClauseLine.{ClauseLine}
use Rattle.ae_core.specs.declared.proofs.ClauseLine.TheVariants.{Hyp, Goal, Fresh}
use Rattle.ae_rules.specs.Clauses.{Clause, yes_of, no_of, is_true}
use Rattle.ae_rules.specs.Instances.{hypothesis, count_from}
use Rattle.ae_rules.specs.Derivations.{conclusion, goal_body, AreAllowed}
use Rattle.ae_journal.specs.Standing.{Setting}
use Rattle.ae_core.specs.declared.terms.Term.{Term}
use Rattle.ae_open_states.specs.Finished.{HasFirstClauses}

-- the search for a goal, its names numbered so; the constants of each block count from 0
abbrev pub search_setting : Problem → ℕ → List Term → Setting
search_setting p g names = record { problem = p; goal = g; names = names; fresh = λ f. 0 }

module _ (p : Problem) (g : ℕ) where
  -- a hypothesis, the goal's negation, or where the goal is a block, its body with constants numbered from 0
  pub data IsFirstLine : ClauseLine → Clause → Type 0 where
    a_hypothesis : (k : ℕ) (f : Formula) → hypothesis p g k [] ≡ Some f → IsFirstLine (Hyp k []) (yes_of f ∷ [])
    the_goal : (f : Formula) → goal_body p g ≡ Some f → IsFirstLine Goal (no_of f ∷ [])
    the_block : (q : Quant) → goal_body p g ≡ Some (All q) → IsFirstLine (Fresh (All q) 0) (is_true (All q) ∷ no_of (put_formula (count_from 0 q.sorts) q.body) ∷ [])

  abbrev pub States : ClauseLine → Clause → Type 0
  States l c = IsFirstLine l c × (conclusion p g l ≡ Some c)

  -- a setting of the search in which the constants of the goal's block count from 0
  pub record IsFirstSetting (x : Setting) : Type 0 where
    pub problem : x.problem ≡ p
    pub goal : x.goal ≡ g
    pub fresh : (q : Quant) → goal_body p g ≡ Some (All q) → x.fresh (All q) ≡ 0

  -- such lines, allowed, each with its clause, and none is left out
  pub record AreFirst (lines : List ClauseLine) (clauses : List Clause) : Type 0 where
    pub allowed : AreAllowed p g [] lines
    pub states : Pairwise States lines clauses
    pub firsts : HasFirstClauses p g clauses
