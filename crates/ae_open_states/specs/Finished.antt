-- A search for a goal without inequality and inner quantifier that has nothing left to do.
use Rattle.std.specs.Prelude.{ℕ, ◌<◌, true, List, [], ◌∷◌, ◌≡◌, ◌⊎◌, length, slice_get, Some, None}
use Rattle.std.specs.List.{Contains}
use Rattle.ae_core.specs.Sorts.{formula_ok}
use Rattle.ae_core.specs.Putting.{put_formula}
use Rattle.ae_core.specs.declared.terms.Term.{Term}
use Rattle.ae_core.specs.declared.formulas.Formula.{Formula, All}
use Rattle.ae_core.specs.declared.formulas.Lit.{Lit}
use Rattle.ae_core.specs.declared.formulas.Quant.{Quant}
use Rattle.ae_core.specs.declared.problems.Problem.{Problem}
use Rattle.ae_core.specs.declared.problems.Item.TheVariants.{Axiom}
use Rattle.ae_rules.specs.Clauses.{Clause, yes_of, no_of, is_true}
use Rattle.ae_rules.specs.Instances.{hypothesis, exhaustion, count_from}
use Rattle.ae_rules.specs.Derivations.{goal_body}
use Rattle.ae_explain.specs.declared.trail.Assigned.{Assigned}
use Rattle.ae_explain.specs.Trail.{at, IsLawful}
use Rattle.ae_journal.specs.Ground.{is_simple}
use Rattle.ae_journal.specs.Systems.{IsName, IsCompleted}
use Rattle.ae_journal.specs.declared.systems.System.{System}
use Rattle.ae_settled.specs.Met.{Satisfies}
use Rattle.ae_store.specs.Stores.{Stored}
use Rattle.ae_theory.specs.Names.{terms_in}
use Rattle.ae_theory.specs.Noting.{literals}
use Rattle.ae_sat.specs.Marked.{atoms}
use Rattle.ae_sat.specs.Search.{AllNamed, IsOpen}
use Rattle.ae_sat.specs.Standing.{IsOneOf}
use Rattle.ae_open_states.specs.Choices.{IsChoiceOf}

module _ (p : Problem) (g : ℕ) where
  -- a formula without quantifier and inequality, or the goal where that is one `forall` block
  pub data IsGroundOrGoal : Formula → Type 0 where
    ground : {f : Formula} → is_simple f ≡ true → IsGroundOrGoal f
    the_goal : (q : Quant) → goal_body p g ≡ Some (All q) → IsGroundOrGoal (All q)

  -- the hypotheses, the goal's negation, and where the goal is a block, its body for some constants, are among the clauses
  pub record HasFirstClauses (clauses : List Clause) : Type 0 where
    pub hypotheses : (k : ℕ) (f : Formula) → hypothesis p g k [] ≡ Some f → IsOneOf clauses (yes_of f ∷ [])
    pub goal : (f : Formula) → goal_body p g ≡ Some f → IsOneOf clauses (no_of f ∷ [])
    pub block : (q : Quant) → goal_body p g ≡ Some (All q) → (m : ℕ) × IsOneOf clauses (is_true (All q) ∷ no_of (put_formula (count_from m q.sorts) q.body) ∷ [])

  -- the literals of the clauses are closed and well sorted, and of such formulas
  pub record AreOverGround (clauses : List Clause) : Type 0 where
    pub ground : (c : Clause) (l : Lit) → IsOneOf clauses c → Contains c l → IsGroundOrGoal l.formula
    pub sorted : (c : Clause) (l : Lit) → IsOneOf clauses c → Contains c l → formula_ok p.signature l.formula ≡ true

  -- the hypotheses have no type variables; the clauses of the search; its trail, in which each clause has a true literal; and a completed system of all names,
  -- each of which is a constructor, or has its clause where its sort is an enumeration, in which the atoms of the trail hold
  pub record IsFinished (s : Stored) (t : List Assigned) (clauses : List Clause) (y : System) : Type 0 where
    pub not_varied : (k : ℕ) (name : List ℕ) (v : ℕ) (f : Formula) → k < g → slice_get p.items k ≡ Some (Axiom name v f) → v ≡ 0
    pub firsts : HasFirstClauses clauses
    pub over : AreOverGround clauses
    pub lawful : IsLawful t clauses
    pub decided : (j : ℕ) → j < length t → (at t j).by ≡ None → (c : Clause) × IsOneOf clauses c × Contains c (at t j).lit
    pub all_true : IsOpen t clauses
    pub named : AllNamed s clauses
    pub names : y.names ≡ terms_in s
    pub choices : (n : ℕ) (u : Term) (c : Clause) → IsName y n u → exhaustion p.signature u ≡ Some c → IsChoiceOf p.signature u u ⊎ IsOneOf clauses c
    pub completed : IsCompleted p.signature y
    pub satisfied : Satisfies p.signature y (literals (atoms t))
