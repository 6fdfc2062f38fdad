-- What a saturated state makes true, and that its goal has no ground proof.
use Rattle.std.specs.Prelude.{ℕ, Bool, true, List, [], ◌≡◌, map, Some}
use Rattle.std.specs.List.{AllByRecursion, Contains}
use Rattle.ae_base.specs.Options.{all_known}
use Rattle.ae_core.specs.Constants.{formula_constants}
use Rattle.ae_core.specs.Putting.{put_formula}
use Rattle.ae_core.specs.Signatures.{IsLawful, IsLawfulProblem}
use Rattle.ae_core.specs.Sorts.{formula_ok, sort_of}
use Rattle.ae_core.specs.declared.formulas.Formula.{Formula}
use Rattle.ae_core.specs.declared.formulas.Lit.{Lit}
use Rattle.ae_core.specs.declared.problems.Problem.{Problem}
use Rattle.ae_core.specs.declared.problems.Signature.{Signature}
use Rattle.ae_core.specs.declared.proofs.ClauseLine.{ClauseLine}
use Rattle.ae_core.specs.declared.proofs.Proof.{Proof}
use Rattle.ae_core.specs.declared.terms.Sort.{Sort}
use Rattle.ae_core.specs.declared.terms.Term.{Term}
use Rattle.ae_rules.specs.Clauses.{Clause, literal}
use Rattle.ae_rules.specs.Derivations.{AreAllowed, conclusion}
use Rattle.ae_rules.specs.Valuations.{clause_holds}
use Rattle.ae_journal.specs.Evaluate.{Assignment, IsAssignment, is_true_at, unassigned, value, with_constructors}
use Rattle.ae_journal.specs.Ground.{IsGround, IsGroundFormula, IsGroundLine, IsGroundProof, is_simple}
use Rattle.ae_journal.specs.States.{IsSaturated}
use Rattle.ae_journal.specs.Systems.{IsCompleted}
use Rattle.ae_journal.specs.declared.systems.Saturated.{Saturated}
use Rattle.ae_journal.specs.declared.systems.System.{System}

-- each literal that stands, without quantifier and inequality, is true
abbrev pub LiteralsAreTrue : Type 0
LiteralsAreTrue =
    (p : Problem) (g bound : ℕ) (st : Saturated) → IsLawful p.signature → IsSaturated p g st bound
    → (way : Bool) (f : Formula) (sign : Bool) → is_simple f ≡ true → formula_ok p.signature f ≡ true → Contains st.literals
    (literal sign f)
    → is_true_at p.signature st.system way unassigned st.literals f ≡ sign

-- terms put for the variables of a block, and constants with the values of these terms, give a formula of the ground fragment one truth
abbrev pub PuttingKeepsTruth : Type 0
PuttingKeepsTruth =
    (sig : Signature) (y : System) → IsLawful sig → IsCompleted sig y → (way : Bool) (assigned : Assignment)
    → IsAssignment sig y way assigned → (literals : List Lit)
    → (sorts : List Sort) (constants terms : List Term) → all_known (map (sort_of sig) constants) ≡ Some sorts → all_known
    (map (sort_of sig) terms) ≡ Some sorts
    → map (value sig y way assigned) constants ≡ map (value sig y way unassigned) terms
    → (f : Formula) → IsGroundFormula sig sorts f → formula_constants f ≡ []
    → is_true_at sig y way assigned literals (put_formula constants f) ≡ is_true_at sig y way unassigned literals (put_formula terms f)

-- Of a goal of the ground fragment with a saturated state: after the allowed lines of a ground proof, however they go on, fresh constants can have values
-- of terms so that each line's clause is true in the state.
abbrev pub GroundClausesAreTrue : Type 0
GroundClausesAreTrue =
    (p : Problem) (g bound : ℕ) (st : Saturated) → IsLawfulProblem p → IsSaturated p g st bound → IsGround p g
    → (lines : List ClauseLine) → AreAllowed p g [] lines → AllByRecursion (IsGroundLine p g) lines
    → (assigned : Assignment) × IsAssignment p.signature st.system with_constructors assigned
    × AllByRecursion (λ l. (c : Clause) → conclusion p g l ≡ Some c → clause_holds
    (is_true_at p.signature st.system with_constructors assigned st.literals) c ≡ true) lines

-- so the goal has no ground proof, whose last clause is empty
abbrev pub NoGroundProof : Type 0
NoGroundProof =
    (p : Problem) (g bound : ℕ) (st : Saturated) → IsLawfulProblem p → IsSaturated p g st bound → IsGround p g → (proof : Proof)
    → IsGroundProof p g proof → ⊥
