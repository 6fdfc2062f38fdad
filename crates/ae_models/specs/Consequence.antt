-- What a derivation of a goal means: in each interpretation in which the axioms before the goal are true, so is the goal.
-- The things of an interpretation may be of any type E, and its reals any ordered field K.
use Rattle.std.specs.Prelude.{ℕ, true, nat_lt, List, ◌≡◌, length, slice_get, Some}
use Rattle.std.specs.List.{list_all}
use Rattle.ae_math.specs.Fractions.{ℚ}
use Rattle.ae_core.specs.Sorts.{is_closed_sort}
use Rattle.ae_core.specs.Putting.{instance}
use Rattle.ae_rules.specs.Derivations.{Derives, goal_body}
use Rattle.ae_core.specs.Signatures.{IsLawful, IsLawfulProblem}
use Rattle.ae_core.specs.declared.terms.Sort.{Sort}
use Rattle.ae_core.specs.declared.formulas.Formula.{Formula}
use Rattle.ae_core.specs.declared.problems.Signature.{Signature}
use Rattle.ae_core.specs.declared.problems.Problem.{Problem}
use Rattle.ae_core.specs.declared.problems.Item.TheVariants.{Axiom}
use Rattle.ae_core.specs.declared.proofs.Proof.{Proof}
use Rattle.ae_models.specs.Structures.{Structure, IsInterpretation}
use Rattle.ae_models.specs.Truth.{IsTrueIn}
use Rattle.ae_models.specs.Trees.{Tree}

-- each axiom before the goal at place g is true, with all closed sorts for its type variables
abbrev pub AxiomsAreTrue : Problem → ℕ → {E K : Type 0} → Structure E K → Type 0
AxiomsAreTrue p g M =
    (k : ℕ) (name : List ℕ) (vars : ℕ) (f : Formula) (ss : List Sort) → nat_lt k g ≡ true → slice_get p.items k ≡ Some (Axiom name vars f)
    → length ss ≡ vars → list_all (is_closed_sort p.signature) ss ≡ true → IsTrueIn p.signature M (instance ss f)

-- the goal is a consequence of the axioms before it: it is true wherever they are. Of a goal's own type variables an interpretation has
-- any things.
abbrev pub IsConsequence : Problem → ℕ → Formula → Type 0 → Type 0 → Type 0
IsConsequence p g goal E K = (M : Structure E K) → IsInterpretation p.signature M → AxiomsAreTrue p g M → IsTrueIn p.signature M goal

-- what is derived is a consequence
abbrev pub DerivationsAreSound : Type 0 → Type 0 → Type 0
DerivationsAreSound E K =
    (p : Problem) (g : ℕ) (goal : Formula) (proof : Proof) → IsLawfulProblem p → goal_body p g ≡ Some goal → Derives p g proof
    → IsConsequence p g goal E K

-- where an interpretation makes the axioms before a goal true, and not the goal, nothing derives it
abbrev pub NothingFalseIsDerived : Type 0 → Type 0 → Type 0
NothingFalseIsDerived E K =
    (p : Problem) (g : ℕ) (goal : Formula) → IsLawfulProblem p → goal_body p g ≡ Some goal
    → (M : Structure E K) → IsInterpretation p.signature M → AxiomsAreTrue p g M → ¬ (IsTrueIn p.signature M goal)
    → (proof : Proof) → ¬ (Derives p g proof)

-- each lawful signature has an interpretation, with trees as its things and the fractions as its reals
abbrev pub HaveInterpretations : Type 0
HaveInterpretations = (sig : Signature) → IsLawful sig → (M : Structure Tree ℚ) × IsInterpretation sig M
