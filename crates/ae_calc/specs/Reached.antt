-- What is stated at the lines of a block and of a proof that are reached, and the first product or sum that leaves the limits.
use Rattle.std.specs.Prelude.{ℕ, ◌⊎◌, List, [], ◌∷◌, ◌++◌, ◌≡◌, true, Some, None}
use Rattle.ae_num.specs.Forms.{Step, first_wide}
use Rattle.ae_num.specs.declared.numbers.Wide.{Wide}
use Rattle.ae_core.specs.declared.formulas.Lit.{Lit}
use Rattle.ae_core.specs.declared.problems.Problem.{Problem}
use Rattle.ae_core.specs.declared.problems.Signature.{Signature}
use Rattle.ae_core.specs.declared.proofs.EqLine.{EqLine}
use Rattle.ae_core.specs.declared.proofs.Ending.{Ending}
use Rattle.ae_core.specs.declared.proofs.ClauseLine.{ClauseLine}
use Rattle.ae_core.specs.declared.proofs.ClauseLine.TheVariants.{Block}
use Rattle.ae_rules.specs.Lines.{Allowed, fact_ok, states}
use Rattle.ae_rules.specs.Derivations.{clause_ok, IsAllowed}
use Rattle.ae_numeric.specs.Stated.{line_steps, ending_steps}

-- nothing that is stated where something is reached leaves the limits
pub record Fit (Reached : List Step → Type 0) : Type 0 where
  pub each : (steps : List Step) → Reached steps → first_wide steps ≡ None

-- it is the first of what is stated somewhere that is reached which leaves the limits
pub record FirstWide (Reached : List Step → Type 0) (wide : Wide) : Type 0 where
  pub steps : List Step
  pub reached : Reached steps
  pub first : first_wide steps ≡ Some wide

-- a derived line is allowed after the earlier ones
abbrev pub IsLineAllowed : Signature → List Lit → List EqLine → EqLine → Type 0
IsLineAllowed sig hyps earlier l = (fact_ok sig (states l) ≡ true) × Allowed sig hyps earlier l

-- what is stated at one of the lines, after earlier ones, or at the ending. It is reached where each line before it is allowed and states nothing that leaves
-- the limits; so after a line that isn't allowed nothing is stated.
abbrev pub BlockReaches : Signature → List Lit → Ending → List EqLine → List EqLine → List Step → Type 0
BlockReaches sig hyps e earlier [] ss = ss ≡ ending_steps sig earlier e
BlockReaches sig hyps e earlier (l ∷ ls) ss =
    (ss ≡ line_steps sig earlier l)
    ⊎ (IsLineAllowed sig hyps earlier l × (first_wide (line_steps sig earlier l) ≡ None) × BlockReaches sig hyps e (earlier ++ l ∷ []) ls ss)

-- of the clause lines a block alone states products and sums, and only where its hypotheses are closed and well sorted
abbrev pub LineReaches : Problem → ClauseLine → List Step → Type 0
LineReaches p (Block b) ss = (clause_ok p.signature b.deriv.hyps ≡ true) × BlockReaches p.signature b.deriv.hyps b.ending [] b.deriv.lines ss
LineReaches p _ ss = ⊥

-- what is stated at one of the lines of a proof, after earlier ones: each line before it is allowed and states nothing that leaves the limits
abbrev pub ProofReaches : Problem → ℕ → List ClauseLine → List ClauseLine → List Step → Type 0
ProofReaches p g earlier [] ss = ⊥
ProofReaches p g earlier (l ∷ ls) ss =
    LineReaches p l ss ⊎ (IsAllowed p g earlier l × Fit (LineReaches p l) × ProofReaches p g (earlier ++ l ∷ []) ls ss)
