-- What the answer to a goal is worth.
use Rattle.std.specs.Prelude.{ℕ, ◌<◌, ◌≤◌, List, length}
use Rattle.ae_core.specs.declared.terms.Term.{Term}
use Rattle.ae_core.specs.declared.problems.Problem.{Problem}
use Rattle.ae_core.specs.declared.proofs.Proof.{Proof}
use Rattle.ae_journal.specs.Answers.{IsAnswer}
use Rattle.ae_journal.specs.Ground.{IsGround, IsGroundProof}
use Rattle.ae_journal.specs.Journals.{counted_in}
use Rattle.ae_journal.specs.declared.answers.Answer.{Answer}
use Rattle.ae_journal.specs.declared.answers.Answer.TheVariants.{Valid, Unknown, Steps, Number}
use Rattle.ae_reach.specs.Budget.{IsConjunctive, HasNoSymbols, HasNoEnumerations, HoldsTerms}
use Rattle.ae_search_options.specs.declared.limits.Limits.{Limits}

-- of a goal of the ground fragment: a proof is a ground proof, and where the answer is a saturated state there is none
abbrev pub IsGroundAnswer : Problem → ℕ → Answer → Type 0
IsGroundAnswer p g (Valid proof) = IsGroundProof p g proof
IsGroundAnswer p g (Unknown st) = (proof : Proof) → ¬ (IsGroundProof p g proof)
IsGroundAnswer p g _ = Unit {0}

-- at most as many lines were counted as these are terms; fewer, where the limit stopped the search
abbrev pub IsWithin : Answer → List Term → Type 0
IsWithin (Steps story) ts = counted_in story.lines < length ts
IsWithin (Number story at) ts = counted_in story.lines ≤ length ts
IsWithin _ ts = Unit {0}

pub record IsRightAnswer (p : Problem) (g : ℕ) (limits : Limits) (a : Answer) : Type 0 where
  pub answer : IsAnswer p g limits.steps limits.generations a
  pub ground : IsGround p g → IsGroundAnswer p g a
  -- where nothing is left to choose, and no AC symbol and no enumeration occurs, the terms that occur bound the lines
  pub within : IsGround p g → IsConjunctive p g → HasNoSymbols p g → HasNoEnumerations p g → (ts : List Term) → HoldsTerms p g ts → IsWithin a ts
