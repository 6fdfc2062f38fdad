-- What a part says of a goal of the ground fragment.
use Rattle.std.specs.Prelude.{ℕ, List, ◌≡◌, slice_get, Some}
use Rattle.ae_core.specs.declared.formulas.Formula.{Formula}
use Rattle.ae_core.specs.declared.problems.Item.TheVariants.{Goal}
use Rattle.ae_core.specs.declared.problems.Problem.{Problem}
use Rattle.ae_core.specs.declared.proofs.Proof.{Proof}
use Rattle.ae_journal.specs.Answers.{IsLegalWidth}
use Rattle.ae_journal.specs.Ground.{IsGroundProof}
use Rattle.ae_journal.specs.Journals.{counted_in}
use Rattle.ae_journal.specs.Legal.{IsLegalJournal}
use Rattle.ae_journal.specs.States.{IsSaturated}
use Rattle.ae_journal.specs.declared.answers.Answer.TheVariants.{Unknown, Steps, Number}
use Rattle.ae_journal.specs.declared.answers.WideAt.{WideAt}
use Rattle.ae_journal.specs.declared.lines.Story.{Story}
use Rattle.ae_journal.specs.declared.systems.Saturated.{Saturated}
use Rattle.ae_search_options.specs.declared.limits.Limits.{Limits}
use Rattle.ae_statetext.specs.AnswerTexts.{answer_text}
use Rattle.ae_goal_parts.specs.Parts.{IsProofWritten}

-- the item at place k is the goal of this name
abbrev pub IsNameOf : Problem → ℕ → List ℕ → Type 0
IsNameOf p k name = (vars : ℕ) × (body : Formula) × (slice_get p.items k ≡ Some (Goal name vars body))

-- under the goal's name: a ground proof; a saturated state, and no ground proof derives the goal; a legal journal with as many counted lines as were allowed; or a
-- licensed width
pub data IsGroundPart (p : Problem) (k : ℕ) (limits : Limits) (bytes : List ℕ) : Type 0 where
  has_proof : (name : List ℕ) (proof : Proof) → IsNameOf p k name → IsGroundProof p k proof → IsProofWritten p.signature name proof bytes → IsGroundPart p k limits bytes
  has_state : (name : List ℕ) (state : Saturated) → IsNameOf p k name → IsSaturated p k state limits.generations → ((proof : Proof) → ¬ (IsGroundProof p k proof))
      → bytes ≡ answer_text p.signature name (Unknown state) → IsGroundPart p k limits bytes
  has_journal : (name : List ℕ) (story : Story) → IsNameOf p k name → IsLegalJournal p k limits.generations story → counted_in story.lines ≡ limits.steps
      → bytes ≡ answer_text p.signature name (Steps story) → IsGroundPart p k limits bytes
  has_width : (name : List ℕ) (story : Story) (at : WideAt) → IsNameOf p k name → IsLegalWidth p k limits.steps limits.generations story at
      → bytes ≡ answer_text p.signature name (Number story at) → IsGroundPart p k limits bytes
