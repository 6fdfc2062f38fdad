-- What is shown of an answer.
use Rattle.std.specs.Prelude.{ℕ, ◌≤◌, List, ◌≡◌}
use Rattle.ae_core.specs.declared.problems.Problem.{Problem}
use Rattle.ae_core.specs.declared.problems.Signature.{Signature}
use Rattle.ae_core.specs.declared.proofs.Proof.{Proof}
use Rattle.ae_journal.specs.Answers.{IsLegalWidth}
use Rattle.ae_journal.specs.Journals.{counted_in}
use Rattle.ae_journal.specs.Legal.{IsLegalJournal}
use Rattle.ae_journal.specs.Systems.{IsCompleted}
use Rattle.ae_journal.specs.declared.answers.Answer.{Answer}
use Rattle.ae_journal.specs.declared.answers.Answer.TheVariants.{Valid, Unknown, Steps, Number}
use Rattle.ae_legal_states.specs.Writable.{IsWithinLimits}
use Rattle.ae_legal_stories.specs.Writable.{IsStoryWithin, IsWidthWithin}
use Rattle.ae_rules.specs.Derivations.{Derives}
use Rattle.ae_statetext.specs.AnswerTexts.{answer_text}
use Rattle.ae_trim.specs.Trimmed.{IsTrimmed}
use Rattle.ae_writable.specs.Writable.{IsWritableProof, IsWritableState, IsWritableStory}
use Rattle.ae_goal_parts.specs.Parts.{IsProofWritten}

-- what a right answer has, beside counts of 64 bits, to be read back: it is writable, and what it says holds
abbrev pub MayBeShown : Problem → ℕ → Answer → Type 0
MayBeShown p k (Valid proof) = Derives p k proof × IsWritableProof proof
MayBeShown p k (Unknown st) = IsCompleted p.signature st.system × IsWritableState p.signature st
MayBeShown p k (Steps story) =
    (1 ≤ counted_in story.lines) × (counted_in story.lines ≤ 1000000) × ((bound : ℕ) × IsLegalJournal p k bound story) × IsWritableStory p.signature story
MayBeShown p k (Number story at) = ((most : ℕ) × (bound : ℕ) × IsLegalWidth p k most bound story at) × IsWritableStory p.signature story

-- an answer that is no proof
abbrev pub IsOpen : Answer → Type 0
IsOpen (Valid proof) = ⊥
IsOpen _ = Unit {0}

-- such an answer keeps within the limits of its text
abbrev pub IsFoundWithin : Signature → Answer → Type 0
IsFoundWithin sig (Valid proof) = Unit {0}
IsFoundWithin sig (Unknown st) = IsWithinLimits sig st
IsFoundWithin sig (Steps story) = IsStoryWithin sig story
IsFoundWithin sig (Number story at) = IsWidthWithin sig story at

-- the used lines of the proof, which derive what it derives
pub record IsShownProof (sig : Signature) (name : List ℕ) (proof : Proof) (bytes : List ℕ) : Type 0 where
  pub trimmed : Proof
  pub is_trimmed : IsTrimmed proof trimmed
  pub derives : (p : Problem) (g : ℕ) → Derives p g proof → Derives p g trimmed
  pub written : IsProofWritten sig name trimmed bytes

abbrev pub IsShown : Signature → List ℕ → Answer → List ℕ → Type 0
IsShown sig name (Valid proof) bytes = IsShownProof sig name proof bytes
IsShown sig name (Unknown st) bytes = bytes ≡ answer_text sig name (Unknown st)
IsShown sig name (Steps story) bytes = bytes ≡ answer_text sig name (Steps story)
IsShown sig name (Number story at) bytes = bytes ≡ answer_text sig name (Number story at)
