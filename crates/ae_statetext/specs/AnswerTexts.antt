-- A goal's part of the output: the line that names the goal and its answer, and the text of what was found.
use Rattle.std.specs.Prelude.{ℕ, List, ◌++◌, decimal, None, codes}
use Rattle.ae_core.specs.declared.problems.Signature.{Signature}
use Rattle.ae_core.specs.declared.proofs.Proof.{Proof}
use Rattle.ae_journal.specs.Journals.{counted_in}
use Rattle.ae_journal.specs.declared.answers.Answer.{Answer}
use Rattle.ae_journal.specs.declared.answers.Answer.TheVariants as answer
use Rattle.ae_prooftext.specs.Texts.{proof_text}
use Rattle.ae_stategrammar.specs.StateTexts.{state_text, story_text, number_text}

-- a proof is written in version 1
abbrev pub first_version : Signature → Proof → List ℕ
first_version sig p = proof_text sig (record { axioms = None; proof = p })

abbrev pub goal_line : List ℕ → List ℕ → List ℕ
goal_line name words = codes "goal " ++ name ++ words ++ codes "\n"

-- the number of steps is that of the journal's counted lines
unfoldable pub answer_text : Signature → List ℕ → Answer → List ℕ
answer_text sig name (answer.Valid p) = goal_line name (codes " Valid") ++ first_version sig p
answer_text sig name (answer.Unknown s) = goal_line name (codes " I don't know") ++ state_text sig s
answer_text sig name (answer.Steps s) = goal_line name (codes " Limit steps " ++ decimal (counted_in s.lines)) ++ story_text sig s
answer_text sig name (answer.Number s at) = goal_line name (codes " Limit number") ++ number_text sig s at
