-- Parts of goals in an output: which have a text, and what it is.
use Rattle.std.specs.Prelude.{ℕ, ◌≤◌, List, [], ◌∷◌, ◌++◌, None, codes, decimal}
use Rattle.ae_core.specs.declared.problems.Signature.{Signature}
use Rattle.ae_journal.specs.Journals.{counted_in}
use Rattle.ae_journal.specs.declared.answers.Answer.{Answer}
use Rattle.ae_journal.specs.declared.answers.Answer.TheVariants as answer
use Rattle.ae_parts.specs.declared.parts.Part.{Part}
use Rattle.ae_parts.specs.declared.parts.Part.TheVariants as part
use Rattle.ae_prooftext.specs.Grammar.{proof_code}
use Rattle.ae_prooftext.specs.Texts.{proof_text}
use Rattle.ae_stategrammar.specs.Journals.{story}
use Rattle.ae_stategrammar.specs.States.{state}
use Rattle.ae_stategrammar.specs.StateTexts.{state_text, story_text, number_text}
use Rattle.ae_stategrammar.specs.Widths.{number_code}
use Rattle.ae_statetext.specs.AnswerTexts.{goal_line}

-- what stands behind the goal's name in its line
abbrev pub answer_words : Part → List ℕ
answer_words (part.Valid p) = codes " Valid"
answer_words (part.Unknown s) = codes " I don't know"
answer_words (part.Steps n s) = codes " Limit steps " ++ decimal n
answer_words (part.Number s w) = codes " Limit number"

-- what stands behind that line
abbrev pub found_text : Signature → Part → List ℕ
found_text sig (part.Valid p) = proof_text sig p
found_text sig (part.Unknown s) = state_text sig s
found_text sig (part.Steps n s) = story_text sig s
found_text sig (part.Number s w) = number_text sig s w

abbrev pub part_text : Signature → List ℕ → Part → List ℕ
part_text sig name p = goal_line name (answer_words p) ++ found_text sig p

-- the part has a text: what was found has one, and there are from 1 to 1,000,000 steps
abbrev pub PartStands : Signature → Part → Type 0
PartStands sig (part.Valid p) = (proof_code sig).Fits p
PartStands sig (part.Unknown s) = (state sig).Fits s
PartStands sig (part.Steps n s) = (1 ≤ n) × (n ≤ 1000000) × (story sig).Fits s
PartStands sig (part.Number s w) = (number_code sig).Fits (s, w)

-- a part for each name, each with a text
abbrev pub PartsStand : Signature → List (List ℕ) → List Part → Type 0
PartsStand sig [] [] = Unit {0}
PartsStand sig [] (p ∷ ps) = ⊥
PartsStand sig (n ∷ ns) [] = ⊥
PartsStand sig (n ∷ ns) (p ∷ ps) = PartStands sig p × PartsStand sig ns ps

-- their texts in order
abbrev pub parts_text : Signature → List (List ℕ) → List Part → List ℕ
parts_text sig [] ps = []
parts_text sig (n ∷ ns) [] = []
parts_text sig (n ∷ ns) (p ∷ ps) = part_text sig n p ++ parts_text sig ns ps

-- the part of an output that an answer is written as, its proof in version 1
abbrev pub part_of : Answer → Part
part_of (answer.Valid p) = part.Valid (record { axioms = None; proof = p })
part_of (answer.Unknown s) = part.Unknown s
part_of (answer.Steps s) = part.Steps (counted_in s.lines) s
part_of (answer.Number s at) = part.Number s at
