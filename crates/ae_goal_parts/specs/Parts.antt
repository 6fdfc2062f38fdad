-- What is printed for an item of a problem, with the limits of the search.
use Rattle.std.specs.Prelude.{ℕ, List, [], ◌≡◌, slice_get, Some}
use Rattle.ae_core.specs.declared.formulas.Formula.{Formula}
use Rattle.ae_core.specs.declared.problems.Item.TheVariants.{Axiom, Goal}
use Rattle.ae_core.specs.declared.problems.Problem.{Problem}
use Rattle.ae_core.specs.declared.problems.Signature.{Signature}
use Rattle.ae_core.specs.declared.proofs.Proof.{Proof}
use Rattle.ae_journal.specs.declared.answers.Answer.{Answer}
use Rattle.ae_journal.specs.declared.answers.Answer.TheVariants.{Valid, Unknown, Steps, Number}
use Rattle.ae_parts.specs.Parts.{part_text}
use Rattle.ae_parts.specs.declared.parts.Part.TheVariants as part
use Rattle.ae_printed.specs.ReadBack.{IsReadBack}
use Rattle.ae_search.specs.Promises.{IsRightAnswer}
use Rattle.ae_search_options.specs.declared.limits.Limits.{Limits}
use Rattle.ae_statetext.specs.AnswerTexts.{answer_text}
use Rattle.ae_trim.specs.Axioms.{AreAxioms}
use Rattle.ae_trim.specs.Used.{AllUsed}

-- the text of a proof, in version 2: each of its lines is used, and the places of its axioms are listed
pub record IsProofWritten (sig : Signature) (name : List ℕ) (proof : Proof) (bytes : List ℕ) : Type 0 where
  pub used : AllUsed proof.lines
  pub axioms : List ℕ
  pub are_axioms : AreAxioms proof axioms
  pub written : bytes ≡ part_text sig name (part.Valid (record { axioms = Some axioms; proof = proof }))

-- the text of an answer, under the name of its goal
abbrev pub IsWritten : Signature → List ℕ → Answer → List ℕ → Type 0
IsWritten sig name (Valid proof) bytes = IsProofWritten sig name proof bytes
IsWritten sig name (Unknown st) bytes = bytes ≡ answer_text sig name (Unknown st)
IsWritten sig name (Steps story) bytes = bytes ≡ answer_text sig name (Steps story)
IsWritten sig name (Number story at) bytes = bytes ≡ answer_text sig name (Number story at)

-- of an axiom nothing; of a goal the text of a right answer
pub data IsPart (p : Problem) (k : ℕ) (limits : Limits) (bytes : List ℕ) : Type 0 where
  of_axiom : (name : List ℕ) (vars : ℕ) (body : Formula) → slice_get p.items k ≡ Some (Axiom name vars body) → bytes ≡ [] → IsPart p k limits bytes
  of_goal : (name : List ℕ) (vars : ℕ) (body : Formula) (answer : Answer) → slice_get p.items k ≡ Some (Goal name vars body)
      → IsRightAnswer p k limits answer → IsWritten p.signature name answer bytes → IsPart p k limits bytes

-- what is printed for a goal is read back as a part of that goal
abbrev pub IsReadable : Problem → ℕ → List ℕ → Type 0
IsReadable p k bytes = (name : List ℕ) (vars : ℕ) (body : Formula) → slice_get p.items k ≡ Some (Goal name vars body) → IsReadBack p k bytes
