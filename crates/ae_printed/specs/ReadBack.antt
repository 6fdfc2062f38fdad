-- The bytes that are printed for a goal, read as a part of an output.
use Rattle.std.specs.Prelude.{◌≡◌, ◌⊎◌, ℕ, List, slice_get, Option, Some, None}
use Rattle.ae_core.specs.declared.formulas.Formula.{Formula}
use Rattle.ae_core.specs.declared.problems.Item.TheVariants.{Goal}
use Rattle.ae_core.specs.declared.problems.Problem.{Problem}
use Rattle.ae_parts.specs.Parts.{PartStands, part_text}
use Rattle.ae_parts.specs.declared.parts.Part.{Part}
use Rattle.ae_parts.specs.declared.parts.Part.TheVariants as part
use Rattle.ae_prooftext.specs.declared.proofs.ProofText.{ProofText}
use Rattle.ae_rules.specs.Derivations.{Derives}
use Rattle.ae_verdicts.specs.Verdicts.{ListsItsAxioms}
use Rattle.ae_verdicts.specs.declared.lines.Verdict.{Verdict}
use Rattle.ae_verdicts.specs.declared.lines.Verdict.TheVariants.{Accepted, Number, Unchecked}

-- a proof derives the goal at place k, and lists its axioms; of other parts nothing is asked
abbrev pub IsRight : Problem → ℕ → Part → Type 0
IsRight p k (part.Valid t) = Derives p k t.proof × ListsItsAxioms t
IsRight p k _ = Unit {0}

-- the bytes are the text of a part of the goal at place k, under its name; the part is right
pub record IsReadBack (p : Problem) (k : ℕ) (bytes : List ℕ) : Type 0 where
  pub name : List ℕ
  pub vars : ℕ
  pub body : Formula
  pub is_goal : slice_get p.items k ≡ Some (Goal name vars body)
  pub part : Part
  pub stands : PartStands p.signature part
  pub written : bytes ≡ part_text p.signature name part
  pub right : IsRight p k part

-- the proof that a part gives
abbrev pub proof_in : Part → Option ProofText
proof_in (part.Valid t) = Some t
proof_in _ = None

-- the verdicts by which nothing of a part is refused: `accepted` or `number` of a proof, `unchecked` of any other part
abbrev pub IsPassed : Part → Verdict → Type 0
IsPassed (part.Valid t) v = (v ≡ Accepted) ⊎ (v ≡ Number)
IsPassed _ v = v ≡ Unchecked
