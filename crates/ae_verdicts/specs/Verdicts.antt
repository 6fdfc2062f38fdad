-- What is said of the part that an output gives for the goal at place g among the items of a problem, and the line that says it.
use Rattle.std.specs.Prelude.{◌≡◌, ℕ, List, [], ◌++◌, Option, Some, None, codes, decimal}
use Rattle.ae_calc.specs.Reached.{Fit, FirstWide, ProofReaches}
use Rattle.ae_check.specs.Verdicts.{Says}
use Rattle.ae_check.specs.declared.verdict.Verdict.TheVariants as proof
use Rattle.ae_core.specs.declared.problems.Problem.{Problem}
use Rattle.ae_num.specs.declared.numbers.Wide.{Wide}
use Rattle.ae_prooftext.specs.declared.proofs.ProofText.{ProofText}
use Rattle.ae_rules.specs.Derivations.{Derives}
use Rattle.ae_trim.specs.Axioms.{AreAxioms}
use Rattle.ae_verdicts.specs.declared.lines.Verdict.{Verdict}
use Rattle.ae_verdicts.specs.declared.lines.Verdict.TheVariants.{Accepted, RefusedAxioms, Refused, Number, Unchecked}

-- a text of version 2 lists the axioms of its proof; one of version 1 lists none
abbrev pub ListsItsAxioms : ProofText → Type 0
ListsItsAxioms t = (places : List ℕ) → t.axioms ≡ Some places → AreAxioms t.proof places

-- nothing that a line which is reached states leaves the limits
abbrev pub IsSettled : Problem → ℕ → ProofText → Type 0
IsSettled p g t = Fit (ProofReaches p g [] t.proof.lines)

-- the verdict on a proof
abbrev pub IsOnProof : Problem → ℕ → ProofText → Verdict → Type 0
IsOnProof p g t Accepted = IsSettled p g t × Derives p g t.proof × ListsItsAxioms t
IsOnProof p g t RefusedAxioms = IsSettled p g t × Derives p g t.proof × ¬ (ListsItsAxioms t)
IsOnProof p g t (Refused k) = IsSettled p g t × Says p g t.proof (proof.Refused k)
IsOnProof p g t Number = (w : Wide) × FirstWide (ProofReaches p g [] t.proof.lines) w
IsOnProof p g t Unchecked = ⊥

-- the verdict on a part, which is a proof or none
abbrev pub IsVerdict : Problem → ℕ → Option ProofText → Verdict → Type 0
IsVerdict p g (Some t) v = IsOnProof p g t v
IsVerdict p g None v = v ≡ Unchecked

abbrev pub words_of : Verdict → List ℕ
words_of Accepted = codes " accepted"
words_of RefusedAxioms = codes " refused axioms"
words_of (Refused k) = codes " refused " ++ decimal k
words_of Number = codes " number"
words_of Unchecked = codes " unchecked"

-- the line for the goal of this name
abbrev pub verdict_line : List ℕ → Verdict → List ℕ
verdict_line name v = codes "goal " ++ name ++ words_of v ++ codes "\n"
