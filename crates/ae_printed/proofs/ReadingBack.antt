-- What is printed is read back, and passes.
use Rattle.std.proofs.Common.{◌≡◌, ℕ, true, List, refl, Some}
use Rattle.std.specs.Prelude.{slice_get}
use Rattle.ae_core.specs.Signatures.{IsLawful}
use Rattle.ae_core.specs.declared.formulas.Formula.{Formula}
use Rattle.ae_core.specs.declared.problems.Item.TheVariants.{Goal}
use Rattle.ae_core.specs.declared.problems.Problem.{Problem}
use Rattle.ae_journal.specs.Systems.{IsCompleted}
use Rattle.ae_journal.specs.declared.systems.Saturated.{Saturated}
use Rattle.ae_legal_states.proofs.Systems.{states_fit}
use Rattle.ae_legal_states.specs.Writable as states
use Rattle.ae_legal_texts.proofs.Legal.{derivations_legal}
use Rattle.ae_legal_texts.specs.Writable as texts
use Rattle.ae_parts.specs.Parts.{part_text}
use Rattle.ae_parts.specs.declared.parts.Part.{Part}
use Rattle.ae_parts.specs.declared.parts.Part.TheVariants as part
use Rattle.ae_prooftext.specs.declared.proofs.ProofText.{ProofText}
use Rattle.ae_rules.specs.Derivations.{Derives, clause_ok}
use Rattle.ae_verdicts.proofs.OneVerdict.{derivation_accepted}
use Rattle.ae_verdicts.specs.Verdicts.{IsVerdict, ListsItsAxioms}
use Rattle.ae_verdicts.specs.declared.lines.Verdict.{Verdict}
use Rattle.ae_printed.specs.ReadBack.{IsPassed, IsReadBack, IsRight, proof_in}

module _ (p : Problem) (k : ℕ) (name : List ℕ) (vars : ℕ) (body : Formula) where
  pub proof_read_back : (t : ProofText) → IsLawful p.signature → slice_get p.items k ≡ Some (Goal name vars body)
      → Derives p k t.proof → ListsItsAxioms t → texts.IsWithinLimits t → IsReadBack p k (part_text p.signature name (part.Valid t))
  proof_read_back t lawful is d a l = record {
    name = name;
    vars = vars;
    body = body;
    is_goal = is;
    part = part.Valid t;
    stands = derivations_legal p k t lawful d l;
    written = refl;
    right = (d, a);
  }

  pub state_read_back : (s : Saturated) → IsLawful p.signature → slice_get p.items k ≡ Some (Goal name vars body)
      → IsCompleted p.signature s.system → clause_ok p.signature s.literals ≡ true → states.IsWithinLimits p.signature s
      → IsReadBack p k (part_text p.signature name (part.Unknown s))
  state_read_back s lawful is c o l = record {
    name = name;
    vars = vars;
    body = body;
    is_goal = is;
    part = part.Unknown s;
    stands = states_fit p.signature lawful s c o l;
    written = refl;
    right = tt;
  }

pub right_passes : (p : Problem) (k : ℕ) (q : Part) (v : Verdict) → IsRight p k q → IsVerdict p k (proof_in q) v → IsPassed q v
right_passes p k (part.Valid t) v r h = derivation_accepted p k t v r.0 r.1 h
right_passes p k (part.Unknown s) v r h = h
right_passes p k (part.Steps n s) v r h = h
right_passes p k (part.Number s w) v r h = h
