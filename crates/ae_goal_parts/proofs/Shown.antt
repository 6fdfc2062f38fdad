-- What is shown of an answer is a part, and is read back.
use Rattle.std.specs.Prelude.{ℕ, ◌≤◌, List, ◌≡◌, Some}
use Rattle.std.proofs.Common.{sym, subst}
use Rattle.std.proofs.lemmas.Option.{same_Some}
use Rattle.ae_core.specs.Signatures.{IsLawful, IsLawfulProblem}
use Rattle.ae_core.specs.declared.problems.Problem.{Problem}
use Rattle.ae_core.specs.declared.proofs.Proof.{Proof}
use Rattle.ae_ground_laws.proofs.Trims.{trimmed_ground}
use Rattle.ae_journal.specs.Answers.{IsAnswer}
use Rattle.ae_journal.specs.declared.answers.Answer.{Answer}
use Rattle.ae_journal.specs.declared.answers.Answer.TheVariants.{Valid, Unknown, Steps, Number}
use Rattle.ae_legal_states.proofs.Systems.{states_fit}
use Rattle.ae_legal_stories.proofs.Stories.{stories_fit}
use Rattle.ae_legal_stories.proofs.Widths.{widths_fit}
use Rattle.ae_legal_texts.specs.Writable.{IsWithinLimits}
use Rattle.ae_parts.specs.Parts.{PartStands, part_of, part_text}
use Rattle.ae_parts.specs.declared.parts.Part.TheVariants as part
use Rattle.ae_parts.proofs.PartLaws.{answers_written}
use Rattle.ae_printed.specs.ReadBack.{IsReadBack, IsRight}
use Rattle.ae_printed.proofs.ReadingBack.{proof_read_back}
use Rattle.ae_rules.specs.Derivations.{Derives}
use Rattle.ae_search.specs.Promises.{IsRightAnswer}
use Rattle.ae_search_options.specs.declared.limits.Limits.{Limits}
use Rattle.ae_statetext.specs.AnswerTexts.{answer_text}
use Rattle.ae_trim.specs.Axioms.{AreAxioms}
use Rattle.ae_trim.specs.Trimmed.{IsTrimmed}
use Rattle.ae_writable.specs.Writable.{IsWritable}
use Rattle.ae_goal_parts.specs.Parts.{IsPart, of_goal}
use Rattle.ae_goal_parts.specs.Inner.Items.{IsGoalNamed}
use Rattle.ae_goal_parts.specs.Inner.Shown.{IsFoundWithin, IsOpen, IsShown, MayBeShown}

module _ (p : Problem) (k : ℕ) where
  -- ---- right answers
  pub may_be_shown : (limits : Limits) (a : Answer) → 1 ≤ limits.steps → limits.steps ≤ 1000000 → IsAnswer p k limits.steps limits.generations a → IsWritable p.signature a → MayBeShown p k a
  may_be_shown limits (Valid proof) low high r w = (r, w)
  may_be_shown limits (Unknown st) low high r w = ((r.1).completed, w)
  may_be_shown limits (Steps story) low high r w =
      (subst (λ n. 1 ≤ n) (sym r.1) low, subst (λ n. n ≤ 1000000) (sym r.1) high, (limits.generations, r.0), w)
  may_be_shown limits (Number story at) low high r w = ((limits.steps, limits.generations, r), w)

  pub may_be_writable : (a : Answer) → IsOpen a → MayBeShown p k a → IsWritable p.signature a
  may_be_writable (Valid proof) o m = absurd o
  may_be_writable (Unknown st) o m = m.1
  may_be_writable (Steps story) o m = m.3
  may_be_writable (Number story at) o m = m.1

  right_trimmed : (limits : Limits) (proof trimmed : Proof) → IsTrimmed proof trimmed → ((q : Problem) (g : ℕ) → Derives q g proof → Derives q g trimmed)
      → IsRightAnswer p k limits (Valid proof) → IsRightAnswer p k limits (Valid trimmed)
  right_trimmed limits proof trimmed t d r = record {
    answer = d p k r.answer;
    ground = λ g. trimmed_ground p k proof trimmed (r.ground g) t;
    within = λ g c n e ts h. tt;
  }

  pub part_is : (limits : Limits) (name : List ℕ) (a : Answer) (bytes : List ℕ) → IsGoalNamed p k name → IsRightAnswer p k limits a → IsShown p.signature name a bytes → IsPart p k limits bytes
  part_is limits name (Valid proof) bytes n r s =
      of_goal name n.vars n.body (Valid s.trimmed) n.is_goal (right_trimmed limits proof s.trimmed s.is_trimmed s.derives r) s.written
  part_is limits name (Unknown st) bytes n r s = of_goal name n.vars n.body (Unknown st) n.is_goal r s
  part_is limits name (Steps story) bytes n r s = of_goal name n.vars n.body (Steps story) n.is_goal r s
  part_is limits name (Number story at) bytes n r s = of_goal name n.vars n.body (Number story at) n.is_goal r s

  -- ---- reading back
  pub valid_read_back : (name : List ℕ) (proof : Proof) (places bytes : List ℕ) → IsLawful p.signature → IsGoalNamed p k name → Derives p k proof → AreAxioms proof places
      → IsWithinLimits (record { axioms = Some places; proof = proof }) → bytes ≡ part_text p.signature name (part.Valid (record { axioms = Some places; proof = proof })) → IsReadBack p k bytes
  valid_read_back name proof places bytes lawful n d a limits w =
      subst (IsReadBack p k) (sym w)
      (proof_read_back p k name n.vars n.body (record { axioms = Some places; proof = proof }) lawful n.is_goal d (λ listed e. subst (AreAxioms proof) (same_Some places listed e) a) limits)

  found_stands : (a : Answer) → IsLawfulProblem p → IsOpen a → MayBeShown p k a → IsFoundWithin p.signature a → PartStands p.signature (part_of a)
  found_stands (Valid proof) lawful o m w = absurd o
  found_stands (Unknown st) lawful o m w = states_fit p.signature lawful.signature st m.0 (m.1).sorted w
  found_stands (Steps story) lawful o m w = (m.0, m.1, stories_fit p k m.2.0 story lawful m.2.1 w)
  found_stands (Number story at) lawful o m w = widths_fit p k m.0.0 m.0.1 story at lawful m.0.2 w

  found_right : (a : Answer) → IsOpen a → IsRight p k (part_of a)
  found_right (Valid proof) o = absurd o
  found_right (Unknown st) o = tt
  found_right (Steps story) o = tt
  found_right (Number story at) o = tt

  pub found_read_back : (name : List ℕ) (a : Answer) (bytes : List ℕ) → IsLawfulProblem p → IsGoalNamed p k name → IsOpen a → MayBeShown p k a → IsFoundWithin p.signature a
      → bytes ≡ answer_text p.signature name a → IsReadBack p k bytes
  found_read_back name a bytes lawful n o m w e =
      subst (IsReadBack p k) (sym e)
      (record {
        name = name;
        vars = n.vars;
        body = n.body;
        is_goal = n.is_goal;
        part = part_of a;
        stands = found_stands a lawful o m w;
        written = sym (answers_written p.signature name a);
        right = found_right a o;
      })
