-- What an answer is worth, by what the search came to.
use Rattle.std.specs.Prelude.{ℕ, ◌<◌, ◌≤◌, List, [], ◌≡◌, length}
use Rattle.std.proofs.Common.{refl, sym, subst}
use Rattle.ae_core.specs.declared.problems.Problem.{Problem}
use Rattle.ae_core.specs.declared.proofs.ClauseLine.{ClauseLine}
use Rattle.ae_core.specs.declared.proofs.Proof.{Proof}
use Rattle.ae_rules.specs.Clauses.{Clause}
use Rattle.ae_rules.specs.Derivations.{Derives}
use Rattle.ae_evaluation.specs.Saturation.{NoGroundProof}
use Rattle.ae_journal.specs.Ground.{IsGround, IsGroundProof}
use Rattle.ae_journal.specs.Journals.{counted_in}
use Rattle.ae_journal.specs.Licences.{IsLicensed}
use Rattle.ae_journal.specs.States.{IsSaturated}
use Rattle.ae_journal.specs.declared.answers.Answer.TheVariants.{Valid, Unknown, Steps, Number}
use Rattle.ae_journal.specs.declared.answers.WideAt.{WideAt}
use Rattle.ae_journal.specs.declared.lines.Line.{Line}
use Rattle.ae_journal.specs.declared.lines.Story.{Story}
use Rattle.ae_journal.specs.declared.systems.Saturated.{Saturated}
use Rattle.ae_store.specs.Stores.{Stored}
use Rattle.ae_theory.specs.Names.{terms_in}
use Rattle.ae_stories.specs.Told.{told}
use Rattle.ae_stories.proofs.Legal.{legal_story, legal_width}
use Rattle.ae_search_options.specs.declared.limits.Limits.{Limits}
use Rattle.ae_first_clauses.specs.First.{search_setting}
use Rattle.ae_search.specs.Promises.{IsRightAnswer}
use Rattle.ae_goal_search.specs.Started.{IsStarted}
use Rattle.ae_goal_search.specs.Ended.{IsLeft}
use Rattle.ae_goal_search.proofs.Begun.{names_entered}
use Rattle.ae_search.proofs.Counted.{OfTerms}

module _ (p : Problem) (g : ℕ) (lines : List ClauseLine) (clauses : List Clause) (s : Stored) (start : IsStarted p g lines clauses s) (limits : Limits) where
  pub valid_right : (proof : Proof) → Derives p g proof → (IsGround p g → IsGroundProof p g proof) → IsRightAnswer p g limits (Valid proof)
  valid_right proof d h = record { answer = d; ground = h; within = λ gr cj ns ne ts k. tt }

  pub unknown_right : NoGroundProof → (st : Saturated) → ((bound : ℕ) → IsSaturated p g st bound) → IsRightAnswer p g limits (Unknown st)
  unknown_right none st h = record {
    answer = h limits.generations;
    ground = λ gr proof k. none p g limits.generations st start.lawful (h limits.generations) gr proof k;
    within = λ gr cj ns ne ts k. tt;
  }

  module _ (js : List Line) (more : List ClauseLine) (left : IsLeft p g s js more) (story : Story) (is : story ≡ told s js) where
    pub steps_right : counted_in js ≡ limits.steps → OfTerms p g (λ ts. counted_in js < length ts) → IsRightAnswer p g limits (Steps story)
    steps_right full fewer =
        subst (λ (y : Story). IsRightAnswer p g limits (Steps y)) (sym is)
        (record {
          answer = (
            legal_story p g s (λ f. 0) js limits.generations start.reach start.right (names_entered p g lines clauses s start [] refl) (left.legal limits.generations),
            full,
          );
          ground = λ gr. tt;
          within = fewer;
        })

    pub number_right : (at : WideAt) → counted_in js ≤ limits.steps → OfTerms p g (λ ts. counted_in js ≤ length ts) → IsLicensed (search_setting p g (terms_in s)) js at → IsRightAnswer p g limits (Number story at)
    number_right at within few licensed =
        subst (λ (y : Story). IsRightAnswer p g limits (Number y at)) (sym is)
        (record {
          answer =
              legal_width p g s (λ f. 0) js limits.generations start.reach start.right (names_entered p g lines clauses s start [] refl) (left.legal limits.generations) limits.steps at within
              licensed;
          ground = λ gr. tt;
          within = few;
        })
