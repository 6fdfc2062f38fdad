-- Generations and instances after more lines.
use Rattle.std.specs.Prelude.{List, ◌++◌}
use Rattle.std.specs.List.{Contains}
use Rattle.std.proofs.Common.{sym, subst, inl, inr}
use Rattle.std.proofs.lemmas.List.Elements.{Contains-append_cases}
use Rattle.ae_journal.proofs.Falling.{generations_fall}
use Rattle.ae_journal.specs.InstanceLines.{HasGeneration}
use Rattle.ae_journal.specs.Standing.{Setting}
use Rattle.ae_journal.specs.declared.lines.Line.{Line}
use Rattle.ae_journal.specs.declared.lines.Line.TheVariants as line
use Rattle.ae_owed.proofs.Recording.{records_grow}
use Rattle.ae_owed.proofs.Rising.{term_wider}
use Rattle.ae_owed.specs.Instances.{Instance}
use Rattle.ae_owed.specs.Recorded.{IsOfInstance, IsRecorded}
use Rattle.ae_owed.specs.Recorded.IsOfInstance.{of_sorts, of_terms, of_axiom_terms}
use Rattle.ae_searching.specs.Steps.{IsInstanceLine, NotesNoInstance}
use Rattle.ae_later_lines.specs.Laws.{JustifiedStay, JustifiedAgesStay, RecordsStay}

pub justified_stay : JustifiedStay
justified_stay x bound s js ls h n t lt y = term_wider x (HasGeneration x js n) (HasGeneration x (js ++ ls) n) (generations_fall x js ls n) t (h n t lt y)

pub justified_ages_stay : JustifiedAgesStay
justified_ages_stay x bound es js ls h n f lt a = generations_fall x js ls n f (h n f lt a)

module _ (x : Setting) (js ks : List Line) (few many : List Instance) (wider : (i : Instance) → Contains few i → Contains many i) where
  -- whose line it is doesn't depend on other lines
  pub still_of : (j : Line) → IsOfInstance x js few j → IsOfInstance x ks many j
  still_of _ (of_sorts i k c e) = of_sorts i k (wider i c) e
  still_of _ (of_terms i l c e) = of_terms i l (wider i c) e
  still_of _ (of_axiom_terms i k f c e h) = of_axiom_terms i k f (wider i c) e h

-- no line of an instance is among those that came
pub was_there : (old new : List Line) (j : Line) → NotesNoInstance old new → IsInstanceLine j → Contains new j → Contains old j
was_there old new j w is c =
    elim (Contains-append_cases old w.added j (subst (λ (v : List Line). Contains v j) w.is c)) as (λ _. Contains old j) [ inl a ↦ a | inr b ↦ absurd (w.none j b is) ]

pub records_stay : RecordsStay
records_stay x bound old new instances w r = record {
  each = λ i c. subst (λ (v : List Line). IsRecorded x v i) (sym w.is) (records_grow x old w.added i (r.each i c));
  within = r.within;
  sorts = λ k ss c. still_of x old new instances instances (λ i a. a) (line.TypeInstance k ss) (r.sorts k ss (was_there old new (line.TypeInstance k ss) w tt c));
  terms = λ f ts c. still_of x old new instances instances (λ i a. a) (line.TermInstance f ts) (r.terms f ts (was_there old new (line.TermInstance f ts) w tt c));
}
