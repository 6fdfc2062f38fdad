-- The story of a search for a goal of the reach is a legal journal.
use Rattle.std.specs.Prelude.{ℕ, ◌≤◌, List, []}
use Rattle.std.proofs.Common.{refl}
use Rattle.ae_core.specs.declared.formulas.Formula.{Formula}
use Rattle.ae_core.specs.declared.problems.Problem.{Problem}
use Rattle.ae_journal.specs.Answers.{IsLegalWidth}
use Rattle.ae_journal.specs.Journals.{counted_in}
use Rattle.ae_journal.specs.Legal.{AreLegal, IsLegalJournal}
use Rattle.ae_journal.specs.Licences.{IsLicensed}
use Rattle.ae_journal.specs.declared.answers.WideAt.{WideAt}
use Rattle.ae_journal.specs.declared.lines.Line.{Line}
use Rattle.ae_journal.proofs.Growing.{entered_more}
use Rattle.ae_journal.proofs.Splits.{contains_at}
use Rattle.ae_reach.specs.Reach.{IsInReach}
use Rattle.ae_store.specs.Stores.{Stored, IsStore}
use Rattle.ae_theory.specs.Names.{IsNamedBy, terms_in}
use Rattle.ae_stories.specs.Told.{told, told_setting}
use Rattle.ae_stories.proofs.Instances.{own_constants}

module _ (p : Problem) (g : ℕ) (s : Stored) (fresh : Formula → ℕ) (js : List Line) (bound : ℕ) (reach : IsInReach p g) (store : IsStore s.signature s.nodes)
    (named : IsNamedBy (told_setting p g s js fresh) s []) (legal : AreLegal (told_setting p g s js fresh) bound [] js) where
  pub legal_story : IsLegalJournal p g bound (told s js)
  legal_story = record {
    fresh = fresh;
    apart = λ m n t a b. store.sound.one_name m n t a b;
    entered = λ n t e. entered_more (told_setting p g s js fresh) [] js t (named.entered t (contains_at (terms_in s) n t e));
    constants = own_constants p g reach (told_setting p g s js fresh) refl refl bound js legal;
    lines = legal;
  }

  pub legal_width : (limit : ℕ) (at : WideAt) → counted_in js ≤ limit → IsLicensed (told_setting p g s js fresh) js at → IsLegalWidth p g limit bound (told s js) at
  unfolding legal_story
  legal_width limit at few licensed = record { legal = legal_story; within = few; licensed = licensed }
