-- The story of a search is a legal journal, in the setting whose constants are those of a numbering of all blocks.
use Rattle.std.specs.Prelude.{ℕ, ◌≤◌, List}
use Rattle.ae_block_constants.proofs.Numbers.{first_of, agrees, own_numbers}
use Rattle.ae_block_constants.specs.Blocks.{AreApart}
use Rattle.ae_block_constants.specs.declared.opened.Opened.{Opened}
use Rattle.ae_core.specs.declared.problems.Problem.{Problem}
use Rattle.ae_journal.proofs.Splits.{contains_at}
use Rattle.ae_journal.specs.Answers.{IsLegalWidth}
use Rattle.ae_journal.specs.Journals.{counted_in}
use Rattle.ae_journal.specs.Legal.{IsLegalJournal}
use Rattle.ae_journal.specs.declared.answers.WideAt.{WideAt}
use Rattle.ae_journal.specs.declared.lines.Line.{Line}
use Rattle.ae_search_stories.specs.Stopped.{IsLegalHowever, IsLicensedHowever}
use Rattle.ae_stories.specs.Told.{told}
use Rattle.ae_store.specs.Stores.{Stored, IsStore}
use Rattle.ae_theory.specs.Names.{terms_in}

module _ (p : Problem) (g bound next : ℕ) (s : Stored) (opened : List Opened) (js : List Line) (store : IsStore s.signature s.nodes) (apart : AreApart next opened)
    (lawful : IsLegalHowever p g bound s opened js) where
  pub legal_story : IsLegalJournal p g bound (told s js)
  legal_story =
      let h = lawful (first_of next opened) (agrees next opened apart) in
      record {
        fresh = first_of next opened;
        apart = λ m n t a b. store.sound.one_name m n t a b;
        entered = λ n t e. h.1 t (contains_at (terms_in s) n t e);
        constants = λ f h i j a b l m e. own_numbers next opened apart f h i j l m e;
        lines = h.0;
      }

  pub legal_width : (limit : ℕ) (at : WideAt) → counted_in js ≤ limit → IsLicensedHowever p g s opened js at → IsLegalWidth p g limit bound (told s js) at
  unfolding legal_story
  legal_width limit at few licensed = record { legal = legal_story; within = few; licensed = licensed (first_of next opened) (agrees next opened apart) }
