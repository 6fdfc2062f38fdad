-- The settings of a story are among those that a search speaks of.
use Rattle.std.specs.Prelude.{ℕ, List, []}
use Rattle.std.proofs.Common.{refl, sym, append-nil}
use Rattle.ae_block_constants.specs.Blocks.{Agrees}
use Rattle.ae_block_constants.specs.declared.opened.Opened.{Opened}
use Rattle.ae_core.specs.declared.formulas.Formula.{Formula}
use Rattle.ae_core.specs.declared.problems.Problem.{Problem}
use Rattle.ae_core.specs.declared.proofs.ClauseLine.{ClauseLine}
use Rattle.ae_journal.specs.Licences.{IsLicensed}
use Rattle.ae_journal.specs.Standing.{Setting}
use Rattle.ae_journal.specs.declared.answers.WideAt.{WideAt}
use Rattle.ae_journal.specs.declared.lines.Line.{Line}
use Rattle.ae_search_stories.specs.Stopped.{IsLegalHowever, IsLicensedHowever}
use Rattle.ae_searching.specs.Searching.{IsLawfulSoFar}
use Rattle.ae_searching.specs.Told.{IsToldIn}
use Rattle.ae_stories.specs.Told.{told_setting}
use Rattle.ae_store.specs.Stores.{Stored}
use Rattle.ae_theory.specs.Names.{terms_in}

module _ (p : Problem) (g bound : ℕ) (s : Stored) (opened : List Opened) (lines : List ClauseLine) (js : List Line) where
  told_in : (fresh : Formula → ℕ) → Agrees opened fresh → IsToldIn p g s opened (told_setting p g s js fresh)
  told_in fresh a = record { problem = refl; goal = refl; more = []; names = sym (append-nil (terms_in s)); fresh = λ o h. a o h }

  pub legal_however : IsLawfulSoFar p g bound s opened lines js → IsLegalHowever p g bound s opened js
  legal_however l = λ fresh a. (l.legal (told_setting p g s js fresh) (told_in fresh a), λ t h. l.entered (told_setting p g s js fresh) (told_in fresh a) t h)

  pub licensed_however : (at : WideAt) → ((x : Setting) → IsToldIn p g s opened x → IsLicensed x js at) → IsLicensedHowever p g s opened js at
  licensed_however at l = λ fresh a. l (told_setting p g s js fresh) (told_in fresh a)
