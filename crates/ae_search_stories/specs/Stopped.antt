-- What holds of the lines of a search whatever constants the blocks have that weren't opened. Its names are those of the store.
use Rattle.std.specs.Prelude.{ℕ, List, []}
use Rattle.std.specs.List.{Contains}
use Rattle.ae_block_constants.specs.Blocks.{Agrees}
use Rattle.ae_block_constants.specs.declared.opened.Opened.{Opened}
use Rattle.ae_core.specs.declared.formulas.Formula.{Formula}
use Rattle.ae_core.specs.declared.problems.Problem.{Problem}
use Rattle.ae_core.specs.declared.terms.Term.{Term}
use Rattle.ae_journal.specs.Legal.{AreLegal}
use Rattle.ae_journal.specs.Licences.{IsLicensed}
use Rattle.ae_journal.specs.Standing.{IsEntered}
use Rattle.ae_journal.specs.declared.answers.WideAt.{WideAt}
use Rattle.ae_journal.specs.declared.lines.Line.{Line}
use Rattle.ae_stories.specs.Told.{told_setting}
use Rattle.ae_store.specs.Stores.{Stored}
use Rattle.ae_theory.specs.Names.{terms_in}

-- each line is legal after those before it, and the store's terms are names
abbrev pub IsLegalHowever : Problem → ℕ → ℕ → Stored → List Opened → List Line → Type 0
IsLegalHowever p g bound s opened js = (fresh : Formula → ℕ) → Agrees opened fresh
    → AreLegal (told_setting p g s js fresh) bound [] js × ((t : Term) → Contains (terms_in s) t → IsEntered (told_setting p g s js fresh) js t)

abbrev pub IsLicensedHowever : Problem → ℕ → Stored → List Opened → List Line → WideAt → Type 0
IsLicensedHowever p g s opened js at = (fresh : Formula → ℕ) → Agrees opened fresh → IsLicensed (told_setting p g s js fresh) js at
