-- What is kept of earlier lines.
use Rattle.std.specs.Prelude.{ℕ, ◌+◌, List, length, Option}
use Rattle.ae_base.specs.Relations.{Pairwise}
use Rattle.ae_core.specs.declared.formulas.Formula.{Formula}
use Rattle.ae_core.specs.declared.problems.Problem.{Problem}
use Rattle.ae_core.specs.declared.proofs.ClauseLine.{ClauseLine}
use Rattle.ae_check.specs.declared.codes.Code.{Code}
use Rattle.ae_check.specs.declared.codes.Stamp.{Stamp}
use Rattle.ae_check.specs.declared.known.Known.{Known}
use Rattle.ae_check.specs.Inner.Coding.{number_in, IsTable, AreBefore, AreConcluded}
use Rattle.ae_check.specs.Inner.ConstantSets.{IsOfLines}

-- the formulas of the earlier lines' clauses have numbers, and the codes of each clause are kept, and the constants of the lines; no stamp is that of the next line
pub record IsKnown (p : Problem) (g : ℕ) (earlier : List ClauseLine) (known : Known) : Type 0 where
  pub table : IsTable (number_in known.table.numbers.entries) known.table.stamps.items
  pub before : AreBefore (length earlier + 1) known.table.stamps.items
  pub clauses : Pairwise (AreConcluded p g (number_in known.table.numbers.entries)) earlier known.clauses
  pub constants : IsOfLines p g earlier known.constants

-- the line states the clause of these codes, and the earlier lines those of their codes; no stamp is that of the line
pub record AreReady (p : Problem) (g : ℕ) (earlier : List ClauseLine) (line : ClauseLine) (codes : List Code) (stamps : List Stamp) (clauses : List (List Code)) : Type 0 where
  pub numbers : Formula → Option ℕ
  pub table : IsTable numbers stamps
  pub before : AreBefore (length earlier + 1) stamps
  pub stated : AreConcluded p g numbers line codes
  pub clauses_are : Pairwise (AreConcluded p g numbers) earlier clauses
