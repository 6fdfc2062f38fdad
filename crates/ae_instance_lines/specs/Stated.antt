-- Lines that note instances, with the clauses that they state.
use Rattle.std.specs.Prelude.{ℕ, List, ◌≡◌, Some}
use Rattle.ae_core.specs.declared.formulas.Formula.{Formula}
use Rattle.ae_core.specs.declared.problems.Problem.{Problem}
use Rattle.ae_core.specs.declared.proofs.ClauseLine.TheVariants as clause_line
use Rattle.ae_core.specs.declared.terms.Sort.{Sort}
use Rattle.ae_core.specs.declared.terms.Term.{Term}
use Rattle.ae_rules.specs.Derivations.{conclusion}
use Rattle.ae_journal.specs.declared.lines.Line.TheVariants as line
use Rattle.ae_instance_lines.specs.declared.lines.InstanceLine.{InstanceLine}

-- of an axiom with sorts put for its type variables
pub record IsLineOfSorts (p : Problem) (g k : ℕ) (ss : List Sort) (l : InstanceLine) : Type 0 where
  pub own : l.own ≡ line.TypeInstance k ss
  pub statement : l.statement ≡ clause_line.Hyp k ss
  pub concludes : conclusion p g (clause_line.Hyp k ss) ≡ Some l.clause

-- of a block with terms put for its variables
pub record IsLineOfTerms (p : Problem) (g : ℕ) (f : Formula) (ts : List Term) (l : InstanceLine) : Type 0 where
  pub own : l.own ≡ line.TermInstance f ts
  pub statement : l.statement ≡ clause_line.Inst f ts
  pub concludes : conclusion p g (clause_line.Inst f ts) ≡ Some l.clause
