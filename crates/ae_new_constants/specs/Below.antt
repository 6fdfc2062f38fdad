-- Constants whose numbers are below one, of terms, formulas, clauses and lines.
use Rattle.std.specs.Prelude.{ℕ, ◌<◌, List}
use Rattle.std.specs.List.{AllByRecursion, Contains}
use Rattle.ae_core.specs.Constants.{constants, formula_constants}
use Rattle.ae_core.specs.declared.formulas.Formula.{Formula}
use Rattle.ae_core.specs.declared.formulas.Lit.{Lit}
use Rattle.ae_core.specs.declared.problems.Problem.{Problem}
use Rattle.ae_core.specs.declared.proofs.ClauseLine.{ClauseLine}
use Rattle.ae_core.specs.declared.terms.Sort.{Sort}
use Rattle.ae_core.specs.declared.terms.Term.{Term, Fresh}
use Rattle.ae_rules.specs.Clauses.{Clause}
use Rattle.ae_rules.specs.Derivations.{line_constants}

-- each constant among the terms has a number below n
abbrev pub AreBelow : ℕ → List Term → Type 0
AreBelow n ts = (m : ℕ) (s : Sort) → Contains ts (Fresh m s) → m < n

-- each constant that occurs
abbrev pub IsTermBelow : ℕ → Term → Type 0
IsTermBelow n t = AreBelow n (constants t)

abbrev pub IsFormulaBelow : ℕ → Formula → Type 0
IsFormulaBelow n f = AreBelow n (formula_constants f)

abbrev pub IsClauseBelow : ℕ → Clause → Type 0
IsClauseBelow n c = AllByRecursion (λ (l : Lit). IsFormulaBelow n l.formula) c

-- in a line, or in the clause that it states for the goal at place g
abbrev pub IsLineBelow : Problem → ℕ → ℕ → ClauseLine → Type 0
IsLineBelow p g n l = AreBelow n (line_constants p g l)

abbrev pub AreLinesBelow : Problem → ℕ → ℕ → List ClauseLine → Type 0
AreLinesBelow p g n ls = AllByRecursion (IsLineBelow p g n) ls
