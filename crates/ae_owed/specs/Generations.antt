-- When generations in a store are right, below a bound: neither too great nor too small.
use Rattle.std.specs.Prelude.{ℕ, ◌<◌, List}
use Rattle.std.specs.List.{Contains}
use Rattle.ae_core.specs.declared.formulas.Formula.{Formula}
use Rattle.ae_core.specs.declared.problems.Problem.{Problem}
use Rattle.ae_core.specs.declared.terms.Term.{Term}
use Rattle.ae_journal.specs.InstanceLines.{TermFrom, HasGeneration}
use Rattle.ae_journal.specs.Standing.{Setting}
use Rattle.ae_journal.specs.States.{outside}
use Rattle.ae_journal.specs.declared.lines.Line.{Line}
use Rattle.ae_store.specs.Stores.{Stored}
use Rattle.ae_owed.specs.Instances.{Instance, IsAged}
use Rattle.ae_owed.specs.Known.{IsYoung}

-- the terms and predicate applications of a formula of generation at most n are known at n
abbrev pub IsCovered : Problem → ℕ → List (Formula × ℕ) → List Instance → ℕ → Stored → Type 0
IsCovered p g opened instances bound s = (n : ℕ) (f : Formula) (t : Term) → n < bound → IsAged p g opened instances n f → Contains (outside f) t → IsYoung s n t

-- what is known at n is brought by lines of a journal at that number
abbrev pub IsJustified : Setting → ℕ → Stored → List Line → Type 0
IsJustified x bound s js = (n : ℕ) (t : Term) → n < bound → IsYoung s n t → TermFrom x (HasGeneration x js n) t
