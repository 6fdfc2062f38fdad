-- The states of which it isn't told whether they are saturated: those with a quantified literal, or an axiom with type variables.
use Rattle.std.specs.Prelude.{ℕ, ◌≡◌, Some}
use Rattle.std.specs.List.{Contains}
use Rattle.ae_core.specs.declared.formulas.Formula.{out-Formula}
use Rattle.ae_core.specs.declared.formulas.Lit.{Lit}
use Rattle.ae_core.specs.declared.formulas.Quant.{Quant}
use Rattle.ae_core.specs.declared.problems.Problem.{Problem}
use Rattle.ae_journal.specs.States.{Pattern, of_axiom, pattern_of, quant_of}
use Rattle.ae_journal.specs.declared.systems.Saturated.{Saturated}

pub data IsOpen (p : Problem) (g : ℕ) (st : Saturated) : Type 0 where
  -- a literal that stands is quantified
  quantified : (l : Lit) (q : Quant) → Contains st.literals l → quant_of (out-Formula l.formula) ≡ Some q → IsOpen p g st
  -- or an axiom before the goal has type variables
  generic : (k : ℕ) (q : Pattern) → pattern_of p g (of_axiom k) ≡ Some q → IsOpen p g st
