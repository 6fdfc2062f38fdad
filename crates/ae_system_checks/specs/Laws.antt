-- The laws, as statements.
use Rattle.std.specs.Prelude.{ℕ, ◌<◌, []}
use Rattle.ae_core.specs.declared.terms.Term.{Term}
use Rattle.ae_rules.specs.Lines.{PlainConseq, Conseq}
use Rattle.ae_journal.specs.Values.{leaf}
use Rattle.ae_journal.specs.Systems.{IsEquation, IsLeaf, Represents}
use Rattle.ae_journal.specs.Answers.{IsAnswer}
use Rattle.ae_journal.specs.declared.answers.Answer.TheVariants.{Unknown}
use Rattle.ae_evaluation.specs.Consequences.{Stated}
use Rattle.ae_evaluation.specs.Examples.{problem, state, system}
use Rattle.ae_system_checks.specs.OneEquation as one_equation
use Rattle.ae_system_checks.specs.TwoEquations as two_equations
use Rattle.ae_system_checks.specs.Quantified as quantified
use Rattle.ae_system_checks.specs.Examples.{signature, T, second_leaf, equated, equation}

-- a leaf that a smaller name represents
abbrev pub LeafOfOther : Type 0
LeafOfOther = IsLeaf signature second_leaf T 1 × Represents signature second_leaf T (leaf 1) 0

-- the system's equations follow from the stated one, within the plain terms and in general
abbrev pub EquationsFollowPlainly : Type 0
EquationsFollowPlainly = (s t : Term) → IsEquation signature equated s t → PlainConseq signature (Stated equation) s t

abbrev pub EquationsFollow : Type 0
EquationsFollow = (s t : Term) → IsEquation signature equated s t → Conseq signature (Stated equation) s t

-- ---- answers
-- the saturated state of ae_evaluation's example is an answer, and its system without literals is none
abbrev pub StateAnswers : Type 0
StateAnswers = (limit bound : ℕ) → IsAnswer problem 1 limit bound (Unknown state)

abbrev pub NoLiteralsAreRefused : Type 0
NoLiteralsAreRefused = (limit bound : ℕ) → ¬ IsAnswer problem 1 limit bound (Unknown (record { literals = []; system = system; point = [] }))

-- the state of the two equations is an answer too
abbrev pub TwoEquationsAnswer : Type 0
TwoEquationsAnswer = (limit bound : ℕ) → IsAnswer two_equations.problem 0 limit bound (Unknown two_equations.state)

-- so is the state of the one equation
abbrev pub OneEquationAnswers : Type 0
OneEquationAnswers = (limit bound : ℕ) → IsAnswer one_equation.problem 0 limit bound (Unknown one_equation.state)

-- the state with a quantified literal is one: its trigger matches, and the instance stands. Where a bound allows instances it is none without it.
abbrev pub QuantifiedAnswers : Type 0
QuantifiedAnswers = (limit bound : ℕ) → IsAnswer quantified.problem 1 limit bound (Unknown quantified.state)

abbrev pub TriggerMatches : Type 0
TriggerMatches = quantified.HasMatch quantified.state

abbrev pub NoInstanceIsRefused : Type 0
NoInstanceIsRefused = (limit bound : ℕ) → 0 < bound → ¬ IsAnswer quantified.problem 1 limit bound (Unknown quantified.without_instance)
