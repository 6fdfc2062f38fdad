-- The axiom `forall x : t [f(x)]. f(x) = x` and the goal `f(a) = b`. It doesn't follow, and in the saturated state the axiom's trigger matches f(a).
use Rattle.std.specs.Prelude.{List, [], ◌∷◌}
use Rattle.ae_rules.specs.Clauses.{is_true, is_false}
use Rattle.ae_core.specs.declared.terms.Term.{Bound}
use Rattle.ae_core.specs.declared.formulas.Formula.{Formula, Eq, All}
use Rattle.ae_core.specs.declared.formulas.Quant.{Quant}
use Rattle.ae_core.specs.declared.formulas.Lit.{Lit}
use Rattle.ae_core.specs.declared.problems.Item.TheVariants.{Axiom, Goal}
use Rattle.ae_core.specs.declared.problems.Problem.{Problem}
use Rattle.ae_num.specs.declared.forms.Value.{Leaf}
use Rattle.ae_journal.specs.States.{Matches, HasGeneration, of_literal, all_taken}
use Rattle.ae_journal.specs.declared.systems.System.{System}
use Rattle.ae_journal.specs.declared.systems.Saturated.{Saturated}
use Rattle.ae_system_checks.specs.Examples.{signature, T, a, b, f}

-- ---- the problem
abbrev pub block : Quant
block = record { sorts = T ∷ []; triggers = (f (Bound 0) ∷ []) ∷ []; body = Eq (f (Bound 0)) (Bound 0) }

abbrev pub fixed : Formula
fixed = All block

abbrev pub goal : Formula
goal = Eq (f a) b

abbrev pub problem : Problem
problem = record { signature = signature; items = Axiom (104 ∷ []) 0 fixed ∷ Goal (103 ∷ []) 0 goal ∷ [] }

-- ---- the state, with the instance for a
abbrev pub instance_at_a : Formula
instance_at_a = Eq (f a) a

abbrev pub system : System
system = record { names = a ∷ b ∷ f a ∷ []; values = Leaf 0 ∷ Leaf 1 ∷ Leaf 0 ∷ []; rules = [] }

abbrev pub literals : List Lit
literals = is_true fixed ∷ is_false goal ∷ is_true instance_at_a ∷ []

abbrev pub state : Saturated
state = record { literals = literals; system = system; point = [] }

-- the same without the instance
abbrev pub without_instance : Saturated
without_instance = record { literals = is_true fixed ∷ is_false goal ∷ []; system = system; point = [] }

-- a matches: the axiom's literal, a and f(a) stand from the beginning
abbrev pub HasMatch : Saturated → Type 0
HasMatch st = Matches problem 1 st all_taken (HasGeneration problem 1 st all_taken 0) (of_literal (is_true fixed)) [] (a ∷ [])
