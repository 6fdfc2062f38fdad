-- The goal `a = b -> a = c` for constants of an abstract type. It doesn't follow, and there is a saturated state.
use Rattle.std.specs.Prelude.{ℕ, List, [], ◌∷◌}
use Rattle.ae_rules.specs.Clauses.{is_true, is_false}
use Rattle.ae_core.specs.declared.terms.Term.{Term, Apply}
use Rattle.ae_core.specs.declared.terms.Head.TheVariants as head
use Rattle.ae_core.specs.declared.formulas.Formula.{Formula, Eq, Not, Or}
use Rattle.ae_core.specs.declared.formulas.Lit.{Lit}
use Rattle.ae_core.specs.declared.problems.Signature.{Signature}
use Rattle.ae_core.specs.declared.problems.Item.TheVariants.{Goal}
use Rattle.ae_core.specs.declared.problems.Problem.{Problem}
use Rattle.ae_num.specs.declared.forms.Value.{Leaf}
use Rattle.ae_journal.specs.declared.systems.System.{System}
use Rattle.ae_journal.specs.declared.systems.Saturated.{Saturated}
use Rattle.ae_system_checks.specs.Examples.{abstract_type, constant_entry}

-- the symbols a, b, c, d and e
abbrev pub signature : Signature
signature = record {
  types = abstract_type ∷ [];
  symbols = constant_entry 97 ∷ constant_entry 98 ∷ constant_entry 99 ∷ constant_entry 100 ∷ constant_entry 101 ∷ [];
}

abbrev pub constant : ℕ → Term
constant n = Apply (head.Symbol n) [] []

-- ---- the problem
abbrev pub first : Formula
first = Eq (constant 0) (constant 1)

abbrev pub last : Formula
last = Eq (constant 0) (constant 2)

abbrev pub goal : Formula
goal = Or (Not first) last

abbrev pub problem : Problem
problem = record { signature = signature; items = Goal (103 ∷ []) 0 goal ∷ [] }

-- ---- the state
abbrev pub system : System
system = record { names = constant 0 ∷ constant 1 ∷ constant 2 ∷ []; values = Leaf 0 ∷ Leaf 0 ∷ Leaf 2 ∷ []; rules = [] }

abbrev pub literals : List Lit
literals = is_false goal ∷ is_true first ∷ is_false last ∷ []

abbrev pub state : Saturated
state = record { literals = literals; system = system; point = [] }
