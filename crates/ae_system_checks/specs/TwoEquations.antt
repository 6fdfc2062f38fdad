-- The goal `u(a, b) = c -> u(a, d) = e -> u(c, d) = u(e, b)` for a function u of which nothing is known. It doesn't follow, and there is a saturated state.
use Rattle.std.specs.Prelude.{ℕ, List, [], ◌∷◌, Some}
use Rattle.ae_rules.specs.Clauses.{is_true, is_false}
use Rattle.ae_core.specs.declared.terms.Term.{Term, Apply}
use Rattle.ae_core.specs.declared.terms.Head.TheVariants as head
use Rattle.ae_core.specs.declared.formulas.Formula.{Formula, Eq, Not, Or}
use Rattle.ae_core.specs.declared.formulas.Lit.{Lit}
use Rattle.ae_core.specs.declared.problems.Signature.{Signature}
use Rattle.ae_core.specs.declared.problems.SymbolEntry.{SymbolEntry}
use Rattle.ae_core.specs.declared.problems.Nature.TheVariants.{Free}
use Rattle.ae_core.specs.declared.problems.Item.TheVariants.{Goal}
use Rattle.ae_core.specs.declared.problems.Problem.{Problem}
use Rattle.ae_num.specs.declared.forms.Value.{Leaf}
use Rattle.ae_journal.specs.declared.systems.System.{System}
use Rattle.ae_journal.specs.declared.systems.Saturated.{Saturated}
use Rattle.ae_system_checks.specs.Examples.{T, abstract_type, constant_entry}

-- the symbols a, b, c, d, e and u
abbrev pub free_entry : SymbolEntry
free_entry = record { name = 117 ∷ []; vars = 0; args = T ∷ T ∷ []; result = Some T; nature = Free }

abbrev pub signature : Signature
signature = record {
  types = abstract_type ∷ [];
  symbols = constant_entry 97 ∷ constant_entry 98 ∷ constant_entry 99 ∷ constant_entry 100 ∷ constant_entry 101 ∷ free_entry ∷ [];
}

abbrev pub constant : ℕ → Term
constant n = Apply (head.Symbol n) [] []

-- u of two constants
abbrev pub u : ℕ → ℕ → Term
u m n = Apply (head.Symbol 5) [] (constant m ∷ constant n ∷ [])

-- ---- the problem
abbrev pub first : Formula
first = Eq (u 0 1) (constant 2)

abbrev pub second : Formula
second = Eq (u 0 3) (constant 4)

abbrev pub last : Formula
last = Eq (u 2 3) (u 4 1)

abbrev pub rest : Formula
rest = Or (Not second) last

abbrev pub goal : Formula
goal = Or (Not first) rest

abbrev pub problem : Problem
problem = record { signature = signature; items = Goal [] 0 goal ∷ [] }

-- ---- the state
abbrev pub names : List Term
names = constant 0 ∷ constant 1 ∷ constant 2 ∷ constant 3 ∷ constant 4 ∷ u 0 1 ∷ u 0 3 ∷ u 2 3 ∷ u 4 1 ∷ []

abbrev pub system : System
system = record {
  names = names;
  values = Leaf 0 ∷ Leaf 1 ∷ Leaf 2 ∷ Leaf 3 ∷ Leaf 4 ∷ Leaf 2 ∷ Leaf 4 ∷ Leaf 7 ∷ Leaf 8 ∷ [];
  rules = [];
}

abbrev pub literals : List Lit
literals = is_false goal ∷ is_true first ∷ is_false rest ∷ is_true second ∷ is_false last ∷ []

abbrev pub state : Saturated
state = record { literals = literals; system = system; point = [] }
