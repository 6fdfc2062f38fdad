-- The goal `u(a, b) = c -> u(a, d) = e -> u(c, d) = u(e, b)` for an associative and commutative u over an abstract type, and two journals for it, of one line and of four.
use Rattle.std.specs.Prelude.{ℕ, ℤ, pos, false, List, [], ◌∷◌, Some, None}
use Rattle.ae_core.specs.declared.terms.Sort.{Sort, Named}
use Rattle.ae_core.specs.declared.terms.Term.{Term, Bound, Num, Apply}
use Rattle.ae_core.specs.declared.terms.Op.TheVariants as op
use Rattle.ae_core.specs.declared.terms.Head.TheVariants as head
use Rattle.ae_core.specs.declared.formulas.Formula.{Formula, True, Eq, Not, Or, Ex}
use Rattle.ae_core.specs.declared.formulas.Quant.{Quant}
use Rattle.ae_core.specs.declared.problems.Signature.{Signature}
use Rattle.ae_core.specs.declared.problems.SymbolEntry.{SymbolEntry}
use Rattle.ae_core.specs.declared.problems.Kind.TheVariants.{Abstract}
use Rattle.ae_core.specs.declared.problems.Nature.TheVariants.{Free, Ac}
use Rattle.ae_core.specs.declared.problems.Problem.{Problem}
use Rattle.ae_core.specs.declared.problems.Item.TheVariants.{Goal}
use Rattle.ae_core.specs.declared.problems.AcSymbol.{AcSymbol}
use Rattle.ae_rules.specs.Clauses.{is_true}
use Rattle.ae_num.specs.declared.forms.Lin.{Lin}
use Rattle.ae_num.specs.declared.forms.Value.{Leaf}
use Rattle.ae_num.specs.declared.numbers.NumOp.TheVariants as num_op
use Rattle.ae_journal.specs.declared.answers.NumStep.TheVariants as step
use Rattle.ae_journal.specs.declared.answers.WideAt.{WideAt}
use Rattle.ae_journal.specs.declared.lines.Oriented.TheVariants as oriented
use Rattle.ae_journal.specs.declared.lines.Line.{Line}
use Rattle.ae_journal.specs.declared.lines.Line.TheVariants as line
use Rattle.ae_journal.specs.declared.lines.Story.{Story}

-- the type `t`
unfoldable pub T : Sort
T = Named 0 []

abbrev pub constant_entry : ℕ → SymbolEntry
constant_entry n = record { name = n ∷ []; vars = 0; args = []; result = Some T; nature = Free }

-- the symbols a, b, c, d, e and u
abbrev pub signature : Signature
signature =
    record {
      types = record { name = 116 ∷ []; arity = 0; kind = Abstract } ∷ [];
      symbols = constant_entry 97 ∷ constant_entry 98 ∷ constant_entry 99 ∷ constant_entry 100 ∷ constant_entry 101
          ∷ record { name = 117 ∷ []; vars = 0; args = T ∷ T ∷ []; result = Some T; nature = Ac } ∷ [];
    }

unfoldable pub constant : ℕ → Term
constant n = Apply (head.Symbol n) [] []

unfoldable pub u : Term → Term → Term
u s t = Apply (head.Symbol 5) [] (s ∷ t ∷ [])

-- the hypotheses of the goal
unfoldable pub first_equation : Formula
first_equation = Eq (u (constant 0) (constant 1)) (constant 2)

unfoldable pub others : Formula
others = Or (Not (Eq (u (constant 0) (constant 3)) (constant 4))) (Eq (u (constant 2) (constant 3)) (u (constant 4) (constant 1)))

unfoldable pub goal : Formula
goal = Or (Not first_equation) others

abbrev pub problem : Problem
problem = record { signature = signature; items = Goal (103 ∷ []) 0 goal ∷ [] }

abbrev pub symbol : AcSymbol
symbol = record { head = head.Symbol 5; sorts = [] }

-- the rule from a, b to u(a, b), by the numbers of the names
abbrev pub rule_line : Line
rule_line = line.Orient (oriented.Rule symbol (0 ∷ 1 ∷ []) (2 ∷ []))

-- names of the journal, in an order of entry: a, b, u(a, b), d, u(a, d), c
abbrev pub names : List Term
names = constant 0 ∷ constant 1 ∷ u (constant 0) (constant 1) ∷ constant 3 ∷ u (constant 0) (constant 3) ∷ constant 2 ∷ []

abbrev pub story : Story
story = record { names = names; lines = rule_line ∷ [] }

-- a longer journal: the rule from a, d to u(a, d) too, the two rules paired, and u(a, b) as the value of c
abbrev pub second_rule : Line
second_rule = line.Orient (oriented.Rule symbol (0 ∷ 3 ∷ []) (4 ∷ []))

abbrev pub pair_line : Line
pair_line = line.Pair symbol (0 ∷ 1 ∷ []) (0 ∷ 3 ∷ [])

abbrev pub solve_line : Line
solve_line = line.Orient (oriented.Named 5 (Leaf 2))

abbrev pub longer_story : Story
longer_story = record { names = names; lines = rule_line ∷ second_rule ∷ pair_line ∷ solve_line ∷ [] }

-- ---- the goal `not (a = b or a = c)`, and a journal that decides the first equation
unfoldable pub one : Formula
one = Eq (constant 0) (constant 1)

unfoldable pub other : Formula
other = Eq (constant 0) (constant 2)

unfoldable pub one_or_other : Formula
one_or_other = Or one other

abbrev pub choice_problem : Problem
choice_problem = record { signature = signature; items = Goal (103 ∷ []) 0 (Not one_or_other) ∷ [] }

abbrev pub choice_story : Story
choice_story = record { names = []; lines = line.Decide (is_true one) ∷ [] }

-- ---- the goal `(exists x : t [f(x)]. f(x) = x) or f(a) = a`, whose negation is instantiated with a
abbrev pub function_signature : Signature
function_signature =
    record {
      types = record { name = 116 ∷ []; arity = 0; kind = Abstract } ∷ [];
      symbols = constant_entry 97 ∷ record { name = 102 ∷ []; vars = 0; args = T ∷ []; result = Some T; nature = Free } ∷ [];
    }

unfoldable pub f_of : Term → Term
f_of t = Apply (head.Symbol 1) [] (t ∷ [])

unfoldable pub fixed : Term → Formula
fixed t = Eq (f_of t) t

abbrev pub block : Quant
block = record { sorts = T ∷ []; triggers = (f_of (Bound 0) ∷ []) ∷ []; body = fixed (Bound 0) }

unfoldable pub some_fixed : Formula
some_fixed = Ex block

unfoldable pub fixed_goal : Formula
fixed_goal = Or some_fixed (fixed (constant 0))

abbrev pub instance_problem : Problem
instance_problem = record { signature = function_signature; items = Goal (103 ∷ []) 0 fixed_goal ∷ [] }

abbrev pub instance_line : Line
instance_line = line.TermInstance some_fixed (constant 0 ∷ [])

abbrev pub instance_story : Story
instance_story = record { names = []; lines = instance_line ∷ [] }

-- ---- the goal `true`, and a journal that learns what its row says
abbrev pub true_problem : Problem
true_problem = record { signature = signature; items = Goal (103 ∷ []) 0 True ∷ [] }

abbrev pub true_story : Story
true_story = record { names = []; lines = line.Learn (is_true True ∷ []) ∷ [] }

-- ---- the goal `(exists x : t [f(x)]. f(x) = x) or not (f(a) = a or a = f(a))`, and a journal that decides, instantiates and goes back
unfoldable pub first_choice : Formula
first_choice = fixed (constant 0)

unfoldable pub second_choice : Formula
second_choice = Eq (constant 0) (f_of (constant 0))

unfoldable pub choices : Formula
choices = Or first_choice second_choice

unfoldable pub back_goal : Formula
back_goal = Or some_fixed (Not choices)

abbrev pub back_problem : Problem
back_problem = record { signature = function_signature; items = Goal (103 ∷ []) 0 back_goal ∷ [] }

abbrev pub back_story : Story
back_story = record { names = []; lines = line.Decide (is_true first_choice) ∷ instance_line ∷ line.Back 0 ∷ [] }

-- ---- the goal `n + n = 0` for the greatest numeral n, whose sum leaves the limits, and a journal without lines
abbrev pub greatest : ℤ
greatest = pos 170141183460469231731687303715884105727

unfoldable pub numeral : Term
numeral = Num greatest (pos 1) false

unfoldable pub sum_goal : Formula
sum_goal = Eq (Apply (head.Int op.Add) [] (numeral ∷ numeral ∷ [])) (Num (pos 0) (pos 1) false)

abbrev pub sum_problem : Problem
sum_problem = record { signature = signature; items = Goal (103 ∷ []) 0 sum_goal ∷ [] }

abbrev pub empty_story : Story
empty_story = record { names = []; lines = [] }

abbrev pub whole : ℤ → Lin
whole z = record { den = pos 1; parts = []; constant = z }

-- the sum of two numbers as a step that leaves the limits
abbrev pub sum_of : ℤ → WideAt
sum_of z = record { step = step.Plus; left = whole z; key = None; right = whole z; wide = record { op = num_op.Add; left = z; right = z } }

-- ---- the rule of the first journal, with its left side written falling
abbrev pub falling_line : Line
falling_line = line.Orient (oriented.Rule symbol (1 ∷ 0 ∷ []) (2 ∷ []))

-- ---- the first journal with its line twice
abbrev pub repeated_story : Story
repeated_story = record { names = names; lines = rule_line ∷ rule_line ∷ [] }
