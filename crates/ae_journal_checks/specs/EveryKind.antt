-- A problem whose journal has a line of every kind: two bounds of one number, a choice between two equations, an axiom with a type variable, and the goal `true`.
--     type t    logic a, b : t    logic x : real    logic ac u : t, t -> t    logic g : 'a -> 'a
--     axiom : 0.0 <= x    axiom : x <= 0.0    axiom : b = g(a) or u(a, b) = u(a, g(a))    axiom : forall y : 'a [g(y)]. g(y) = y    goal : true
use Rattle.std.specs.Prelude.{pos, true, false, List, [], ◌∷◌, Some}
use Rattle.ae_core.specs.declared.terms.Sort.{Sort, Var, Real, Named}
use Rattle.ae_core.specs.declared.terms.Term.{Term, Bound, Num, Apply}
use Rattle.ae_core.specs.declared.terms.Head.TheVariants as head
use Rattle.ae_core.specs.declared.formulas.Formula.{Formula, True, Eq, Le, Or, All}
use Rattle.ae_core.specs.declared.formulas.Quant.{Quant}
use Rattle.ae_core.specs.declared.problems.Signature.{Signature}
use Rattle.ae_core.specs.declared.problems.Kind.TheVariants.{Abstract}
use Rattle.ae_core.specs.declared.problems.Nature.TheVariants.{Free, Ac}
use Rattle.ae_core.specs.declared.problems.Problem.{Problem}
use Rattle.ae_core.specs.declared.problems.Item.TheVariants.{Axiom, Goal}
use Rattle.ae_core.specs.declared.problems.AcSymbol.{AcSymbol}
use Rattle.ae_rules.specs.Clauses.{is_true}
use Rattle.ae_num.specs.declared.forms.Lin.{Lin}
use Rattle.ae_num.specs.declared.forms.Value.{Leaf}
use Rattle.ae_journal.specs.declared.lines.Oriented.TheVariants as oriented
use Rattle.ae_journal.specs.declared.lines.Line.{Line}
use Rattle.ae_journal.specs.declared.lines.Line.TheVariants as line
use Rattle.ae_journal.specs.declared.lines.Story.{Story}

abbrev pub T : Sort
T = Named 0 []

-- the symbols a, b, x, u and g
abbrev pub signature : Signature
signature = record {
  types = record { name = 116 ∷ []; arity = 0; kind = Abstract } ∷ [];
  symbols = record { name = 97 ∷ []; vars = 0; args = []; result = Some T; nature = Free }
      ∷ record { name = 98 ∷ []; vars = 0; args = []; result = Some T; nature = Free }
      ∷ record { name = 120 ∷ []; vars = 0; args = []; result = Some Real; nature = Free }
      ∷ record { name = 117 ∷ []; vars = 0; args = T ∷ T ∷ []; result = Some T; nature = Ac }
      ∷ record { name = 103 ∷ []; vars = 1; args = Var 0 ∷ []; result = Some (Var 0); nature = Free } ∷ [];
}

-- ---- terms
abbrev pub a : Term
a = Apply (head.Symbol 0) [] []

abbrev pub b : Term
b = Apply (head.Symbol 1) [] []

abbrev pub x : Term
x = Apply (head.Symbol 2) [] []

abbrev pub u : Term → Term → Term
u s t = Apply (head.Symbol 3) [] (s ∷ t ∷ [])

abbrev pub g : Sort → Term → Term
g s t = Apply (head.Symbol 4) (s ∷ []) (t ∷ [])

abbrev pub zero_numeral : Term
zero_numeral = Num (pos 0) (pos 1) true

-- ---- formulas
abbrev pub from_below : Formula
from_below = Le zero_numeral x

abbrev pub from_above : Formula
from_above = Le x zero_numeral

abbrev pub one : Formula
one = Eq b (g T a)

abbrev pub other : Formula
other = Eq (u a b) (u a (g T a))

abbrev pub choice : Formula
choice = Or one other

abbrev pub block : Sort → Quant
block s = record { sorts = s ∷ []; triggers = (g s (Bound 0) ∷ []) ∷ []; body = Eq (g s (Bound 0)) (Bound 0) }

abbrev pub fixed : Sort → Formula
fixed s = All (block s)

abbrev pub problem : Problem
problem = record {
  signature = signature;
  items = Axiom (104 ∷ []) 0 from_below ∷ Axiom (105 ∷ []) 0 from_above ∷ Axiom (106 ∷ []) 0 choice ∷ Axiom (107 ∷ []) 1 (fixed (Var 0)) ∷ Goal (108 ∷ []) 0 True ∷ [];
}

-- ---- the journal
abbrev pub names : List Term
names = a ∷ b ∷ u a b ∷ g T a ∷ u a (g T a) ∷ x ∷ []

abbrev pub symbol : AcSymbol
symbol = record { head = head.Symbol 3; sorts = [] }

-- the row `0 >= 0`
abbrev pub row : Lin
row = record { den = pos 1; parts = []; constant = pos 0 }

-- the bounds of x combined
abbrev pub combination : Line
combination = line.Combine false row

-- b = g(a)
abbrev pub decision : Line
decision = line.Decide (is_true one)

-- from a, b to u(a, b)
abbrev pub first_rule : Line
first_rule = line.Orient (oriented.Rule symbol (0 ∷ 1 ∷ []) (2 ∷ []))

-- from a, g(a) to u(a, g(a))
abbrev pub second_rule : Line
second_rule = line.Orient (oriented.Rule symbol (0 ∷ 3 ∷ []) (4 ∷ []))

abbrev pub pair : Line
pair = line.Pair symbol (0 ∷ 1 ∷ []) (0 ∷ 3 ∷ [])

-- b for g(a)
abbrev pub solution : Line
solution = line.Orient (oriented.Named 3 (Leaf 1))

-- g(a) is no representative any more
abbrev pub dropped : Line
dropped = line.Drop (oriented.Rule symbol (0 ∷ 3 ∷ []) (4 ∷ []))

-- the last axiom with t for 'a, and its formula with a for y
abbrev pub type_instance : Line
type_instance = line.TypeInstance 3 (T ∷ [])

abbrev pub term_instance : Line
term_instance = line.TermInstance (fixed T) (a ∷ [])

-- `true` is true
abbrev pub lesson : Line
lesson = line.Learn (is_true True ∷ [])

-- the decision is undone
abbrev pub going_back : Line
going_back = line.Back 0

abbrev pub story : Story
story = record {
  names = names;
  lines = combination ∷ decision ∷ first_rule ∷ second_rule ∷ pair ∷ solution ∷ dropped ∷ type_instance ∷ term_instance ∷ lesson ∷ going_back ∷ [];
}
