-- An example with a rule of an AC symbol, a solved real, a record, a product of two unknowns, and an enumeration.
-- Of `u`, an AC symbol on `real`, and the real constant `x` the axiom says that `u(x, x) = x`. The goal says of the constant `r`, of a record type
-- with the one field `p` of sort `real`, that `r.p = x`. It doesn't follow, and there is a saturated state. Its system names more: the product `x * x`, and the constant `hue` of the enumeration
-- with the constructors `red` and `green`, to which it gives the value of `red`.
use Rattle.std.specs.Prelude.{ℕ, pos, [], ◌∷◌, Some}
use Rattle.ae_rules.specs.Clauses.{is_true, is_false}
use Rattle.ae_core.specs.declared.terms.Sort.{Real, Named}
use Rattle.ae_core.specs.declared.terms.Term.{Term, Apply}
use Rattle.ae_core.specs.declared.terms.Head.TheVariants as head
use Rattle.ae_core.specs.declared.terms.Op.TheVariants as op
use Rattle.ae_core.specs.declared.formulas.Formula.{Formula, Eq}
use Rattle.ae_core.specs.declared.problems.Signature.{Signature}
use Rattle.ae_core.specs.declared.problems.TypeEntry.{TypeEntry}
use Rattle.ae_core.specs.declared.problems.SymbolEntry.{SymbolEntry}
use Rattle.ae_core.specs.declared.problems.Kind.TheVariants.{Choices, Fields}
use Rattle.ae_core.specs.declared.problems.Nature.TheVariants.{Free, Ac, Choice}
use Rattle.ae_core.specs.declared.problems.Item.TheVariants.{Axiom, Goal}
use Rattle.ae_core.specs.declared.problems.Problem.{Problem}
use Rattle.ae_num.specs.declared.forms.Lin.{Lin}
use Rattle.ae_num.specs.declared.forms.Value.{Leaf, Number, Fields as FieldValues}
use Rattle.ae_journal.specs.declared.systems.System.{System}
use Rattle.ae_journal.specs.declared.systems.Saturated.{Saturated}

-- ---- the signature: names are their bytes
abbrev pub record_type : TypeEntry
record_type = record { name = 116 ∷ []; arity = 0; kind = Fields (record { name = 112 ∷ []; sort = Real } ∷ []) }

abbrev pub colour_type : TypeEntry
colour_type = record { name = 99 ∷ []; arity = 0; kind = Choices (3 ∷ 4 ∷ []) }

abbrev pub x_entry : SymbolEntry
x_entry = record { name = 120 ∷ []; vars = 0; args = []; result = Some Real; nature = Free }

abbrev pub r_entry : SymbolEntry
r_entry = record { name = 114 ∷ []; vars = 0; args = []; result = Some (Named 0 []); nature = Free }

abbrev pub u_entry : SymbolEntry
u_entry = record { name = 117 ∷ []; vars = 0; args = Real ∷ Real ∷ []; result = Some Real; nature = Ac }

abbrev pub red_entry : SymbolEntry
red_entry = record { name = 97 ∷ []; vars = 0; args = []; result = Some (Named 1 []); nature = Choice 1 0 }

abbrev pub green_entry : SymbolEntry
green_entry = record { name = 98 ∷ []; vars = 0; args = []; result = Some (Named 1 []); nature = Choice 1 1 }

abbrev pub hue_entry : SymbolEntry
hue_entry = record { name = 104 ∷ []; vars = 0; args = []; result = Some (Named 1 []); nature = Free }

abbrev pub signature : Signature
signature = record {
  types = record_type ∷ colour_type ∷ [];
  symbols = x_entry ∷ r_entry ∷ u_entry ∷ red_entry ∷ green_entry ∷ hue_entry ∷ [];
}

-- ---- the terms
abbrev pub x : Term
x = Apply (head.Symbol 0) [] []

abbrev pub r : Term
r = Apply (head.Symbol 1) [] []

-- u(x, x)
abbrev pub joined_x : Term
joined_x = Apply (head.Symbol 2) [] (x ∷ x ∷ [])

-- x * x
abbrev pub square : Term
square = Apply (head.Real op.Mul) [] (x ∷ x ∷ [])

-- r.p
abbrev pub field : Term
field = Apply (head.Field 0 0) [] (r ∷ [])

abbrev pub red : Term
red = Apply (head.Symbol 3) [] []

abbrev pub hue : Term
hue = Apply (head.Symbol 5) [] []

-- ---- the problem
abbrev pub hypothesis : Formula
hypothesis = Eq joined_x x

abbrev pub goal : Formula
goal = Eq field x

abbrev pub problem : Problem
problem = record { signature = signature; items = Axiom [] 0 hypothesis ∷ Goal [] 0 goal ∷ [] }

-- ---- the state
-- once the name
abbrev pub itself : (n : ℕ) → Lin
itself n = record { den = pos 1; parts = record { key = n; factor = pos 1 } ∷ []; constant = pos 0 }

abbrev pub system : System
system = record {
  names = x ∷ joined_x ∷ square ∷ r ∷ field ∷ red ∷ hue ∷ [];
  values = Number (itself 0) ∷ Number (itself 0) ∷ Number (itself 2) ∷ FieldValues (Number (itself 4) ∷ []) ∷ Number
      (itself 4) ∷ Leaf 5 ∷ Leaf 5 ∷ [];
  rules =
      record { symbol = record { head = head.Symbol 2; sorts = [] }; left = 0 ∷ 0 ∷ []; right = 0 ∷ [] }
      ∷ record { symbol = record { head = head.Real op.Mul; sorts = [] }; left = 0 ∷ 0 ∷ []; right = 2 ∷ [] } ∷ [];
}

abbrev pub state : Saturated
state = record { literals = is_true hypothesis ∷ is_false goal ∷ []; system = system; point = [] }
