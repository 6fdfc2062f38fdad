-- Small systems over one signature, which has the abstract type `t`, the record type `r` with the one field `p` of sort `t`, two constants a and b of sort `t`,
-- a function f from `t` to `t`, and an associative and commutative u on `t`. The rules of a system are rules of u, their sides written as numbers of names.
use Rattle.std.specs.Prelude.{ℕ, pos, true, List, [], ◌∷◌, Some}
use Rattle.ae_rules.specs.Clauses.{is_true}
use Rattle.ae_core.specs.declared.terms.Sort.{Sort, Named}
use Rattle.ae_core.specs.declared.terms.Term.{Term, Num, Apply}
use Rattle.ae_core.specs.declared.terms.Head.TheVariants as head
use Rattle.ae_core.specs.declared.formulas.Formula.{Eq}
use Rattle.ae_core.specs.declared.formulas.Lit.{Lit}
use Rattle.ae_core.specs.declared.problems.Signature.{Signature}
use Rattle.ae_core.specs.declared.problems.TypeEntry.{TypeEntry}
use Rattle.ae_core.specs.declared.problems.SymbolEntry.{SymbolEntry}
use Rattle.ae_core.specs.declared.problems.Kind.TheVariants.{Abstract, Fields}
use Rattle.ae_core.specs.declared.problems.Nature.TheVariants.{Free, Ac}
use Rattle.ae_num.specs.declared.forms.Value.{Leaf, Number, Fields as FieldValues}
use Rattle.ae_journal.specs.declared.systems.RuleEntry.{RuleEntry}
use Rattle.ae_journal.specs.declared.systems.System.{System}
use Rattle.ae_evaluation.specs.Examples.{itself}

-- ---- the signature: names are their bytes
abbrev pub T : Sort
T = Named 0 []

abbrev pub abstract_type : TypeEntry
abstract_type = record { name = 116 ∷ []; arity = 0; kind = Abstract }

abbrev pub record_type : TypeEntry
record_type = record { name = 114 ∷ []; arity = 0; kind = Fields (record { name = 112 ∷ []; sort = T } ∷ []) }

abbrev pub constant_entry : ℕ → SymbolEntry
constant_entry n = record { name = n ∷ []; vars = 0; args = []; result = Some T; nature = Free }

abbrev pub f_entry : SymbolEntry
f_entry = record { name = 102 ∷ []; vars = 0; args = T ∷ []; result = Some T; nature = Free }

abbrev pub u_entry : SymbolEntry
u_entry = record { name = 117 ∷ []; vars = 0; args = T ∷ T ∷ []; result = Some T; nature = Ac }

abbrev pub signature : Signature
signature = record { types = abstract_type ∷ record_type ∷ []; symbols = constant_entry 97 ∷ constant_entry 98 ∷ f_entry ∷ u_entry ∷ [] }

-- ---- the terms
abbrev pub a : Term
a = Apply (head.Symbol 0) [] []

abbrev pub b : Term
b = Apply (head.Symbol 1) [] []

abbrev pub f : Term → Term
f t = Apply (head.Symbol 2) [] (t ∷ [])

abbrev pub u : Term → Term → Term
u s t = Apply (head.Symbol 3) [] (s ∷ t ∷ [])

-- the numeral 1 of sort `real`
abbrev pub one : Term
one = Num (pos 1) (pos 1) true

-- { p = a }, and its field p
abbrev pub built : Term
built = Apply (head.Build 1) [] (a ∷ [])

abbrev pub field : Term
field = Apply (head.Field 1 0) [] (built ∷ [])

-- ---- systems
-- of a and b, with two leaves as their values
abbrev pub pair : ℕ → ℕ → List RuleEntry → System
pair m n rules = record { names = a ∷ b ∷ []; values = Leaf m ∷ Leaf n ∷ []; rules = rules }

abbrev pub rule : List ℕ → List ℕ → RuleEntry
rule l r = record { symbol = record { head = head.Symbol 3; sorts = [] }; left = l; right = r }

-- u(a, a) = a and u(a, b) = a: the first rule overlaps itself and the second
abbrev pub overlapping : System
overlapping = pair 0 1 (rule (0 ∷ 0 ∷ []) (0 ∷ []) ∷ rule (0 ∷ 1 ∷ []) (0 ∷ []) ∷ [])

-- both names have the leaf of the second
abbrev pub second_leaf : System
second_leaf = pair 1 1 []

-- a system of the equation b = a
abbrev pub equated : System
equated = pair 0 0 []

abbrev pub equation : List Lit
equation = is_true (Eq b a) ∷ []

-- ---- for each clause a system that meets the other eight
-- one term with two names
abbrev pub named_twice : System
named_twice = record { names = a ∷ a ∷ []; values = Leaf 0 ∷ Leaf 0 ∷ []; rules = [] }

-- each of the two has the other as its value, so that neither is a leaf
abbrev pub crossed : System
crossed = pair 1 0 []

-- a numeral that is its own value
abbrev pub opaque_numeral : System
opaque_numeral = record { names = one ∷ []; values = Number (itself 0) ∷ []; rules = [] }

-- the field of a written record has a value of its own
abbrev pub other_field : System
other_field = record { names = a ∷ built ∷ field ∷ []; values = Leaf 0 ∷ FieldValues (Leaf 2 ∷ []) ∷ Leaf 2 ∷ []; rules = [] }

-- a = b, and f(a) and f(b) differ
abbrev pub incongruent : System
incongruent = record { names = a ∷ b ∷ f a ∷ f b ∷ []; values = Leaf 0 ∷ Leaf 0 ∷ Leaf 2 ∷ Leaf 3 ∷ []; rules = [] }

-- a rule with one element on its left
abbrev pub single_left : System
single_left = pair 0 1 (rule (1 ∷ []) (0 ∷ []) ∷ [])

-- u(a, a) = a and u(a, a, a) = a: the first reduces the second's left side
abbrev pub reducible : System
reducible = pair 0 1 (rule (0 ∷ 0 ∷ []) (0 ∷ []) ∷ rule (0 ∷ 0 ∷ 0 ∷ []) (0 ∷ []) ∷ [])

-- u(a, a) = b and u(a, b, b) = b: the results of Deduce are u(b, b, b) and u(a, b), which no rule reduces
abbrev pub apart : System
apart = pair 0 1 (rule (0 ∷ 0 ∷ []) (1 ∷ []) ∷ rule (0 ∷ 1 ∷ 1 ∷ []) (1 ∷ []) ∷ [])

-- u(a, b) without a rule that says so
abbrev pub without_rule : System
without_rule = record { names = a ∷ b ∷ u a b ∷ []; values = Leaf 0 ∷ Leaf 1 ∷ Leaf 2 ∷ []; rules = [] }
