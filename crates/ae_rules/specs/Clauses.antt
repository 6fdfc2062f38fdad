-- Literals, clauses, the defining clauses of connectives, and unit propagation through hinted clauses.
use Rattle.std.specs.Prelude.{ℕ, Bool, true, false, cond, not, ◌||◌, nat_eq, List, [], ◌∷◌, ◌++◌, Option, Some, None}
use Rattle.std.specs.List.{list_any, list_all}
use Rattle.ae_core.specs.Decided.{Lit_discrete}
use Rattle.ae_base.specs.Decided.{decided}
use Rattle.ae_base.specs.Options.{when}
use Rattle.ae_core.specs.declared.formulas.Formula.{Formula, Formula-F, para-Formula, roll-Formula, map-Formula, out-Formula}
use Rattle.ae_core.specs.declared.formulas.Formula.TheOpen as layer_of
use Rattle.ae_core.specs.declared.formulas.Quant.{Quant}
use Rattle.ae_core.specs.declared.formulas.Lit.{Lit}
use Rattle.ae_rules.specs.declared.rows.TheConstants.{AND_TO_LEFT, AND_TO_RIGHT, AND_FROM_BOTH, OR_FROM_LEFT, OR_FROM_RIGHT, OR_TO_EITHER, IFF_TO_RIGHT, IFF_TO_LEFT, IFF_FROM_NEITHER, IFF_FROM_BOTH, XOR_TO_EITHER, XOR_TO_NOT_BOTH, XOR_FROM_LEFT, XOR_FROM_RIGHT, TRUE_STANDS, FALSE_FAILS}

-- ---- literals
abbrev pub whole_formula : {A B : Type 0} → Formula-F (Formula × A) (Quant × B) → Formula
whole_formula {A} {B} f = roll-Formula (map-Formula (Formula × A) (Quant × B) Formula Quant (λ p. p.0) (λ q. q.0) f)

abbrev pub literal_step : Formula-F (Formula × (Bool → Lit)) (Quant × Unit {0}) → Bool → Lit
literal_step (layer_of.Not a) sign = a.1 (not sign)
literal_step f sign = record { positive = sign; formula = whole_formula f }

-- the literal that says that a formula is true (or, by the sign, false); it never has `Not` at its head, since a negation turns the sign
unfoldable pub literal : Bool → Formula → Lit
literal sign f = para-Formula (Bool → Lit) (Unit {0}) literal_step (λ q. tt) f sign

abbrev pub yes_of : Formula → Lit
yes_of = literal true

abbrev pub no_of : Formula → Lit
no_of = literal false

abbrev pub opposite : Lit → Lit
opposite l = record { positive = not l.positive; formula = l.formula }

-- one of the literals holds; the order and repetition of literals mean nothing
abbrev pub Clause : Type 0
Clause = List Lit

abbrev pub is_true : Formula → Lit
is_true f = record { positive = true; formula = f }

abbrev pub is_false : Formula → Lit
is_false f = record { positive = false; formula = f }

-- ---- the defining clauses, each a row with its number: what the truth of a formula has to do with that of its parts
abbrev pub row_at : ℕ → List (ℕ × Clause) → Option Clause
row_at r [] = None
row_at r (c ∷ cs) = cond (nat_eq r c.0) (Some c.1) (row_at r cs)

-- the rows of a conjunction f of a and b, and so on
abbrev pub and_row : ℕ → Formula → Formula → Formula → Option Clause
and_row r f a b =
    row_at r (
    (AND_TO_LEFT, is_false f ∷ yes_of a ∷ []) ∷ (AND_TO_RIGHT, is_false f ∷ yes_of b ∷ [])
    ∷ (AND_FROM_BOTH, is_true f ∷ no_of a ∷ no_of b ∷ []) ∷ []
    )

abbrev pub or_row : ℕ → Formula → Formula → Formula → Option Clause
or_row r f a b =
    row_at r (
    (OR_FROM_LEFT, is_true f ∷ no_of a ∷ []) ∷ (OR_FROM_RIGHT, is_true f ∷ no_of b ∷ [])
    ∷ (OR_TO_EITHER, is_false f ∷ yes_of a ∷ yes_of b ∷ []) ∷ []
    )

abbrev pub iff_row : ℕ → Formula → Formula → Formula → Option Clause
iff_row r f a b =
    row_at r (
    (IFF_TO_RIGHT, is_false f ∷ no_of a ∷ yes_of b ∷ []) ∷ (IFF_TO_LEFT, is_false f ∷ yes_of a ∷ no_of b ∷ [])
    ∷ (IFF_FROM_NEITHER, is_true f ∷ yes_of a ∷ yes_of b ∷ []) ∷ (IFF_FROM_BOTH, is_true f ∷ no_of a ∷ no_of b ∷ []) ∷ []
    )

abbrev pub xor_row : ℕ → Formula → Formula → Formula → Option Clause
xor_row r f a b =
    row_at r (
    (XOR_TO_EITHER, is_false f ∷ yes_of a ∷ yes_of b ∷ []) ∷ (XOR_TO_NOT_BOTH, is_false f ∷ no_of a ∷ no_of b ∷ [])
    ∷ (XOR_FROM_LEFT, is_true f ∷ no_of a ∷ yes_of b ∷ []) ∷ (XOR_FROM_RIGHT, is_true f ∷ yes_of a ∷ no_of b ∷ []) ∷ []
    )

abbrev pub true_row : ℕ → Formula → Option Clause
true_row r f = row_at r ((TRUE_STANDS, is_true f ∷ []) ∷ [])

abbrev pub false_row : ℕ → Formula → Option Clause
false_row r f = row_at r ((FALSE_FAILS, is_false f ∷ []) ∷ [])

unfoldable pub row_of : ℕ → Formula → Formula-F Formula Quant → Option Clause
row_of r f (layer_of.And a b) = and_row r f a b
row_of r f (layer_of.Or a b) = or_row r f a b
row_of r f (layer_of.Iff a b) = iff_row r f a b
row_of r f (layer_of.Xor a b) = xor_row r f a b
row_of r f layer_of.True = true_row r f
row_of r f layer_of.False = false_row r f
row_of r f _ = None

-- the defining clause of number r of a formula
unfoldable pub row : ℕ → Formula → Option Clause
row r f = row_of r f (out-Formula f)

-- ---- unit propagation: with the literals `fs` false, the clauses, taken in order, lead to one that has no other literal
abbrev pub stands : List Lit → Lit → Bool
stands fs l = list_any (λ m. decided (Lit_discrete m l)) fs

-- a literal is true where its opposite is false
abbrev pub has_true : List Lit → Clause → Bool
has_true fs c = list_any (λ l. stands fs (opposite l)) c

abbrev pub is_or_stands : List Lit → Lit → Lit → Bool
is_or_stands fs l m = decided (Lit_discrete l m) || stands fs m

-- what becomes false with a clause: the opposite of its one literal that isn't false, which may be written more than once
abbrev pub next_false : List Lit → Clause → Option Lit
next_false fs [] = None
next_false fs (l ∷ ls) = cond (stands fs l) (next_false fs ls) (when (list_all (is_or_stands fs l) ls) (opposite l))

-- the last clause is false; one before it has a true literal and changes nothing, or has exactly one literal that isn't false, which becomes true.
-- A true literal counts first: where a clause has one, nothing changes, whatever its other literals are.
abbrev pub refutes : List Lit → List Clause → Bool
refutes fs [] = false
refutes fs (c ∷ []) = list_all (stands fs) c
refutes fs (c ∷ d ∷ cs) =
    cond (has_true fs c) (refutes fs (d ∷ cs)) (elim (next_false fs c) [ Some l ↦ refutes (fs ++ l ∷ []) (d ∷ cs) | None ↦ false ])
