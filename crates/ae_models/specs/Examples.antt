-- An example: a signature with an AC symbol, an enumeration and a record, a structure that interprets it, and formulas that are true in it.
-- Its things are counting numbers, two colours, and points of the plane; its reals are the fractions.
use Rattle.std.specs.Prelude.{ℕ, zero, suc, ◌+◌, false, List, [], ◌∷◌, codes, Some}
use Rattle.std.proofs.Common.{refl, ap}
use native.Mathlib.Decide.{ℕ_discrete}
use Rattle.ae_math.specs.Fractions.{ℚ, ℚ_discrete, zero_ℚ}
use Rattle.ae_core.specs.declared.terms.Sort.{Sort, Rigid, Real, Named}
use Rattle.ae_core.specs.declared.terms.Term.{Term, Bound, Apply}
use Rattle.ae_core.specs.declared.terms.Head.TheVariants.{Symbol, Field}
use Rattle.ae_core.specs.declared.formulas.Formula.{Formula, Eq, Lt, Not, And, Or, All, Ex}
use Rattle.ae_core.specs.declared.problems.Signature.{Signature}
use Rattle.ae_core.specs.declared.problems.SymbolEntry.{SymbolEntry}
use Rattle.ae_core.specs.declared.problems.TypeEntry.{TypeEntry}
use Rattle.ae_core.specs.declared.problems.FieldEntry.{FieldEntry}
use Rattle.ae_core.specs.declared.problems.Kind.TheVariants.{Abstract, Choices, Fields}
use Rattle.ae_core.specs.declared.problems.Nature.TheVariants.{Free, Ac, Choice}
use Rattle.ae_models.specs.Fields.{fractions}
use Rattle.ae_models.specs.Structures.{Value, Element, Number, Void, Structure}

-- ---- the signature: `type count`, `type colour = Red | Green`, `type point = { x : real; y : real }`,
-- `logic ac plus : count, count -> count` and `logic first : count, count -> count`
abbrev pub count : Sort
count = Named 0 []

abbrev pub colour : Sort
colour = Named 1 []

abbrev pub point : Sort
point = Named 2 []

abbrev pub coordinates : List FieldEntry
coordinates = record { name = codes "x"; sort = Real } ∷ record { name = codes "y"; sort = Real } ∷ []

abbrev pub example_types : List TypeEntry
example_types =
    record { name = codes "count"; arity = 0; kind = Abstract } ∷ record { name = codes "colour"; arity = 0; kind = Choices (1 ∷ 2 ∷ []) }
    ∷ record { name = codes "point"; arity = 0; kind = Fields coordinates } ∷ []

abbrev pub example_symbols : List SymbolEntry
example_symbols =
    record { name = codes "plus"; vars = 0; args = count ∷ count ∷ []; result = Some count; nature = Ac }
    ∷ record { name = codes "Red"; vars = 0; args = []; result = Some colour; nature = Choice 1 0 }
    ∷ record { name = codes "Green"; vars = 0; args = []; result = Some colour; nature = Choice 1 1 }
    ∷ record { name = codes "first"; vars = 0; args = count ∷ count ∷ []; result = Some count; nature = Free } ∷ []

abbrev pub example_signature : Signature
example_signature = record { types = example_types; symbols = example_symbols }

-- ---- the structure. Of each of a goal's type variables there is one thing.
pub data Thing : Type 0 where
  Count : ℕ → Thing
  Red : Thing
  Green : Thing
  Point : ℚ → ℚ → Thing
  Other : ℕ → Thing

pub Thing_discrete : Discrete Thing
Thing_discrete (Count a) (Count b) = elim (ℕ_discrete a b) [ yes e ↦ yes (ap Count e) | no n ↦ no (λ e. n cc) ]
Thing_discrete Red Red = yes refl
Thing_discrete Green Green = yes refl
Thing_discrete (Point p q) (Point r s) =
    elim (ℚ_discrete p r) [
      | yes e ↦ elim (ℚ_discrete q s) [ yes f ↦ yes (λ i. Point (e i) (f i)) | no n ↦ no (λ h. n cc) ]
      | no n ↦ no (λ h. n cc)
    ]
Thing_discrete (Other i) (Other j) = elim (ℕ_discrete i j) [ yes e ↦ yes (ap Other e) | no n ↦ no (λ h. n cc) ]
Thing_discrete _ _ = no (λ e. cc)

abbrev pub thing_sort : Thing → Sort
thing_sort (Count a) = count
thing_sort Red = colour
thing_sort Green = colour
thing_sort (Point p q) = point
thing_sort (Other i) = Rigid i

-- `plus` is the sum
abbrev pub sum_value : List (Value Thing ℚ) → Value Thing ℚ
sum_value (Element (Count a) ∷ Element (Count b) ∷ []) = Element (Count (a + b))
sum_value _ = Void

-- `first` is its first argument
abbrev pub first_of : List (Value Thing ℚ) → Value Thing ℚ
first_of (u ∷ v ∷ []) = u
first_of _ = Void

abbrev pub symbol_value : ℕ → List (Value Thing ℚ) → Value Thing ℚ
symbol_value zero vs = sum_value vs
symbol_value (suc zero) vs = Element Red
symbol_value (suc (suc zero)) vs = Element Green
symbol_value (suc (suc (suc n))) vs = first_of vs

abbrev pub built : List (Value Thing ℚ) → Value Thing ℚ
built (Number p ∷ Number q ∷ []) = Element (Point p q)
built _ = Void

abbrev pub coordinate : ℕ → Value Thing ℚ → Value Thing ℚ
coordinate zero (Element (Point p q)) = Number p
coordinate (suc n) (Element (Point p q)) = Number q
coordinate n _ = Void

abbrev pub example : Structure Thing ℚ
example = record {
  same_thing = Thing_discrete;
  reals = fractions;
  sort = thing_sort;
  symbol = λ n ss vs. symbol_value n vs;
  predicate = λ n ss vs. false;
  build = λ n ss vs. built vs;
  field = λ n place ss v. coordinate place v;
  quotient = λ a b. zero_ℚ;
  remainder = λ a b. zero_ℚ;
  by_zero = λ a. zero_ℚ;
}

-- ---- formulas
abbrev pub plus : Term → Term → Term
plus a b = Apply (Symbol 0) [] (a ∷ b ∷ [])

abbrev pub red : Term
red = Apply (Symbol 1) [] []

abbrev pub green : Term
green = Apply (Symbol 2) [] []

abbrev pub first : Term → Term → Term
first a b = Apply (Symbol 3) [] (a ∷ b ∷ [])

abbrev pub x_of : Term → Term
x_of p = Apply (Field 2 0) [] (p ∷ [])

abbrev pub y_of : Term → Term
y_of p = Apply (Field 2 1) [] (p ∷ [])

abbrev pub all_of : List Sort → Formula → Formula
all_of ss f = All (record { sorts = ss; triggers = []; body = f })

abbrev pub some_of : List Sort → Formula → Formula
some_of ss f = Ex (record { sorts = ss; triggers = []; body = f })

-- `forall a, b : count. plus(a, b) = plus(b, a)`
abbrev pub plus_commutes : Formula
plus_commutes = all_of (count ∷ count ∷ []) (Eq (plus (Bound 1) (Bound 0)) (plus (Bound 0) (Bound 1)))

-- `forall a : colour. a = Red or a = Green`
abbrev pub two_colours : Formula
two_colours = all_of (colour ∷ []) (Or (Eq (Bound 0) red) (Eq (Bound 0) green))

-- `forall p, q : point. p.x = q.x and p.y = q.y -> p = q`
abbrev pub points_are_coordinates : Formula
points_are_coordinates =
    all_of (point ∷ point ∷ [])
    (Or (Not (And (Eq (x_of (Bound 1)) (x_of (Bound 0))) (Eq (y_of (Bound 1)) (y_of (Bound 0))))) (Eq (Bound 1) (Bound 0)))

-- `forall x : real. exists y : real. x < y`
abbrev pub no_greatest : Formula
no_greatest = all_of (Real ∷ []) (some_of (Real ∷ []) (Lt (Bound 1) (Bound 0)))
