-- Lawful signatures and problems: what a text that was read and typed gives.
use Rattle.std.specs.Prelude.{ℕ, ◌<◌, Bool, true, false, not, ◌&&◌, ◌||◌, nat_eq, nat_le, nat_lt, List, [], ◌∷◌, ◌++◌, ◌≡◌, ◌≢◌, ◌↔◌, map, length, slice_get, codes, Option, Some, None}
use Rattle.std.specs.List.{AllByRecursion, AllPairs, list_any, list_all, flat_map}
use Rattle.std.specs.Str.{bytes_eq}
use Rattle.ae_core.specs.Sorts.{sort_ok, formula_in}
use Rattle.ae_core.specs.Constants.{formula_constants}
use Rattle.ae_core.specs.declared.terms.Sort.{Sort, Sort-F, Named, fold-Sort}
use Rattle.ae_core.specs.declared.terms.Sort.TheOpen as sort_layer
use Rattle.ae_core.specs.declared.terms.Term.{Term, Term-F, fold-Term, out-Term}
use Rattle.ae_core.specs.declared.terms.Term.TheOpen as layer
use Rattle.ae_core.specs.declared.formulas.Formula.{Formula, Formula-F, fold-Formula}
use Rattle.ae_core.specs.declared.formulas.Formula.TheOpen as formula_layer
use Rattle.ae_core.specs.declared.problems.Signature.{Signature}
use Rattle.ae_core.specs.declared.problems.SymbolEntry.{SymbolEntry}
use Rattle.ae_core.specs.declared.problems.TypeEntry.{TypeEntry}
use Rattle.ae_core.specs.declared.problems.FieldEntry.{FieldEntry}
use Rattle.ae_core.specs.declared.problems.Kind.TheVariants.{Abstract, Choices, Fields}
use Rattle.ae_core.specs.declared.problems.Nature.TheVariants.{Free, Ac, Choice}
use Rattle.ae_core.specs.declared.problems.Item.{Item}
use Rattle.ae_core.specs.declared.problems.Item.TheVariants.{Axiom, Goal}
use Rattle.ae_core.specs.declared.problems.Problem.{Problem}

-- ---- names, as their bytes
-- a letter or `_`
abbrev pub begins_name : ℕ → Bool
begins_name b = (nat_le 65 b && nat_le b 90) || (nat_le 97 b && nat_le b 122) || nat_eq b 95

-- a letter, `_`, a digit, `?` or a point
abbrev pub continues_name : ℕ → Bool
continues_name b = begins_name b || (nat_le 48 b && nat_le b 57) || nat_eq b 63 || nat_eq b 46

unfoldable pub taken_names : List (List ℕ)
taken_names = codes "int" ∷ codes "real" ∷ codes "bool" ∷ codes "unit" ∷ codes "true" ∷ codes "false" ∷ codes "void" ∷ []

abbrev pub is_name : List ℕ → Bool
is_name [] = false
is_name (b ∷ bs) = begins_name b && list_all continues_name bs && not (list_any (bytes_eq (b ∷ bs)) taken_names)

abbrev pub fields_of : TypeEntry → List FieldEntry
fields_of e = elim e.kind [ Fields fs ↦ fs | Abstract ↦ [] | Choices cs ↦ [] ]

abbrev pub AreDistinct : List (List ℕ) → Type 0
AreDistinct = AllPairs (λ x y. x ≢ y)

-- ---- sorts
-- the sort has only the first n type variables, and none of a goal
abbrev pub is_sort_over : Signature → ℕ → Sort → Bool
is_sort_over sig n = sort_ok sig (λ i. nat_lt i n) (λ i. false)

-- each named sort in it is of a type of smaller number than n
abbrev pub names_below_step : ℕ → Sort-F Bool → Bool
names_below_step n (sort_layer.Named h args) = nat_lt h n && list_all (λ b. b) args
names_below_step n _ = true

unfoldable pub names_below : ℕ → Sort → Bool
names_below n = fold-Sort Bool (names_below_step n)

-- ---- types and symbols
-- the symbol of this number is the constructor at `place` of the type of number `of`
abbrev pub IsChoice : Signature → ℕ → ℕ → ℕ → Type 0
IsChoice sig symbol of place = (e : SymbolEntry) × (slice_get sig.symbols symbol ≡ Some e) × (e.nature ≡ Choice of place)

-- the enumeration of number n lists its constructors: the symbol at each place is the constructor of that place, and no other symbol is
pub record IsEnumeration (sig : Signature) (n arity : ℕ) (cs : List ℕ) : Type 0 where
  pub no_parameters : arity ≡ 0
  pub some : cs ≢ []
  pub each : (symbol place : ℕ) → (slice_get cs place ≡ Some symbol) ↔ IsChoice sig symbol n place

-- the sort of a record's field has the type's parameters alone, and names only types of smaller number
abbrev pub is_field_sort : Signature → ℕ → ℕ → Sort → Bool
is_field_sort sig n arity s = is_sort_over sig arity s && names_below n s

-- a record type has at least one field
abbrev pub IsLawfulType : Signature → ℕ → TypeEntry → Type 0
IsLawfulType sig n e =
    elim e.kind [
      | Abstract ↦ Unit {0}
      | Choices cs ↦ IsEnumeration sig n e.arity cs
      | Fields fs ↦ (fs ≢ []) × (list_all (λ f. is_field_sort sig n e.arity f.sort) fs ≡ true)
    ]

-- the type of this number is an enumeration
abbrev pub IsEnumerated : Signature → ℕ → Type 0
IsEnumerated sig n = (e : TypeEntry) × (cs : List ℕ) × (slice_get sig.types n ≡ Some e) × (e.kind ≡ Choices cs)

-- an AC symbol has two arguments of one sort, and that sort as its result; a constructor has no type variables and no arguments, and its enumeration as its result
abbrev pub IsLawfulNature : Signature → SymbolEntry → Type 0
IsLawfulNature sig e =
    elim e.nature [
      | Free ↦ Unit {0}
      | Ac ↦ (s : Sort) × (e.args ≡ s ∷ s ∷ []) × (e.result ≡ Some s)
      | Choice of place ↦ (e.vars ≡ 0) × (e.args ≡ []) × (e.result ≡ Some (Named of [])) × IsEnumerated sig of
    ]

abbrev pub is_result : Signature → ℕ → Option Sort → Bool
is_result sig vars (Some s) = is_sort_over sig vars s
is_result sig vars None = true

abbrev pub IsLawfulSymbol : Signature → SymbolEntry → Type 0
IsLawfulSymbol sig e =
    (list_all (is_sort_over sig e.vars) e.args ≡ true) × (is_result sig e.vars e.result ≡ true) × IsLawfulNature sig e

pub record IsLawful (sig : Signature) : Type 0 where
  pub names : list_all is_name (map (λ e. e.name) sig.types ++ map (λ e. e.name) sig.symbols ++ flat_map (λ e. map (λ f. f.name) (fields_of e)) sig.types) ≡ true
  pub type_names : AreDistinct (map (λ e. e.name) sig.types)
  pub symbol_names : AreDistinct (map (λ e. e.name) sig.symbols)
  pub field_names : AreDistinct (flat_map (λ e. map (λ f. f.name) (fields_of e)) sig.types)
  pub types : (n : ℕ) (e : TypeEntry) → slice_get sig.types n ≡ Some e → IsLawfulType sig n e
  pub symbols : (n : ℕ) (e : SymbolEntry) → slice_get sig.symbols n ≡ Some e → IsLawfulSymbol sig e

-- ---- triggers
-- the variable at this distance occurs in the term
abbrev pub has_variable_step : ℕ → Term-F Bool → Bool
has_variable_step i (layer.Bound j) = nat_eq i j
has_variable_step i (layer.Apply h ss us) = list_any (λ b. b) us
has_variable_step i _ = false

unfoldable pub has_variable : ℕ → Term → Bool
has_variable i = fold-Term Bool (has_variable_step i)

abbrev pub is_application : Term-F Term → Bool
is_application (layer.Apply h ss us) = true
is_application _ = false

-- the trigger's terms are applications, and have each of the block's n variables
abbrev pub IsTrigger : ℕ → List Term → Type 0
IsTrigger n ts = (list_all (λ t. is_application (out-Term t)) ts ≡ true) × ((i : ℕ) → i < n → list_any (has_variable i) ts ≡ true)

abbrev pub triggers_step : Formula-F (List (ℕ × List Term)) (List (ℕ × List Term)) → List (ℕ × List Term)
triggers_step (formula_layer.Not a) = a
triggers_step (formula_layer.And a b) = a ++ b
triggers_step (formula_layer.Or a b) = a ++ b
triggers_step (formula_layer.Xor a b) = a ++ b
triggers_step (formula_layer.Iff a b) = a ++ b
triggers_step (formula_layer.All q) = q
triggers_step (formula_layer.Ex q) = q
triggers_step _ = []

-- the triggers in a formula, each with the number of its block's variables
unfoldable pub triggers_in : Formula → List (ℕ × List Term)
triggers_in = fold-Formula (List (ℕ × List Term)) (List (ℕ × List Term)) triggers_step (λ q. map (λ ts. (length q.sorts, ts)) q.triggers ++ q.body)

-- ---- problems
-- the formula is closed and well sorted with the type variables of its item, each of its triggers may stand, and no fresh constant occurs in it
abbrev pub IsLawfulFormula : Signature → (Sort → Bool) → Formula → Type 0
IsLawfulFormula sig may f =
    (formula_in sig may [] f ≡ true) × AllByRecursion (λ t. IsTrigger t.0 t.1) (triggers_in f) × (formula_constants f ≡ [])

abbrev pub IsLawfulItem : Signature → Item → Type 0
IsLawfulItem sig (Axiom n vars f) = IsLawfulFormula sig (is_sort_over sig vars) f
IsLawfulItem sig (Goal n rigid f) = IsLawfulFormula sig (sort_ok sig (λ i. false) (λ i. nat_lt i rigid)) f

pub record IsLawfulProblem (p : Problem) : Type 0 where
  pub signature : IsLawful p.signature
  pub items : AllByRecursion (IsLawfulItem p.signature) p.items
