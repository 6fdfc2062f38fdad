-- The sort of a tree, and the values that are its fields.
use Rattle.std.specs.Prelude.{ℕ, Bool, true, false, cond, ◌&&◌, nat_eq, List, [], ◌∷◌, ◌≡◌, slice_get, Option, Some, None}
use Rattle.std.specs.List.{list_any}
use Rattle.std.proofs.Common.{refl, sym, ap, true≢false}
use Rattle.std.proofs.lemmas.Bool.{and_parts}
use native.Mathlib.Decide.{ℕ_discrete}
use mathlib.Core.Bool.{Bool-discrete}
use Rattle.ae_math.specs.Fractions.{ℚ, ℚ_discrete}
use Rattle.ae_base.specs.Decided.{decided}
use Rattle.ae_core.specs.Decided.{Sort_discrete, Sorts_discrete}
use Rattle.ae_base.specs.Options.{◌>>=◌, or_else}
use Rattle.ae_core.specs.Sorts.{same_sort}
use Rattle.ae_core.specs.declared.terms.Sort.{Sort, Sort-F, Var, Named, out-Sort}
use Rattle.ae_core.specs.declared.terms.Sort.TheOpen as sort_layer
use Rattle.ae_core.specs.declared.problems.Signature.{Signature}
use Rattle.ae_core.specs.declared.problems.Kind.{Kind}
use Rattle.ae_core.specs.declared.problems.Kind.TheVariants.{Abstract, Choices, Fields}
use Rattle.ae_models.specs.Structures.{Value, Element, Number, Truth, Void, field_sorts}
use Rattle.ae_models.specs.Trees.{Tree, Atom, Record, NoField, ThingField, NumberField, TruthField, VoidField}
use Rattle.ae_models.proofs.Trees.Wholes.{whole_or_not}

pub Tree_discrete : Discrete Tree
Tree_discrete (Atom m r) (Atom n s) =
    elim (ℕ_discrete m n) [ yes e ↦ elim (Sort_discrete r s) [ yes f ↦ yes (λ i. Atom (e i) (f i)) | no d ↦ no (λ h. d cc) ] | no d ↦ no (λ h. d cc) ]
Tree_discrete (Record m rs t) (Record n ss u) =
    elim (ℕ_discrete m n) [
      | yes e ↦ elim (Sorts_discrete rs ss) [
        | yes f ↦ elim (Tree_discrete t u) [ yes g ↦ yes (λ i. Record (e i) (f i) (g i)) | no d ↦ no (λ h. d cc) ]
        | no d ↦ no (λ h. d cc)
      ]
      | no d ↦ no (λ h. d cc)
    ]
Tree_discrete NoField NoField = yes refl
Tree_discrete (ThingField t r) (ThingField u s) =
    elim (Tree_discrete t u) [ yes e ↦ elim (Tree_discrete r s) [ yes f ↦ yes (λ i. ThingField (e i) (f i)) | no d ↦ no (λ h. d cc) ] | no d ↦ no (λ h. d cc) ]
Tree_discrete (NumberField p r) (NumberField q s) =
    elim (ℚ_discrete p q) [ yes e ↦ elim (Tree_discrete r s) [ yes f ↦ yes (λ i. NumberField (e i) (f i)) | no d ↦ no (λ h. d cc) ] | no d ↦ no (λ h. d cc) ]
Tree_discrete (TruthField a r) (TruthField b s) =
    elim (Bool-discrete a b) [ yes e ↦ elim (Tree_discrete r s) [ yes f ↦ yes (λ i. TruthField (e i) (f i)) | no d ↦ no (λ h. d cc) ] | no d ↦ no (λ h. d cc) ]
Tree_discrete (VoidField r) (VoidField s) = elim (Tree_discrete r s) [ yes f ↦ yes (λ i. VoidField (f i)) | no d ↦ no (λ h. d cc) ]
Tree_discrete _ _ = no (λ h. cc)

-- ---- fields
abbrev pub tuple : List (Value Tree ℚ) → Tree
tuple [] = NoField
tuple (Element t ∷ vs) = ThingField t (tuple vs)
tuple (Number q ∷ vs) = NumberField q (tuple vs)
tuple (Truth b ∷ vs) = TruthField b (tuple vs)
tuple (Void ∷ vs) = VoidField (tuple vs)

abbrev pub parts : Tree → List (Value Tree ℚ)
parts (ThingField t r) = Element t ∷ parts r
parts (NumberField q r) = Number q ∷ parts r
parts (TruthField b r) = Truth b ∷ parts r
parts (VoidField r) = Void ∷ parts r
parts _ = []

pub parts_of_tuple : (vs : List (Value Tree ℚ)) → parts (tuple vs) ≡ vs
parts_of_tuple [] = refl
parts_of_tuple (Element t ∷ vs) = ap (λ ws. Element t ∷ ws) (parts_of_tuple vs)
parts_of_tuple (Number q ∷ vs) = ap (λ ws. Number q ∷ ws) (parts_of_tuple vs)
parts_of_tuple (Truth b ∷ vs) = ap (λ ws. Truth b ∷ ws) (parts_of_tuple vs)
parts_of_tuple (Void ∷ vs) = ap (λ ws. Void ∷ ws) (parts_of_tuple vs)

-- ---- sorts
-- a value may stand for a term of the sort s, where of a thing its sort is known
abbrev pub layer_fits : Sort → Sort-F Sort → Value Sort ℚ → Bool
layer_fits s sort_layer.Int (Number q) = decided (whole_or_not q)
layer_fits s sort_layer.Real (Number q) = true
layer_fits s sort_layer.Bool (Truth b) = true
layer_fits s sort_layer.Unit Void = true
layer_fits s (sort_layer.Var i) (Element r) = same_sort r s
layer_fits s (sort_layer.Rigid i) (Element r) = same_sort r s
layer_fits s (sort_layer.Named n ss) (Element r) = same_sort r s
layer_fits s _ _ = false

abbrev pub fits : Sort → Value Sort ℚ → Bool
fits s v = layer_fits s (out-Sort s) v

-- the first field fits, and so do the others
abbrev pub first_fits : Value Sort ℚ → (List Sort → Bool) → List Sort → Bool
first_fits v rest [] = false
first_fits v rest (s ∷ ss) = fits s v && rest ss

abbrev pub no_sorts : List Sort → Bool
no_sorts [] = true
no_sorts (s ∷ ss) = false

-- the sort of what is no thing of any closed sort
abbrev pub nowhere : Sort
nowhere = Var 0

module _ (sig : Signature) where
  -- a thing without parts is of an abstract sort, or one of the constructors of an enumeration
  abbrev pub kind_takes : ℕ → List Sort → Kind → Bool
  kind_takes n ss Abstract = true
  kind_takes n ss (Choices cs) = no_sorts ss && list_any (nat_eq n) cs
  kind_takes n ss (Fields fs) = false

  abbrev pub layer_takes : ℕ → Sort-F Sort → Bool
  layer_takes n (sort_layer.Rigid i) = true
  layer_takes n (sort_layer.Named h ss) = or_else (slice_get sig.types h >>= λ e. Some (kind_takes n ss e.kind)) false
  layer_takes n _ = false

  abbrev pub kind_fields : List Sort → Kind → Option (List Sort)
  kind_fields ss (Fields fs) = Some (field_sorts ss fs)
  kind_fields ss _ = None

  -- the sorts of the fields of a record
  abbrev pub record_fields : ℕ → List Sort → Option (List Sort)
  record_fields n ss = slice_get sig.types n >>= λ e. kind_fields ss e.kind

  abbrev pub is_record : Option (List Sort) → (List Sort → Bool) → Bool
  is_record (Some rs) rest = rest rs
  is_record None rest = false

  -- the sort of a tree, and, for fields, whether they are of given sorts
  abbrev pub measured : Tree → Sort × (List Sort → Bool)
  measured (Atom n s) = (cond (layer_takes n (out-Sort s)) s nowhere, λ ss. false)
  measured (Record n ss t) = (cond (is_record (record_fields n ss) (measured t).1) (Named n ss) nowhere, λ ss. false)
  measured NoField = (nowhere, no_sorts)
  measured (ThingField t r) = (nowhere, first_fits (Element (measured t).0) (measured r).1)
  measured (NumberField q r) = (nowhere, first_fits (Number q) (measured r).1)
  measured (TruthField b r) = (nowhere, first_fits (Truth b) (measured r).1)
  measured (VoidField r) = (nowhere, first_fits Void (measured r).1)

  abbrev pub tree_sort : Tree → Sort
  tree_sort t = (measured t).0

  -- the value with its sort in place of a thing
  abbrev pub sorted_value : Value Tree ℚ → Value Sort ℚ
  sorted_value (Element t) = Element (tree_sort t)
  sorted_value (Number q) = Number q
  sorted_value (Truth b) = Truth b
  sorted_value Void = Void

  abbrev pub all_fit : List Sort → List (Value Tree ℚ) → Bool
  all_fit ss vs = (measured (tuple vs)).1 ss

  -- one by one
  pub all_fit_more : (ss : List Sort) (v : Value Tree ℚ) (vs : List (Value Tree ℚ))
      → (measured (tuple (v ∷ vs))).1 ss ≡ first_fits (sorted_value v) (measured (tuple vs)).1 ss
  all_fit_more ss (Element t) vs = refl
  all_fit_more ss (Number q) vs = refl
  all_fit_more ss (Truth b) vs = refl
  all_fit_more ss Void vs = refl

  -- fields that fit some sorts are a tuple of values
  pub tuple_of_parts : (t : Tree) (ss : List Sort) → (measured t).1 ss ≡ true → tuple (parts t) ≡ t
  tuple_of_parts (Atom n s) ss e = absurd (true≢false (sym e))
  tuple_of_parts (Record n rs t) ss e = absurd (true≢false (sym e))
  tuple_of_parts NoField ss e = refl
  tuple_of_parts (ThingField t r) [] e = absurd (true≢false (sym e))
  tuple_of_parts (ThingField t r) (s ∷ ss) e = ap (ThingField t) (tuple_of_parts r ss (and_parts (fits s (Element (tree_sort t))) ((measured r).1 ss) e).1)
  tuple_of_parts (NumberField q r) [] e = absurd (true≢false (sym e))
  tuple_of_parts (NumberField q r) (s ∷ ss) e = ap (NumberField q) (tuple_of_parts r ss (and_parts (fits s (Number q)) ((measured r).1 ss) e).1)
  tuple_of_parts (TruthField b r) [] e = absurd (true≢false (sym e))
  tuple_of_parts (TruthField b r) (s ∷ ss) e = ap (TruthField b) (tuple_of_parts r ss (and_parts (fits s (Truth b)) ((measured r).1 ss) e).1)
  tuple_of_parts (VoidField r) [] e = absurd (true≢false (sym e))
  tuple_of_parts (VoidField r) (s ∷ ss) e = ap VoidField (tuple_of_parts r ss (and_parts (fits s Void) ((measured r).1 ss) e).1)
