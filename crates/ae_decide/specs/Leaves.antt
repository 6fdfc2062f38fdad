-- A test of the values of names: their normal forms, and the leaves in them.
use Rattle.std.specs.Prelude.{ℕ, pos, Bool, true, false, cond, not, ◌&&◌, ◌||◌, nat_eq, nat_lt, int_lt, List, [], ◌∷◌, slice_get, Option, Some, None}
use Rattle.std.specs.List.{list_all}
use lib.IntN.{ℤ_discrete}
use Rattle.ae_base.specs.Decided.{decided}
use Rattle.ae_base.specs.Options.{known}
use Rattle.ae_core.specs.Sorts.{sort_of, same_sort, is_numeric, is_closed_sort, applied_ok, within}
use Rattle.ae_core.specs.declared.problems.Signature.{Signature}
use Rattle.ae_core.specs.declared.terms.Sort.{Sort}
use Rattle.ae_core.specs.declared.terms.Term.{Term, out-Term}
use Rattle.ae_num.specs.declared.forms.Lin.{Lin}
use Rattle.ae_num.specs.declared.forms.Part.{Part}
use Rattle.ae_num.specs.declared.forms.Value.{Value, Value-F, Leaf, Number, fold-Value, out-Value}
use Rattle.ae_num.specs.declared.forms.Value.TheOpen as layer
use Rattle.ae_journal.specs.Systems.{record_fields}
use Rattle.ae_journal.specs.declared.systems.System.{System}
use Rattle.ae_decide.specs.Inner.Decisions.{normal_decided}
use Rattle.ae_decide.specs.Values.{place_from, value_of, same_known}

-- ---- normal forms
abbrev pub is_normal : Lin → Bool
is_normal f = decided (normal_decided f)

abbrev pub normal_step : Value-F Bool → Bool
normal_step (layer.Leaf n) = true
normal_step (layer.Number f) = is_normal f
normal_step (layer.Fields bs) = list_all (λ b. b) bs

-- a factor within the limits that isn't 0
abbrev pub has_factor : Part → Bool
has_factor p = within p.factor && not (decided (ℤ_discrete p.factor (pos 0)))

abbrev pub is_after : ℕ → Part → Bool
is_after k p = nat_lt k p.key

abbrev pub are_rising : List Part → Bool
are_rising [] = true
are_rising (p ∷ ps) = list_all (is_after p.key) ps && are_rising ps

-- what is asked of the numbers of a form each by itself
abbrev pub is_proper : Lin → Bool
is_proper f = int_lt (pos 0) f.den && within f.den && within f.constant && list_all has_factor f.parts && are_rising f.parts

-- each form in a value is normal
unfoldable pub is_normal_value : Value → Bool
is_normal_value = fold-Value Bool normal_step

-- ---- leaves
-- a name as its own value
abbrev pub written_own : Sort → ℕ → Value
written_own s n =
    cond (is_numeric s) (Number (record { den = pos 1; parts = record { key = n; factor = pos 1 } ∷ []; constant = pos 0 })) (Leaf n)

abbrev pub is_of_sort : Option Sort → Sort → Bool
is_of_sort (Some t) s = same_sort t s
is_of_sort None s = false

abbrev pub has_sort : Signature → Option Term → Sort → Bool
has_sort sig (Some t) s = is_of_sort (sort_of sig t) s
has_sort sig None s = false

-- a name of this sort that is its own value
abbrev pub is_leaf : Signature → System → Sort → ℕ → Bool
is_leaf sig y s n = has_sort sig (slice_get y.names n) s && same_known (slice_get y.values n) (Some (written_own s n))

-- each test at the sort of its place
abbrev pub all_over : List (Sort → Bool) → List Sort → Bool
all_over [] [] = true
all_over (o ∷ os) (s ∷ ss) = o s && all_over os ss
all_over _ _ = false

abbrev pub all_over_if : List (Sort → Bool) → Option (List Sort) → Bool
all_over_if os (Some ss) = all_over os ss
all_over_if os None = false

abbrev pub is_leaf_over : Signature → System → Sort → ℕ → Bool
is_leaf_over sig y s n = not (is_numeric s) && not (known (record_fields sig s)) && is_leaf sig y s n

abbrev pub over_step : Signature → System → Value-F (Sort → Bool) → Sort → Bool
over_step sig y (layer.Leaf n) s = is_leaf_over sig y s n
over_step sig y (layer.Number f) s = is_numeric s && list_all (λ p. is_leaf sig y s p.key) f.parts
over_step sig y (layer.Fields os) s = all_over_if os (record_fields sig s)

-- a value over leaves, of the shape that its sort asks for
unfoldable pub is_over : Signature → System → Value → Sort → Bool
is_over sig y = fold-Value (Sort → Bool) (over_step sig y)

abbrev pub is_over_if : Signature → System → Option Value → Option Sort → Bool
is_over_if sig y (Some v) (Some s) = is_over sig y v s
is_over_if sig y _ _ = true

-- ---- predicates
abbrev pub is_predicate : Signature → Term → Bool
is_predicate sig t = applied_ok sig (is_closed_sort sig) [] (out-Term t)

abbrev pub is_leaf_by : ℕ → Value-F Value → Bool
is_leaf_by n (layer.Leaf k) = nat_eq k n
is_leaf_by n _ = false

abbrev pub is_leaf_value : ℕ → Option Value → Bool
is_leaf_value n (Some v) = is_leaf_by n (out-Value v)
is_leaf_value n None = false

abbrev pub has_own_leaf : System → Option ℕ → Bool
has_own_leaf y (Some n) = is_leaf_value n (slice_get y.values n)
has_own_leaf y None = false

-- ---- names
abbrev pub has_value : Signature → System → Term → Bool
has_value sig y t = is_over_if sig y (value_of y t) (sort_of sig t) && (not (is_predicate sig t) || has_own_leaf y (place_from 0 y.names t))

abbrev pub all_have_values : Signature → System → Bool
all_have_values sig y = list_all is_normal_value y.values && list_all (has_value sig y) y.names
