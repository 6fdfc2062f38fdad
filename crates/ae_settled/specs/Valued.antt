-- The values of names, at any time between two changes: over names that are their own values, and computed where their terms are.
use Rattle.std.specs.Prelude.{ℕ, ℤ, Bool, true, false, cond, List, [], ◌∷◌, ◌≡◌, map, length, slice_get, Option, Some, None}
use Rattle.std.specs.List.{AllByRecursion}
use Rattle.ae_math.specs.Fractions.{inverse_ℚ, neg_ℚ, one_ℚ, ratio}
use Rattle.ae_math.specs.Forms.{Form, number, single, plus, minus, scale, is_zero}
use Rattle.ae_core.specs.Sorts.{sort_of, is_numeric}
use Rattle.ae_core.specs.declared.terms.Sort.{Sort}
use Rattle.ae_core.specs.declared.terms.Term.{Term, Num, Apply}
use Rattle.ae_core.specs.declared.terms.Head.{Head}
use Rattle.ae_core.specs.declared.terms.Head.TheVariants as head
use Rattle.ae_core.specs.declared.problems.Signature.{Signature}
use Rattle.ae_rules.specs.Linear.{form, is_number, Rule, rule_of}
use Rattle.ae_rules.specs.Linear.Rule.{opaque_term, sum_of, difference_of, negation_of, product_of, quotient_of}
use Rattle.ae_num.specs.Forms.{meaning, SameMeaning, IsNormal}
use Rattle.ae_num.specs.declared.forms.Lin.{Lin}
use Rattle.ae_num.specs.declared.forms.Value.{Value, Leaf, Number, Fields}
use Rattle.ae_journal.specs.Systems.{IsName, IsPredicateName, record_fields, field_terms}
use Rattle.ae_journal.specs.declared.systems.System.{System}

-- ---- values of terms
-- a name of the term has the value
pub record HasValue (y : System) (t : Term) (v : Value) : Type 0 where
  pub name : ℕ
  pub is : IsName y name t
  pub value : slice_get y.values name ≡ Some v

abbrev pub HaveValues : System → List Term → List Value → Type 0
HaveValues y [] [] = Unit {0}
HaveValues y (t ∷ ts) (v ∷ vs) = HasValue y t v × HaveValues y ts vs
HaveValues y _ _ = ⊥

-- the terms have numbers as their values, of these forms
abbrev pub HaveForms : System → List Term → List Lin → Type 0
HaveForms y ts fs = HaveValues y ts (map Number fs)

-- ---- names that are their own values
-- a number of the sort
pub record IsOwnNumber (sig : Signature) (y : System) (s : Sort) (n : ℕ) : Type 0 where
  pub term : Term
  pub is : IsName y n term
  pub sort : sort_of sig term ≡ Some s
  pub value : Lin
  pub value_is : slice_get y.values n ≡ Some (Number value)
  pub own : SameMeaning (meaning value) (single n)

-- of another sort
pub record IsOwnLeaf (sig : Signature) (y : System) (s : Sort) (n : ℕ) : Type 0 where
  pub term : Term
  pub is : IsName y n term
  pub sort : sort_of sig term ≡ Some s
  pub own : slice_get y.values n ≡ Some (Leaf n)

-- ---- the values by the sorts of the names
-- a number in the normal form, over numbers of the sort that are their own values
pub record IsNumberOver (sig : Signature) (y : System) (s : Sort) (v : Value) : Type 0 where
  pub form : Lin
  pub is : v ≡ Number form
  pub normal : IsNormal form
  pub over : AllByRecursion (λ p. IsOwnNumber sig y s p.key) form.parts

-- a name of the sort that is its own value
pub record IsLeafOver (sig : Signature) (y : System) (s : Sort) (v : Value) : Type 0 where
  pub leaf : ℕ
  pub is : v ≡ Leaf leaf
  pub over : IsOwnLeaf sig y s leaf

-- the values of these terms
pub record AreFields (y : System) (ts : List Term) (v : Value) : Type 0 where
  pub fields : List Value
  pub is : v ≡ Fields fields
  pub are : HaveValues y ts fields

-- ---- the linear operations
-- a product is linear where the linear form of a factor is a number
abbrev pub product : Term × Form ℕ → Term × Form ℕ → Option (Form ℕ)
product a b =
    cond (is_number (form a.0)) (Some (scale (form a.0).constant b.1)) (cond (is_number (form b.0)) (Some (scale (form b.0).constant a.1)) None)

abbrev pub quotient : Form ℕ → Term → Option (Form ℕ)
quotient f (Num a b real) = cond (is_zero (ratio a b)) None (Some (scale (inverse_ℚ (ratio a b)) f))
quotient f _ = None

abbrev pub linear_by : Rule (Term × Form ℕ) → Option (Form ℕ)
linear_by opaque_term = None
linear_by (sum_of a b) = Some (plus a.1 b.1)
linear_by (difference_of a b) = Some (minus a.1 b.1)
linear_by (negation_of a) = Some (scale (neg_ℚ one_ℚ) a.1)
linear_by (product_of a b) = product a b
linear_by (quotient_of a b) = quotient a.1 b.0

-- the form of an application, of arguments that each stand with their form; none where it is no linear operation
abbrev pub linear_form : Head → List (Term × Form ℕ) → Option (Form ℕ)
linear_form h args = linear_by (rule_of h args)

abbrev pub with_forms : List Term → List Lin → List (Term × Form ℕ)
with_forms (t ∷ ts) (f ∷ fs) = (t, meaning f) ∷ with_forms ts fs
with_forms _ _ = []

-- ---- all of it
pub record AreValues (sig : Signature) (y : System) : Type 0 where
  pub one_each : length y.values ≡ length y.names
  pub numbers : (n : ℕ) (t : Term) (s : Sort) (v : Value) → IsName y n t → sort_of sig t ≡ Some s → slice_get y.values n ≡ Some v → is_numeric s ≡ true → IsNumberOver sig y s v
  pub records : (n : ℕ) (t : Term) (s : Sort) (ss : List Sort) (v : Value) → IsName y n t → sort_of sig t ≡ Some s → slice_get y.values n ≡ Some v → record_fields sig s ≡ Some ss
      → AreFields y (field_terms s t (length ss)) v
  pub others : (n : ℕ) (t : Term) (s : Sort) (v : Value) → IsName y n t → sort_of sig t ≡ Some s → slice_get y.values n ≡ Some v → is_numeric s ≡ false → record_fields sig s ≡ None
      → IsLeafOver sig y s v
  pub predicates : (n : ℕ) (t : Term) → IsName y n t → IsPredicateName sig t → slice_get y.values n ≡ Some (Leaf n)
  -- what is computed
  pub numerals : (n : ℕ) (a b : ℤ) (real : Bool) (f : Lin) → IsName y n (Num a b real) → slice_get y.values n ≡ Some (Number f) → SameMeaning (meaning f) (number (ratio a b))
  pub operations : (n : ℕ) (h : Head) (ss : List Sort) (us : List Term) (fs : List Lin) (f : Lin) (g : Form ℕ) → IsName y n (Apply h ss us) → slice_get y.values n ≡ Some (Number f)
      → HaveForms y us fs → linear_form h (with_forms us fs) ≡ Some g → SameMeaning (meaning f) g
  pub written : (n k place : ℕ) (ss : List Sort) (us : List Term) (u : Term) (v : Value) → IsName y n (Apply (head.Field k place) ss (Apply (head.Build k) ss us ∷ []))
      → slice_get us place ≡ Some u → HasValue y u v → slice_get y.values n ≡ Some v
