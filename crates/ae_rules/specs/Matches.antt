-- Matches of a trigger: sorts for type variables and known terms for variables, so that each term of the trigger equals a known term.
-- Which terms are known, and which of them are the same, is given: names of a store and an equality of theirs, or all terms and consequence.
use Rattle.std.specs.Prelude.{ℕ, ◌<◌, Bool, true, false, ◌||◌, not, nat_eq, List, [], ◌∷◌, ◌≡◌, map, length, reverse, slice_get, Some}
use Rattle.std.specs.List.{AllByRecursion, list_any, list_all}
use Rattle.ae_math.specs.Fractions.{ratio}
use Rattle.ae_math.specs.Forms.{is_zero}
use Rattle.ae_core.specs.Putting.{put_sort, instance_term, put_terms}
use Rattle.ae_core.specs.Sorts.{is_closed_sort}
use Rattle.ae_rules.specs.Linear.{form, is_number, Rule, opaque_term, product_of, quotient_of, rule_of}
use Rattle.ae_rules.specs.Lines.{IsAc}
use Rattle.ae_rules.specs.Instances.{have_sorts}
use Rattle.ae_core.specs.declared.terms.Sort.{Sort, Sort-F, Unit as UnitSort, fold-Sort}
use Rattle.ae_core.specs.declared.terms.Sort.TheOpen as sort_layer
use Rattle.ae_core.specs.declared.terms.Term.{Term, Term-F, Bound, Num, Apply, fold-Term, out-Term}
use Rattle.ae_core.specs.declared.terms.Term.TheOpen as layer
use Rattle.ae_core.specs.declared.terms.Head.{Head}
use Rattle.ae_core.specs.declared.problems.Signature.{Signature}

-- ---- arithmetic terms: those that their linear form computes
abbrev pub is_divisor : Term → Bool
is_divisor (Num a b real) = not (is_zero (ratio a b))
is_divisor _ = false

abbrev pub is_computed : Rule Term → Bool
is_computed opaque_term = false
is_computed (product_of a b) = is_number (form a) || is_number (form b)
is_computed (quotient_of a b) = is_divisor b
is_computed _ = true

-- a numeral, a sum, a difference, a negation, a product with a constant factor, a quotient of `real` by a numeral other than 0
abbrev pub is_arithmetic_layer : Term-F Term → Bool
is_arithmetic_layer (layer.Num a b real) = true
is_arithmetic_layer (layer.Apply h ss us) = is_computed (rule_of h us)
is_arithmetic_layer _ = false

unfoldable pub is_arithmetic : Term → Bool
is_arithmetic t = is_arithmetic_layer (out-Term t)

-- a fresh constant or an arithmetic term equals what is the same as itself alone
abbrev pub is_own_layer : Term-F Term → Bool
is_own_layer (layer.Fresh n s) = true
is_own_layer t = is_arithmetic_layer t

unfoldable pub is_own : Term → Bool
is_own t = is_own_layer (out-Term t)

-- ---- what a term of a trigger equals, with sorts for its type variables and terms for its variables
-- both terms are known, and they are the same
abbrev pub IsSame : (Term → Type 0) → (Term → Term → Type 0) → Term → Term → Type 0
IsSame known same t u = known t × known u × same t u

-- the head of a pattern, with sorts put for its type variables, applied to terms
abbrev pub written : List Sort → Head → List Sort → List Term → Term
written sorts h ss us = Apply h (map (put_sort sorts) ss) us

mutual
  pub data Equals (sig : Signature) (known : Term → Type 0) (same : Term → Term → Type 0) (sorts : List Sort) (values : List Term) : Term → Term → Type 0 where
    -- a variable equals what is the same as the term that it was given
    variable : {i : ℕ} {v u : Term} → slice_get (reverse values) i ≡ Some v → known u → same v u → Equals sig known same sorts values (Bound i) u
    -- an application equals what is the same as a known application of that head and those sorts whose arguments the pattern's equal
    application : {h : Head} {ss : List Sort} {ps us : List Term} {u : Term} → is_arithmetic (Apply h ss ps) ≡ false
        → EqualEach sig known same sorts values ps us → is_arithmetic (written sorts h ss us) ≡ false
        → IsSame known same (written sorts h ss us) u → Equals sig known same sorts values (Apply h ss ps) u
    -- for an associative and commutative symbol either order of the two arguments counts
    turned : {h : Head} {ss : List Sort} {p q a b u : Term} → IsAc sig h → is_arithmetic (Apply h ss (p ∷ q ∷ [])) ≡ false
        → Equals sig known same sorts values p b → Equals sig known same sorts values q a → is_arithmetic (written sorts h ss (a ∷ b ∷ [])) ≡ false
        → IsSame known same (written sorts h ss (a ∷ b ∷ [])) u → Equals sig known same sorts values (Apply h ss (p ∷ q ∷ [])) u
    -- a numeral, another arithmetic term or a fresh constant equals what is the same as itself, with sorts and terms put, where that is known
    own : {p u : Term} → is_own p ≡ true → IsSame known same (put_terms 0 values (instance_term sorts p)) u → Equals sig known same sorts values p u

  pub data EqualEach (sig : Signature) (known : Term → Type 0) (same : Term → Term → Type 0) (sorts : List Sort) (values : List Term)
      : List Term → List Term → Type 0 where
    none : EqualEach sig known same sorts values [] []
    more : {p u : Term} {ps us : List Term} → Equals sig known same sorts values p u → EqualEach sig known same sorts values ps us
        → EqualEach sig known same sorts values (p ∷ ps) (u ∷ us)

-- ---- the type variable i occurs in a sort, in the sorts of a term
abbrev pub sort_has_step : ℕ → Sort-F Bool → Bool
sort_has_step i (sort_layer.Var j) = nat_eq i j
sort_has_step i (sort_layer.Named h args) = list_any (λ b. b) args
sort_has_step i _ = false

unfoldable pub sort_has : ℕ → Sort → Bool
sort_has i = fold-Sort Bool (sort_has_step i)

abbrev pub term_has_step : ℕ → Term-F Bool → Bool
term_has_step i (layer.Fresh n s) = sort_has i s
term_has_step i (layer.Apply h ss us) = list_any (sort_has i) ss || list_any (λ b. b) us
term_has_step i _ = false

unfoldable pub term_has : ℕ → Term → Bool
term_has i = fold-Term Bool (term_has_step i)

-- ---- a match of a trigger of a block, whose variables have the sorts `vars` under this number of type variables
pub record IsMatch (sig : Signature) (known : Term → Type 0) (same : Term → Term → Type 0) (type_vars : ℕ) (vars : List Sort) (trigger : List Term)
    (sorts : List Sort) (values : List Term) : Type 0 where
  pub one_each : length sorts ≡ type_vars
  pub closed : list_all (is_closed_sort sig) sorts ≡ true
  -- a type variable that the trigger doesn't determine is given the sort `unit`
  pub determined : (i : ℕ) → i < type_vars → list_any (term_has i) trigger ≡ false → slice_get sorts i ≡ Some UnitSort
  pub all_known : AllByRecursion known values
  pub sorted : have_sorts sig values (map (put_sort sorts) vars) ≡ true
  pub equal : AllByRecursion (λ p. (u : Term) × Equals sig known same sorts values p u) trigger
