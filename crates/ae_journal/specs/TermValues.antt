-- The values that terms have by the `solve` lines that stand, for a list that numbers names.
use Rattle.std.specs.Prelude.{ℕ, zero, suc, ◌+◌, ◌<◌, ◌≤◌, nat_eq, cond, List, [], ◌∷◌, ◌++◌, ◌≡◌, ◌≢◌, map, length, slice_get, Option, Some, None}
use Rattle.ae_math.specs.Fractions.{ℚ, zero_ℚ, ratio, ◌+ℚ◌, ◌*ℚ◌}
use Rattle.ae_base.specs.Decided.{pick}
use Rattle.ae_core.specs.Decided.{Term_discrete}
use Rattle.ae_core.specs.Sorts.{sort_of}
use Rattle.ae_base.specs.Options.{or_else}
use Rattle.ae_core.specs.declared.terms.Sort.{Sort, Bool as BoolSort}
use Rattle.ae_core.specs.declared.terms.Term.{Term, Term-F, Apply, para-Term, Fresh}
use Rattle.ae_core.specs.declared.terms.Term.TheOpen as layer
use Rattle.ae_core.specs.declared.terms.Head.TheVariants as head
use Rattle.ae_core.specs.declared.problems.Signature.{Signature}
use Rattle.ae_journal.specs.Values.{Val, Vals, Sum, number, leaf, fields, none, more, settled, scaled, constant_val, nothing, sum_in, vals, val_at, meaning, leaf_factor}
use Rattle.ae_journal.specs.Systems.{own, linear, record_fields, field_terms}
use Rattle.ae_journal.specs.Evaluation.{depth_of}
use Rattle.ae_journal.specs.Inner.Numbering.{term_number}
use Rattle.ae_journal.specs.declared.lines.Oriented.TheVariants as oriented
use Rattle.ae_journal.specs.declared.lines.Line.{Line}
use Rattle.ae_journal.specs.declared.lines.Line.TheVariants as line

-- ---- a value put for a leaf
abbrev pub put_in : ℕ → Sum → List (ℕ × ℚ) → List (ℕ × ℚ)
put_in n f [] = []
put_in n f (q ∷ qs) = cond (nat_eq q.0 n) (scaled q.1 f.parts) (q ∷ []) ++ put_in n f qs

abbrev pub put_sum : ℕ → Sum → Sum → Sum
put_sum n f g = record { parts = settled (put_in n f g.parts); constant = leaf_factor g.parts n *ℚ f.constant +ℚ g.constant }

abbrev mutual
  pub put_leaf : ℕ → Val → Val → Val
  put_leaf n w (number g) = number (put_sum n (sum_in w) g)
  put_leaf n w (leaf m) = cond (nat_eq m n) w (leaf m)
  put_leaf n w (fields vs) = fields (put_leaves n w vs)

  pub put_leaves : ℕ → Val → Vals → Vals
  put_leaves n w none = none
  put_leaves n w (more v vs) = more (put_leaf n w v) (put_leaves n w vs)

-- what the `solve` lines, one after the other, make of a value
abbrev pub solved : List Line → Val → Val
solved [] w = w
solved (line.Orient (oriented.Named m v) ∷ js) w = solved js (put_leaf m (meaning v) w)
solved (j ∷ js) w = solved js w

-- ---- the leaf of a term: its number in the list, or a number of its own beyond them
abbrev pub number_from : ℕ → List Term → Term → Option ℕ
number_from n [] t = None
number_from n (u ∷ us) t = pick (Term_discrete u t) (Some n) (number_from (suc n) us t)

abbrev pub leaf_of : List Term → Term → ℕ
leaf_of names t = or_else (number_from 0 names t) (length names + term_number t)

module _ (sig : Signature) (names : List Term) where
  abbrev pub field_of : Val → ℕ → Val
  field_of (fields vs) i = or_else (val_at vs i) nothing
  field_of _ i = nothing

  abbrev pub each_field : (Sort → Term → Val) → List Sort → List Term → Vals
  each_field f (s ∷ ss) (t ∷ ts) = more (f s t) (each_field f ss ts)
  each_field f _ _ = none

  -- a term that nothing computes has the value of its leaf, and one of a record sort those of its fields; a predicate counts as a term of sort `bool`
  abbrev pub opaque_at : List Line → ℕ → Sort → Term → Val
  opaque_at js zero s t = solved js (own s (leaf_of names t))
  opaque_at js (suc d) s t =
      elim (record_fields sig s) [ None ↦ solved js (own s (leaf_of names t)) | Some ss ↦ fields (each_field (opaque_at js d) ss (field_terms s t (length ss))) ]

  abbrev pub opaque : List Line → Term → Val
  opaque js t = let s = or_else (sort_of sig t) BoolSort in opaque_at js (depth_of sig s) s t

  abbrev pub value_step : List Line → Term-F (Term × Val) → Val
  value_step js (layer.Bound n) = nothing
  value_step js (layer.Num a b real) = constant_val (ratio a b)
  value_step js (layer.Fresh n s) = opaque js (Fresh n s)
  value_step js (layer.Apply (head.Build n) ss ts) = fields (vals (map (λ a. a.1) ts))
  value_step js (layer.Apply (head.Field n i) ss (a ∷ [])) = field_of a.1 i
  value_step js (layer.Apply h ss ts) = or_else (linear h ts) (opaque js (Apply h ss (map (λ a. a.0) ts)))

  -- the value of a term by the `solve` lines among these, and by what numerals, linear operations, records and fields are
  unfoldable pub value_by : List Line → Term → Val
  value_by js = para-Term Val (value_step js)

  abbrev pub IsNumbered : ℕ → Term → Type 0
  IsNumbered n t = slice_get names n ≡ Some t

  -- the representative of name n: the least number of a term of its sort with the same value
  pub record IsLeast (js : List Line) (n r : ℕ) : Type 0 where
    pub term : Term
    pub other : Term
    pub sort : Sort
    pub is : IsNumbered n term
    pub stands : IsNumbered r other
    pub sorted : (sort_of sig term ≡ Some sort) × (sort_of sig other ≡ Some sort)
    pub same : value_by js other ≡ value_by js term
    pub least : (m : ℕ) (t : Term) → IsNumbered m t → sort_of sig t ≡ Some sort → value_by js t ≡ value_by js term → r ≤ m

-- n is the largest name in a sum, in which all leaves are names
abbrev pub IsLargest : List Term → ℕ → Sum → Type 0
IsLargest names n f = (n < length names) × (leaf_factor f.parts n ≢ zero_ℚ) × ((m : ℕ) → n < m → leaf_factor f.parts m ≡ zero_ℚ)
