-- The next name: whether it is a field, what it comes down to, and the numbers and leaves of names that have none put.
use Rattle.std.specs.Prelude.{ℕ, ℤ, ◌<◌, ◌≤◌, ◌≡◌, ◌≢◌, ◌⊎◌, Bool, true, false, List, [], ◌∷◌, length, map, slice_get, Option, Some, None}
use Rattle.std.proofs.Common.{refl, sym, ap, ◌∙◌, subst, arith, inl, inr}
use Rattle.std.proofs.lemmas.Option.{same_Some, none-some}
use native.Mathlib.Decide.{dec_lt}
use Rattle.ae_base.specs.Options.{or_else}
use Rattle.ae_math.specs.Forms.{Form, single}
use Rattle.ae_core.specs.Sorts.{sort_of, is_numeric}
use Rattle.ae_core.specs.declared.terms.Sort.{Sort}
use Rattle.ae_core.specs.declared.terms.Term.{Term, Num, Apply}
use Rattle.ae_core.specs.declared.terms.Head.{Head}
use Rattle.ae_core.specs.declared.terms.Head.TheVariants as head
use Rattle.ae_core.specs.declared.problems.Signature.{Signature}
use Rattle.ae_num.specs.Forms.{meaning, SameMeaning}
use Rattle.ae_num.specs.declared.forms.Lin.{Lin}
use Rattle.ae_linear.specs.declared.rows.Row.{Row}
use Rattle.ae_linear.specs.Rows.{row_at}
use Rattle.ae_pmap.specs.Forest.{present}
use Rattle.ae_pmap.specs.Pairs.{found}
use Rattle.ae_journal.specs.Systems.{IsPredicateName, record_fields}
use Rattle.ae_settled.specs.Valued.{linear_form, with_forms}
use Rattle.ae_settled.proofs.Sorts.{predicate_unsorted}
use Rattle.ae_store.specs.declared.nodes.Node.{Node}
use Rattle.ae_store.specs.Shapes.{shapes}
use Rattle.ae_store.specs.Terms.{terms, named, node_sort}
use Rattle.ae_store.specs.Stores.{IsStore}
use Rattle.ae_store.proofs.StoreLaws.{name_term}
use Rattle.ae_strips.specs.Stripping.{IsFieldOf, IsNoField, StripsTo, itself, of_written, of_other}
use Rattle.ae_strips.proofs.FieldTerms.{length_is, name_there, within, no_later}
use Rattle.ae_strips.proofs.FieldSorts.{field_sorted}
use Rattle.ae_strips.proofs.Totals.{IsFieldSomewhere, field_decided, ends, one}
use Rattle.ae_value_table.specs.Table.{Contents, own, number_at, leaf_at}
use Rattle.ae_value_fitting.proofs.Written.{number_by, own_normal, own_means}
use Rattle.ae_entering.specs.Firsts.{IsWholeField, IsKnown, IsOwnAt, IsNumberAt, IsLeafAt, AreFirst}
use Rattle.ae_take_in.specs.Computing.{IsComputed, a_numeral, an_operation}
use Rattle.ae_take_in.proofs.Rules.{num_apply, same_heads}
use Rattle.ae_take_in.specs.Inner.Next.{AreBelow, ComesToOther}

-- ---- a name that comes down to another is a field
pub record IsAField (ts : List Term) (n : ℕ) : Type 0 where
  pub type : ℕ
  pub place : ℕ
  pub sorts : List Sort
  pub owner : ℕ
  pub is : IsFieldOf ts n type place sorts owner

pub field_of : (ts : List Term) (n k : ℕ) → StripsTo ts n k → k ≢ n → IsAField ts n
field_of ts _ _ (itself n t e f) d = absurd (d refl)
field_of ts _ _ (of_written n a b u m k place ss f s w r) d = record { type = k; place = place; sorts = ss; owner = a; is = f }
field_of ts _ _ (of_other n a b m k place ss f s none g) d = record { type = k; place = place; sorts = ss; owner = a; is = f }

module _ (sig : Signature) (nodes : List Node) (store : IsStore sig nodes) (n : ℕ) (inside : n < length nodes) where
  abbrev ts : List Term
  ts = terms (shapes nodes)

  pub one_end : (k m : ℕ) → StripsTo ts n k → StripsTo ts n m → k ≡ m
  one_end k m a b = one sig nodes store n k m a b

  -- ---- fields are neither numerals, nor operations, nor predicates
  module _ (f : IsAField ts n) where
    field_term : slice_get ts n ≡ Some (Apply (head.Field f.type f.place) f.sorts ((f.is).owner ∷ []))
    field_term = (f.is).is

    pub field_numeral : (a b : ℤ) (r : Bool) → slice_get ts n ≡ Some (Num a b r) → ⊥
    field_numeral a b r at = num_apply a b r (head.Field f.type f.place) f.sorts ((f.is).owner ∷ []) (same_Some (Num a b r) (Apply (head.Field f.type f.place) f.sorts ((f.is).owner ∷ [])) (sym at ∙ field_term))

    pub field_operation : (h : Head) (ss : List Sort) (us : List Term) (xs : List (Term × Form ℕ)) (g : Form ℕ) → slice_get ts n ≡ Some (Apply h ss us) → linear_form h xs ≡ Some g → ⊥
    field_operation h ss us xs g at lin =
        let whole = Apply (head.Field f.type f.place) f.sorts ((f.is).owner ∷ []) in
        let e : h ≡ head.Field f.type f.place = same_heads h (head.Field f.type f.place) ss f.sorts us ((f.is).owner ∷ []) (same_Some (Apply h ss us) whole (sym at ∙ field_term)) in
        none-some g (sym (ap (λ (x : Head). linear_form x xs) e) ∙ lin)

    pub field_sort : (s : Sort) × (sort_of sig (named ts n) ≡ Some s)
    field_sort = (
      node_sort sig (head.Field f.type f.place) f.sorts,
      ap (sort_of sig) (name_term ts n (Apply (head.Field f.type f.place) f.sorts ((f.is).owner ∷ [])) field_term) ∙ field_sorted sig nodes store n f.type f.place f.sorts (f.is).owner field_term,
    )

    pub field_predicate : IsPredicateName sig (named ts n) → ⊥
    field_predicate g = predicate_unsorted sig (named ts n) field_sort.0 g field_sort.1

    pub field_computed : IsComputed ts n → ⊥
    field_computed (a_numeral a b r at) = field_numeral a b r at
    field_computed (an_operation h ss args number g w at lin) = field_operation h ss (map (named ts) args) (with_forms (map (named ts) args) (map number args)) g at lin

  whole_field : IsWholeField ts n → IsAField ts n
  whole_field w = record { type = w.type; place = w.place; sorts = w.sorts; owner = w.owner; is = w.field }

  pub other_field : (k : ℕ) → StripsTo ts n k → k ≢ n → IsAField ts n
  other_field k st d = field_of ts n k st d

  -- a name that is computed or comes down to another is not among the known ones
  pub computed_whole : IsComputed ts n → IsWholeField ts n → ⊥
  computed_whole c w = field_computed (whole_field w) c

  pub other_whole : (k : ℕ) → StripsTo ts n k → k ≢ n → IsWholeField ts n → ⊥
  other_whole k st d w = d (one_end k n st w.whole)

  pub unknown : IsComputed ts n ⊎ ComesToOther ts n → IsKnown ts n n → ⊥
  unknown why (inl l) = omega (arith, l)
  unknown (inl c) (inr w) = computed_whole c w
  unknown (inr o) (inr w) = other_whole o.name o.strips o.other w

  -- what the name comes down to is known
  pub end_known : (k : ℕ) → StripsTo ts n k → k ≢ n → IsKnown ts n k
  end_known k st d = by_field (field_decided sig nodes store k (omega (arith, w, len)))
    where
      w : k < length ts
      w = within sig nodes store n k st

      len : length ts ≡ length nodes
      len = length_is sig nodes store

      by_field : IsFieldSomewhere sig nodes store k ⊎ IsNoField (named ts k) → IsKnown ts n k
      by_field (inl f) = inr (record { type = f.type; place = f.place; sorts = f.sorts; owner = f.owner; field = f.is; whole = ends sig nodes store n k st })
      by_field (inr none) =
          let at : k ≤ n = no_later sig nodes store n k st (named ts k) (name_there sig nodes store k (omega (arith, w, len))) none in
          inl (omega (arith, at, d))

  module _ (c : Contents) (below : AreBelow n c) where
    -- ---- names that have no row and no leaf
    pub own_number : (k : ℕ) → n ≤ k → number_at c k ≡ own k
    own_number k l = by_row (row_at c.rows k) refl
      where
        by_row : (o : Option Row) → row_at c.rows k ≡ o → number_at c k ≡ own k
        by_row None e = ap (λ (o : Option Row). number_by o k) e
        by_row (Some row) e = let w : k < n = below.rows k row e in absurd (omega (arith, w, l))

    pub own_leaf : (k : ℕ) → n ≤ k → leaf_at c k ≡ k
    own_leaf k l = by_leaf (found (present c.leaves) k) refl
      where
        by_leaf : (o : Option ℕ) → found (present c.leaves) k ≡ o → leaf_at c k ≡ k
        by_leaf None e = ap (λ (o : Option ℕ). or_else o k) e
        by_leaf (Some m) e = let w : k < n = below.leaves k m e in absurd (omega (arith, w, l))

    module _ (first : AreFirst sig ts n (number_at c) (leaf_at c)) where
      -- ---- the number and the leaf of a known name
      pub number_known : (k : ℕ) (s : Sort) → k < length ts → IsKnown ts n k → sort_of sig (named ts k) ≡ Some s → is_numeric s ≡ true → IsNumberAt sig ts n (number_at c) s (number_at c k)
      number_known k s w known o m = by_place (dec_lt k n)
        where
          by_place : Dec (k < n) → IsNumberAt sig ts n (number_at c) s (number_at c k)
          by_place (yes l) = first.numbers k s l o m
          by_place (no g) =
              let e : number_at c k ≡ own k = own_number k (omega (arith, g)) in
              let i : IsOwnAt sig ts n (number_at c) s k = record { within = w; sort = o; own = subst (λ (f : Lin). SameMeaning (meaning f) (single k)) (sym e) (own_means k); known = known } in
              subst (IsNumberAt sig ts n (number_at c) s) (sym e) (record { normal = own_normal k; over = (i, tt) })

      pub leaf_known : (k : ℕ) (s : Sort) → k < length ts → IsKnown ts n k → sort_of sig (named ts k) ≡ Some s → is_numeric s ≡ false → record_fields sig s ≡ None → IsLeafAt sig ts n (leaf_at c) s (leaf_at c k)
      leaf_known k s w known o m f = by_place (dec_lt k n)
        where
          by_place : Dec (k < n) → IsLeafAt sig ts n (leaf_at c) s (leaf_at c k)
          by_place (yes l) = first.leaves k s l o m f
          by_place (no g) =
              let e : leaf_at c k ≡ k = own_leaf k (omega (arith, g)) in
              subst (IsLeafAt sig ts n (leaf_at c) s) (sym e) (record { within = w; sort = o; own = e; known = known })
