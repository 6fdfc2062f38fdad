-- The next name gets what its term gives it, and the others keep what they have.
use Rattle.std.specs.Prelude.{ℕ, suc, ℤ, ◌<◌, ◌≤◌, ◌⊎◌, ◌≢◌, Bool, true, false, List, ◌≡◌, map, length, slice_get, Some, None}
use Rattle.std.specs.List.{AllByRecursion}
use Rattle.std.proofs.Common.{sym, ap, ◌∙◌, subst, arith, inl, inr}
use native.Mathlib.Decide.{ℕ_discrete}
use Rattle.ae_base.proofs.AllOf.{all_weaker, map_same}
use Rattle.ae_math.specs.Fractions.{ratio}
use Rattle.ae_math.specs.Forms.{Form, number as number_form, single}
use Rattle.ae_core.specs.Sorts.{sort_of, is_numeric}
use Rattle.ae_core.specs.declared.terms.Sort.{Sort}
use Rattle.ae_core.specs.declared.terms.Term.{Term, Num, Apply}
use Rattle.ae_core.specs.declared.terms.Head.{Head}
use Rattle.ae_core.specs.declared.problems.Signature.{Signature}
use Rattle.ae_num.specs.Forms.{meaning, SameMeaning}
use Rattle.ae_num.specs.declared.forms.Part.{Part}
use Rattle.ae_num.specs.declared.forms.Lin.{Lin}
use Rattle.ae_journal.specs.Systems.{IsPredicateName, record_fields}
use Rattle.ae_settled.specs.Valued.{linear_form, with_forms}
use Rattle.ae_store.specs.declared.nodes.Node.{Node}
use Rattle.ae_store.specs.Shapes.{shapes}
use Rattle.ae_store.specs.Terms.{terms, named}
use Rattle.ae_store.specs.Stores.{IsStore}
use Rattle.ae_strips.specs.Stripping.{IsNoField, StripsTo}
use Rattle.ae_strips.proofs.FieldTerms.{length_is, name_there, within, no_later}
use Rattle.ae_strips.proofs.Totals.{IsFieldSomewhere, field_decided, ends}
use Rattle.ae_entering.specs.Firsts.{IsWholeField, IsKnown, IsOwnAt, IsNumberAt, IsLeafAt, AreFirst, IsNext}

module _ (sig : Signature) (nodes : List Node) (store : IsStore sig nodes) (n : ℕ) (inside : n < length nodes) (number number' : ℕ → Lin) (leaf leaf' : ℕ → ℕ)
    (numbers_stay : (k : ℕ) → k ≢ n → number' k ≡ number k) (leaves_stay : (k : ℕ) → k ≢ n → leaf' k ≡ leaf k)
    (first : AreFirst sig (terms (shapes nodes)) n number leaf) (next : IsNext sig (terms (shapes nodes)) n number leaf (number' n) (leaf' n)) where
  abbrev ts : List Term
  ts = terms (shapes nodes)

  term_here : n < length ts
  term_here = let e : length ts ≡ length nodes = length_is sig nodes store in omega (arith, inside, e)

  earlier : (k : ℕ) → k < suc n → (k < n) ⊎ (k ≡ n)
  earlier k l = by_same (ℕ_discrete k n)
    where
      by_same : Dec (k ≡ n) → (k < n) ⊎ (k ≡ n)
      by_same (yes e) = inr e
      by_same (no d) = inl (omega (arith, d, l))

  apart : (k : ℕ) → k < n → k ≢ n
  apart k l e = omega (arith, l, e)

  known_later : (k : ℕ) → IsKnown ts n k → IsKnown ts (suc n) k
  known_later k (inl l) = inl (omega (arith, l))
  known_later k (inr w) = inr w

  -- a name that is known keeps its number and its leaf
  number_known : (k : ℕ) → IsKnown ts n k → number' k ≡ number k
  number_known k (inl l) = numbers_stay k (apart k l)
  number_known k (inr w) = by_same (ℕ_discrete k n)
    where
      by_same : Dec (k ≡ n) → number' k ≡ number k
      by_same (no d) = numbers_stay k d
      by_same (yes e) = ap number' e ∙ (next.whole (subst (IsWholeField ts) e w)).0 ∙ ap number (sym e)

  leaf_known : (k : ℕ) → IsKnown ts n k → leaf' k ≡ leaf k
  leaf_known k (inl l) = leaves_stay k (apart k l)
  leaf_known k (inr w) = by_same (ℕ_discrete k n)
    where
      by_same : Dec (k ≡ n) → leaf' k ≡ leaf k
      by_same (no d) = leaves_stay k d
      by_same (yes e) = ap leaf' e ∙ (next.whole (subst (IsWholeField ts) e w)).1 ∙ ap leaf (sym e)

  own_later : (s : Sort) (k : ℕ) → IsOwnAt sig ts n number s k → IsOwnAt sig ts (suc n) number' s k
  own_later s k o =
      record { within = o.within; sort = o.sort; own = subst (λ (l : Lin). SameMeaning (meaning l) (single k)) (sym (number_known k o.known)) o.own; known = known_later k o.known }

  leaf_later : (s : Sort) (m : ℕ) → IsLeafAt sig ts n leaf s m → IsLeafAt sig ts (suc n) leaf' s m
  leaf_later s m o = record { within = o.within; sort = o.sort; own = leaf_known m o.known ∙ o.own; known = known_later m o.known }

  number_later : (s : Sort) (f : Lin) → IsNumberAt sig ts n number s f → IsNumberAt sig ts (suc n) number' s f
  number_later s f i =
      record { normal = i.normal; over = all_weaker (λ (p : Part). IsOwnAt sig ts n number s p.key) (λ (p : Part). IsOwnAt sig ts (suc n) number' s p.key) (λ p o. own_later s p.key o) f.parts i.over }

  -- what a name among the first comes down to is known
  end_known : (k m : ℕ) → k < suc n → StripsTo ts k m → (m ≢ n) ⊎ (m ≡ n) → (k < n) → IsKnown ts n m
  end_known k m l st e b = by_field (field_decided sig nodes store m (omega (arith, w, len)))
    where
      w : m < length ts
      w = within sig nodes store k m st

      len : length ts ≡ length nodes
      len = length_is sig nodes store

      by_field : IsFieldSomewhere sig nodes store m ⊎ IsNoField (named ts m) → IsKnown ts n m
      by_field (inl f) = inr (record { type = f.type; place = f.place; sorts = f.sorts; owner = f.owner; field = f.is; whole = ends sig nodes store k m st })
      by_field (inr none) =
          let at : m ≤ k = no_later sig nodes store k m st (named ts m) (name_there sig nodes store m (omega (arith, w, len))) none in
          inl (omega (arith, at, b))

  -- ---- the clauses
  numbers_at : (k : ℕ) (s : Sort) → (k < n) ⊎ (k ≡ n) → sort_of sig (named ts k) ≡ Some s → is_numeric s ≡ true → IsNumberAt sig ts (suc n) number' s (number' k)
  numbers_at k s (inl l) o m = subst (IsNumberAt sig ts (suc n) number' s) (sym (numbers_stay k (apart k l))) (number_later s (number k) (first.numbers k s l o m))
  numbers_at k s (inr e) o m =
      let on : sort_of sig (named ts n) ≡ Some s = ap (λ (j : ℕ). sort_of sig (named ts j)) (sym e) ∙ o in
      let v = next.numbers s on m in
      subst (λ (j : ℕ). IsNumberAt sig ts (suc n) number' s (number' j)) (sym e) (record {
        normal = v.0;
        over = all_weaker (λ (p : Part). IsOwnAt sig ts n number s p.key ⊎ ((p.key ≡ n) × SameMeaning (meaning (number' n)) (single n))) (λ (p : Part). IsOwnAt sig ts (suc n) number' s p.key)
            (λ p c. by_key on p.key c) (number' n).parts v.1;
      })
    where
      by_key : sort_of sig (named ts n) ≡ Some s → (j : ℕ) → IsOwnAt sig ts n number s j ⊎ ((j ≡ n) × SameMeaning (meaning (number' n)) (single n)) → IsOwnAt sig ts (suc n) number' s j
      by_key on j (inl h) = own_later s j h
      by_key on j (inr h) = subst (IsOwnAt sig ts (suc n) number' s) (sym h.0) (record { within = term_here; sort = on; own = h.1; known = inl (omega arith) })

  leaves_at : (k : ℕ) (s : Sort) → (k < n) ⊎ (k ≡ n) → sort_of sig (named ts k) ≡ Some s → is_numeric s ≡ false → record_fields sig s ≡ None → IsLeafAt sig ts (suc n) leaf' s (leaf' k)
  leaves_at k s (inl l) o m f = subst (IsLeafAt sig ts (suc n) leaf' s) (sym (leaves_stay k (apart k l))) (leaf_later s (leaf k) (first.leaves k s l o m f))
  leaves_at k s (inr e) o m f =
      let on : sort_of sig (named ts n) ≡ Some s = ap (λ (j : ℕ). sort_of sig (named ts j)) (sym e) ∙ o in
      subst (λ (j : ℕ). IsLeafAt sig ts (suc n) leaf' s (leaf' j)) (sym e) (by_leaf on (next.leaves s on m f))
    where
      by_leaf : sort_of sig (named ts n) ≡ Some s → IsLeafAt sig ts n leaf s (leaf' n) ⊎ (leaf' n ≡ n) → IsLeafAt sig ts (suc n) leaf' s (leaf' n)
      by_leaf on (inl h) = leaf_later s (leaf' n) h
      by_leaf on (inr h) = subst (IsLeafAt sig ts (suc n) leaf' s) (sym h) (record { within = term_here; sort = on; own = h; known = inl (omega arith) })

  predicates_at : (k : ℕ) → (k < n) ⊎ (k ≡ n) → IsPredicateName sig (named ts k) → leaf' k ≡ k
  predicates_at k (inl l) g = leaves_stay k (apart k l) ∙ first.predicates k l g
  predicates_at k (inr e) g = ap leaf' e ∙ next.predicates (subst (λ (j : ℕ). IsPredicateName sig (named ts j)) e g) ∙ sym e

  numerals_at : (k : ℕ) (a b : ℤ) (real : Bool) → (k < n) ⊎ (k ≡ n) → slice_get ts k ≡ Some (Num a b real) → SameMeaning (meaning (number' k)) (number_form (ratio a b))
  numerals_at k a b real (inl l) at = subst (λ (f : Lin). SameMeaning (meaning f) (number_form (ratio a b))) (sym (numbers_stay k (apart k l))) (first.numerals k a b real l at)
  numerals_at k a b real (inr e) at =
      subst (λ (j : ℕ). SameMeaning (meaning (number' j)) (number_form (ratio a b))) (sym e) (next.numerals a b real (ap (slice_get ts) (sym e) ∙ at))

  args_stay : (k : ℕ) → k < suc n → (args : List ℕ) → AllByRecursion (λ a. a < k) args → map number' args ≡ map number args
  args_stay k l args w =
      map_same number' number args (all_weaker (λ (a : ℕ). a < k) (λ (a : ℕ). number' a ≡ number a) (λ a b. numbers_stay a (λ e. omega (arith, b, l, e))) args w)

  operations_at : (k : ℕ) (h : Head) (ss : List Sort) (args : List ℕ) (g : Form ℕ) → k < suc n → (k < n) ⊎ (k ≡ n) → AllByRecursion (λ a. a < k) args → slice_get ts k ≡ Some (Apply h ss (map (named ts) args))
      → linear_form h (with_forms (map (named ts) args) (map number' args)) ≡ Some g → SameMeaning (meaning (number' k)) g
  operations_at k h ss args g w (inl l) below at lin =
      subst (λ (f : Lin). SameMeaning (meaning f) g) (sym (numbers_stay k (apart k l)))
      (first.operations k h ss args g l below at (ap (λ (fs : List Lin). linear_form h (with_forms (map (named ts) args) fs)) (sym (args_stay k w args below)) ∙ lin))
  operations_at k h ss args g w (inr e) below at lin =
      subst (λ (j : ℕ). SameMeaning (meaning (number' j)) g) (sym e)
      (next.operations h ss args g (subst (λ (j : ℕ). AllByRecursion (λ a. a < j) args) e below) (ap (slice_get ts) (sym e) ∙ at)
      (ap (λ (fs : List Lin). linear_form h (with_forms (map (named ts) args) fs)) (sym (args_stay k w args below)) ∙ lin))

  same_or : (k : ℕ) → (k ≢ n) ⊎ (k ≡ n)
  same_or k = by_same (ℕ_discrete k n)
    where
      by_same : Dec (k ≡ n) → (k ≢ n) ⊎ (k ≡ n)
      by_same (yes e) = inr e
      by_same (no d) = inl d

  covered_numbers_at : (k m : ℕ) (s : Sort) → k < suc n → (k < n) ⊎ (k ≡ n) → (m ≢ n) ⊎ (m ≡ n) → StripsTo ts k m → sort_of sig (named ts k) ≡ Some s → is_numeric s ≡ true → number' k ≡ number' m
  covered_numbers_at k m s w (inl l) d st o c =
      numbers_stay k (apart k l) ∙ first.covered_numbers k m s l st o c ∙ sym (number_known m (end_known k m w st d l))
  covered_numbers_at k m s w (inr e) (inl d) st o c =
      ap number' e ∙ next.covered_numbers m s (subst (λ (j : ℕ). StripsTo ts j m) e st) d (ap (λ (j : ℕ). sort_of sig (named ts j)) (sym e) ∙ o) c ∙ sym (numbers_stay m d)
  covered_numbers_at k m s w (inr e) (inr d) st o c = ap number' (e ∙ sym d)

  covered_leaves_at : (k m : ℕ) (s : Sort) → k < suc n → (k < n) ⊎ (k ≡ n) → (m ≢ n) ⊎ (m ≡ n) → StripsTo ts k m → sort_of sig (named ts k) ≡ Some s → is_numeric s ≡ false → record_fields sig s ≡ None
      → leaf' k ≡ leaf' m
  covered_leaves_at k m s w (inl l) d st o c f =
      leaves_stay k (apart k l) ∙ first.covered_leaves k m s l st o c f ∙ sym (leaf_known m (end_known k m w st d l))
  covered_leaves_at k m s w (inr e) (inl d) st o c f =
      ap leaf' e ∙ next.covered_leaves m s (subst (λ (j : ℕ). StripsTo ts j m) e st) d (ap (λ (j : ℕ). sort_of sig (named ts j)) (sym e) ∙ o) c f ∙ sym (leaves_stay m d)
  covered_leaves_at k m s w (inr e) (inr d) st o c f = ap leaf' (e ∙ sym d)

  pub first_more : AreFirst sig ts (suc n) number' leaf'
  first_more = record {
    numbers = λ k s l o m. numbers_at k s (earlier k l) o m;
    leaves = λ k s l o m f. leaves_at k s (earlier k l) o m f;
    predicates = λ k l g. predicates_at k (earlier k l) g;
    numerals = λ k a b real l at. numerals_at k a b real (earlier k l) at;
    operations = λ k h ss args g l below at lin. operations_at k h ss args g l (earlier k l) below at lin;
    covered_numbers = λ k m s l st o c. covered_numbers_at k m s l (earlier k l) (same_or m) st o c;
    covered_leaves = λ k m s l st o c f. covered_leaves_at k m s l (earlier k l) (same_or m) st o c f;
  }
