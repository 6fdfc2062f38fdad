-- Pairs of sorts have a most general unifier, or none. The first pair is dropped, refused, taken apart, or its unknown is bound: then
-- there are fewer unknowns, and otherwise the sorts on the left get smaller.
use native.Mathlib.Decide.{ℕ_discrete}
use Rattle.std.proofs.Common.{◌≡◌, ℕ, zero, suc, ◌+◌, ◌<◌, ◌≤◌, ◌⊎◌, inl, inr, List, [], ◌∷◌, ◌++◌, map, length, refl, ap, sym, ◌∙◌, arith}
use Rattle.std.proofs.lemmas.Bool.{cases_lt}
use Rattle.std.proofs.lemmas.List.{length-map}
use Rattle.ae_base.proofs.AllOf.{all_append, all_front, all_back}
use Rattle.ae_base.proofs.ListFacts.{cons_head, cons_tail}
use Rattle.ae_core.specs.Decided.{Sort_discrete}
use Rattle.ae_core.specs.declared.terms.Sort.{Sort, Var, Named}
use Rattle.ae_types.specs.declared.graph.Constant.{Constant}
use Rattle.ae_types.specs.declared.pairs.SortPair.{SortPair}
use Rattle.ae_types.specs.Substitutions.{put, MakesEqual, Unifies, Respects}
use Rattle.ae_types.specs.Clashes.{total, count_of}
use Rattle.ae_types.specs.Inner.Graphs.{constant_sort}
use Rattle.ae_types.proofs.SortLaws.{put_named, put_var, put_constant, size, size_named, named_parts, constant_not_named}
use Rattle.ae_total_typing.proofs.SortForms.{by_forms, size_positive, in_itself, in_named}
use Rattle.ae_total_typing.proofs.Unifiers.{pair, Answered, turned, dropped, swapped, refused, put_pairs, Extended, under, bind, respects_bind, bind_equal, bind_idempotent, never_within}
use Rattle.ae_total_typing.proofs.Variables.{Has, without, shorter, InsidePair, AllInside, all_listed, all_bound}

-- ---- the arguments of two declared types, pair by pair
abbrev arguments : List Sort → List Sort → List SortPair
arguments [] ys = []
arguments (x ∷ xs) [] = []
arguments (x ∷ xs) (y ∷ ys) = pair x y ∷ arguments xs ys

by_arguments : (f : ℕ → Sort) (xs ys : List Sort) → map (put f) xs ≡ map (put f) ys → Unifies f (arguments xs ys)
by_arguments f [] ys e = tt
by_arguments f (x ∷ xs) [] e = tt
by_arguments f (x ∷ xs) (y ∷ ys) e = (
  cons_head (put f x) (put f y) (map (put f) xs) (map (put f) ys) e,
  by_arguments f xs ys (cons_tail (put f x) (put f y) (map (put f) xs) (map (put f) ys) e),
)

from_arguments : (f : ℕ → Sort) (xs ys : List Sort) → length xs ≡ length ys → Unifies f (arguments xs ys) → map (put f) xs ≡ map (put f) ys
from_arguments f [] [] l u = refl
from_arguments f [] (y ∷ ys) l u = absurd (omega arith)
from_arguments f (x ∷ xs) [] l u = absurd (omega arith)
from_arguments f (x ∷ xs) (y ∷ ys) l u =
    ap (λ z. z ∷ map (put f) xs) u.0 ∙ ap (λ zs. put f y ∷ zs) (from_arguments f xs ys (omega arith) u.1)

inside_arguments : (vs : List ℕ) (xs ys : List Sort) → ((x : ℕ) → 0 < total (map (count_of x) xs) → Has vs x)
    → ((x : ℕ) → 0 < total (map (count_of x) ys) → Has vs x) → AllInside vs (arguments xs ys)
inside_arguments vs [] ys a b = tt
inside_arguments vs (x ∷ xs) [] a b = tt
inside_arguments vs (x ∷ xs) (y ∷ ys) a b = (
  (λ z p. a z (omega arith), λ z p. b z (omega arith)),
  inside_arguments vs xs ys (λ z p. a z (omega arith)) (λ z p. b z (omega arith)),
)

-- the sorts on the left, together
abbrev weight : List SortPair → ℕ
weight [] = 0
weight (q ∷ qs) = size q.left + weight qs

weight_arguments : (xs ys : List Sort) (qs : List SortPair) → weight (arguments xs ys ++ qs) ≤ total (map size xs) + weight qs
weight_arguments [] ys qs = omega arith
weight_arguments (x ∷ xs) [] qs = omega arith
weight_arguments (x ∷ xs) (y ∷ ys) qs = let ih = weight_arguments xs ys qs in omega arith

abbrev IsUnified : (ℕ → Sort) → SortPair → Type 0
IsUnified f q = MakesEqual f q.left q.right

-- ---- with so many unknowns, where pairs with fewer are answered
module _ (k : ℕ) (low : (vs : List ℕ) (qs : List SortPair) → length vs < k → AllInside vs qs → Answered qs) where
  from_bound : (x : ℕ) (t : Sort) (qs : List SortPair) → Extended (bind x t) qs → Answered (pair (Var x) t ∷ qs)
  from_bound x t qs (inl e) = inl (record {
    unifier = e.unifier;
    unifies = (bind_equal e.unifier x t e.respects, e.unifies);
    general = λ f h. e.general f (respects_bind f x t h.0) h.1;
  })
  from_bound x t qs (inr refutes) = inr (λ f h. refutes f (respects_bind f x t h.0) h.1)

  bound : (x : ℕ) (t : Sort) (vs : List ℕ) (qs : List SortPair) → count_of x t ≤ 0 → length vs ≤ k → AllInside vs (pair (Var x) t ∷ qs)
      → Answered (pair (Var x) t ∷ qs)
  bound x t vs qs c l a =
      let less = shorter x vs (a.0.0 x (in_itself x)) in
      from_bound x t qs (under (bind x t) (bind_idempotent x t c) qs
      (low (without x vs) (put_pairs (bind x t) qs) (omega arith) (all_bound x t vs c a.0.1 qs a.1)))

  variable_at : (x : ℕ) (t : Sort) (vs : List ℕ) (qs : List SortPair) → Dec (t ≡ Var x) → (0 < count_of x t) ⊎ (count_of x t ≤ 0)
      → length vs ≤ k → AllInside vs (pair (Var x) t ∷ qs) → Answered qs → Answered (pair (Var x) t ∷ qs)
  variable_at x t vs qs (yes e) c l a rest = dropped (Var x) t qs (sym e) rest
  variable_at x t vs qs (no d) (inl c) l a rest = refused (Var x) t qs (never_within x t c d)
  variable_at x t vs qs (no d) (inr c) l a rest = bound x t vs qs c l a

  -- one pair before others, by the forms of its sorts
  abbrev First : Sort → Sort → Type 0
  First s t = (vs : List ℕ) (qs : List SortPair) → length vs ≤ k → AllInside vs (pair s t ∷ qs) → Answered qs
      → ((xs ys : List Sort) → total (map size xs) < size s → AllInside vs (arguments xs ys) → Answered (arguments xs ys ++ qs))
      → Answered (pair s t ∷ qs)

  variable : (x : ℕ) (t : Sort) → First (Var x) t
  variable x t vs qs l a rest parts = variable_at x t vs qs (Sort_discrete t (Var x)) (cases_lt 0 (count_of x t)) l a rest

  to_variable : (s : Sort) (x : ℕ) → First s (Var x)
  to_variable s x vs qs l a rest parts =
      swapped (Var x) s qs (variable_at x s vs qs (Sort_discrete s (Var x)) (cases_lt 0 (count_of x s)) l ((a.0.1, a.0.0), a.1) rest)

  constants_at : (c d : Constant) → Dec (constant_sort c ≡ constant_sort d) → First (constant_sort c) (constant_sort d)
  constants_at c d (yes e) vs qs l a rest parts = dropped (constant_sort c) (constant_sort d) qs e rest
  constants_at c d (no n) vs qs l a rest parts =
      refused (constant_sort c) (constant_sort d) qs (λ f e. n (sym (put_constant f c) ∙ e ∙ put_constant f d))

  constant_named : (c : Constant) (h : ℕ) (ys : List Sort) → First (constant_sort c) (Named h ys)
  constant_named c h ys vs qs l a rest parts =
      refused (constant_sort c) (Named h ys) qs
      (λ f e. constant_not_named c h (map (put f) ys) (sym (put_constant f c) ∙ e ∙ put_named f h ys))

  named_constant : (h : ℕ) (xs : List Sort) (c : Constant) → First (Named h xs) (constant_sort c)
  named_constant h xs c vs qs l a rest parts =
      refused (Named h xs) (constant_sort c) qs
      (λ f e. constant_not_named c h (map (put f) xs) (sym (put_constant f c) ∙ sym e ∙ put_named f h xs))

  named_parts_of : (f : ℕ → Sort) (h i : ℕ) (xs ys : List Sort) → MakesEqual f (Named h xs) (Named i ys)
      → (h ≡ i) × (map (put f) xs ≡ map (put f) ys)
  named_parts_of f h i xs ys e = named_parts h i (map (put f) xs) (map (put f) ys) (sym (put_named f h xs) ∙ e ∙ put_named f i ys)

  named_at : (h i : ℕ) (xs ys : List Sort) → Dec (h ≡ i) → Dec (length xs ≡ length ys) → First (Named h xs) (Named i ys)
  named_at h i xs ys (yes e) (yes m) vs qs l a rest parts =
      let o = size_named h xs in
      turned (arguments xs ys ++ qs) (pair (Named h xs) (Named i ys) ∷ qs)
      (λ f u. (
        put_named f h xs ∙ ap (λ n. Named n (map (put f) xs)) e
            ∙ ap (Named i) (from_arguments f xs ys m (all_front (IsUnified f) (arguments xs ys) qs u)) ∙ sym (put_named f i ys),
        all_back (IsUnified f) (arguments xs ys) qs u,
      ))
      (λ f u. all_append (IsUnified f) (arguments xs ys) qs (by_arguments f xs ys (named_parts_of f h i xs ys u.0).1) u.1)
      (parts xs ys (omega arith) (inside_arguments vs xs ys (λ x p. a.0.0 x (in_named x h xs p)) (λ x p. a.0.1 x (in_named x i ys p))))
  named_at h i xs ys (no d) m vs qs l a rest parts = refused (Named h xs) (Named i ys) qs (λ f e. d (named_parts_of f h i xs ys e).0)
  named_at h i xs ys (yes e) (no d) vs qs l a rest parts =
      refused (Named h xs) (Named i ys) qs
      (λ f u. d (sym (length-map xs (put f)) ∙ ap length (named_parts_of f h i xs ys u).1 ∙ length-map ys (put f)))

  first : (s t : Sort) → First s t
  first = by_forms (λ s. (t : Sort) → First s t)
      (λ x t. variable x t)
      (λ c. by_forms (First (constant_sort c)) (to_variable (constant_sort c))
      (λ d. constants_at c d (Sort_discrete (constant_sort c) (constant_sort d))) (λ h ys b. constant_named c h ys))
      (λ h xs a. by_forms (First (Named h xs)) (to_variable (Named h xs)) (named_constant h xs)
      (λ i ys b. named_at h i xs ys (ℕ_discrete h i) (ℕ_discrete (length xs) (length ys))))

  level : (n : ℕ) (vs : List ℕ) (qs : List SortPair) → length vs ≤ k → weight qs ≤ n → AllInside vs qs → Answered qs
  level zero vs [] l w a = inl (record { unifier = Var; unifies = tt; general = λ f h i. put_var f i })
  level (suc n) vs [] l w a = inl (record { unifier = Var; unifies = tt; general = λ f h i. put_var f i })
  level zero vs (q ∷ qs) l w a = absurd (let p = size_positive q.left in omega arith)
  level (suc n) vs (q ∷ qs) l w a =
      let p = size_positive q.left in
      turned (pair q.left q.right ∷ qs) (q ∷ qs) (λ f h. h) (λ f h. h)
      (first q.left q.right vs qs l a (level n vs qs l (omega arith) a.1)
      (λ xs ys m b. (let o = weight_arguments xs ys qs in
      level n vs (arguments xs ys ++ qs) l (omega arith) (all_append (InsidePair vs) (arguments xs ys) qs b a.1))))

answered : (k : ℕ) (vs : List ℕ) (qs : List SortPair) → length vs ≤ k → AllInside vs qs → Answered qs
answered zero vs qs l a = level zero (λ us ps h b. absurd (omega arith)) (weight qs) vs qs l (omega arith) a
answered (suc k) vs qs l a = level (suc k) (λ us ps h b. answered k us ps (omega arith) b) (weight qs) vs qs l (omega arith) a

pub unification : (qs : List SortPair) → Answered qs
unification qs = let v = all_listed qs in answered (length v.0) v.0 qs (omega arith) v.1

-- the same in words of substitutions alone
in_words : (qs : List SortPair) → Answered qs
    → ((m : ℕ → Sort) × Unifies m qs × ((f : ℕ → Sort) → Unifies f qs → Respects f m)) ⊎ ((f : ℕ → Sort) → ¬ Unifies f qs)
in_words qs (inl s) = inl (s.unifier, s.unifies, s.general)
in_words qs (inr refutes) = inr refutes

pub unified : (qs : List SortPair) → ((m : ℕ → Sort) × Unifies m qs × ((f : ℕ → Sort) → Unifies f qs → Respects f m))
    ⊎ ((f : ℕ → Sort) → ¬ Unifies f qs)
unified qs = in_words qs (unification qs)
