-- A formula that is elaborated under other sorts is the formula with these sorts put in it, where the heads of arithmetic stay.
use Rattle.std.proofs.Common.{◌≡◌, ℕ, zero, suc, Bool, true, false, nat_eq, List, [], ◌∷◌, ◌++◌, map, refl, ap, sym, ◌∙◌, Option, Some, None}
use Rattle.std.proofs.lemmas.List.{map-append}
use Rattle.ae_core.specs.Inner.Induction.{by_formulas}
use Rattle.ae_core.specs.declared.terms.Sort.{Sort}
use Rattle.ae_core.specs.declared.terms.Head.TheVariants as head
use Rattle.ae_core.specs.declared.terms.Term.{Term, Apply}
use Rattle.ae_core.specs.declared.formulas.Formula.{Formula, Formula-F, True, False, Eq, Lt, Le, Pred, Not, And, Or, Xor, Iff, All, Ex, out-Formula}
use Rattle.ae_core.specs.declared.formulas.Formula.TheOpen as layer
use Rattle.ae_core.specs.declared.formulas.Formula.TheVariants.{outs-True, outs-False, outs-Eq, outs-Lt, outs-Le, outs-Pred, outs-Not, outs-And, outs-Or, outs-Xor, outs-Iff, outs-All, outs-Ex}
use Rattle.ae_core.specs.declared.formulas.Quant.{Quant}
use Rattle.ae_syntax.specs.declared.exprs.Quantifier.{Quantifier}
use Rattle.ae_syntax.specs.declared.exprs.Quantifier.TheVariants as quantifier
use Rattle.ae_elab.specs.Trees.{Relation, equal, unequal, less, at_most, greater, at_least}
use Rattle.ae_elab.specs.Elaboration.{Cases, leaf, branch, ◌|>◌, value_of, either_way, formula_of, related, true_term, differs_from, differences, all_after, all_true, value_at, field_term, fields_from, record_of, block, merged_quant, all_over, some_over, over}
use Rattle.ae_elab.specs.Numbering.{with_sorts_term, with_sorts, with_sorts_block}
use Rattle.ae_elab.proofs.NumberRules.{with_apply, with_true, with_false, with_eq, with_lt, with_le, with_pred, with_not, with_and, with_or, with_xor, with_iff, with_all, with_ex, with_block}

module _ (r : Sort → Sort) where
  -- ---- atoms
  pub with_related : (x : Relation) (s t : Term) → with_sorts r (related x s t) ≡ related x (with_sorts_term r s) (with_sorts_term r t)
  with_related equal s t = with_eq r s t
  with_related unequal s t = with_not r (Eq s t) ∙ ap Not (with_eq r s t)
  with_related less s t = with_lt r s t
  with_related at_most s t = with_le r s t
  with_related greater s t = with_lt r t s
  with_related at_least s t = with_le r t s

  with_differs : (t : Term) (us : List Term) → map (with_sorts r) (differs_from t us) ≡ differs_from (with_sorts_term r t) (map (with_sorts_term r) us)
  with_differs t [] = refl
  with_differs t (u ∷ us) =
      ap (λ f. f ∷ map (with_sorts r) (differs_from t us)) (with_not r (Eq t u) ∙ ap Not (with_eq r t u))
      ∙ ap (λ fs. Not (Eq (with_sorts_term r t) (with_sorts_term r u)) ∷ fs) (with_differs t us)

  with_differences : (ts : List Term) → map (with_sorts r) (differences ts) ≡ differences (map (with_sorts_term r) ts)
  with_differences [] = refl
  with_differences (t ∷ ts) =
      map-append (with_sorts r) (differs_from t ts) (differences ts)
      ∙ ap (λ fs. fs ++ map (with_sorts r) (differences ts)) (with_differs t ts)
      ∙ ap (λ fs. differs_from (with_sorts_term r t) (map (with_sorts_term r) ts) ++ fs) (with_differences ts)

  with_all_after : (f : Formula) (gs : List Formula) → with_sorts r (all_after f gs) ≡ all_after (with_sorts r f) (map (with_sorts r) gs)
  with_all_after f [] = refl
  with_all_after f (g ∷ gs) = with_all_after (And f g) gs ∙ ap (λ h. all_after h (map (with_sorts r) gs)) (with_and r f g)

  with_all_true : (fs : List Formula) → with_sorts r (all_true fs) ≡ all_true (map (with_sorts r) fs)
  with_all_true [] = with_true r
  with_all_true (f ∷ fs) = with_all_after f fs

  pub with_distinct : (ts : List Term) → with_sorts r (all_true (differences ts)) ≡ all_true (differences (map (with_sorts_term r) ts))
  with_distinct ts = with_all_true (differences ts) ∙ ap all_true (with_differences ts)

  pub with_true_term : with_sorts_term r true_term ≡ true_term
  with_true_term = with_apply r head.True [] []

  pub with_either : (c a b : Formula) → with_sorts r (either_way c a b) ≡ either_way (with_sorts r c) (with_sorts r a) (with_sorts r b)
  with_either c a b =
      with_and r (Or (Not c) a) (Or c b)
      ∙ ap (λ f. And f (with_sorts r (Or c b))) (with_or r (Not c) a ∙ ap (λ f. Or f (with_sorts r a)) (with_not r c))
      ∙ ap (And (Or (Not (with_sorts r c)) (with_sorts r a))) (with_or r c b)

  -- ---- records
  moved_value : Option Term → Option Term
  moved_value (Some u) = Some (with_sorts_term r u)
  moved_value None = None

  value_if : (b : Bool) (u : Term) (o o' : Option Term) → moved_value o ≡ o'
      → moved_value (elim b [ true ↦ Some u | false ↦ o ]) ≡ elim b [ true ↦ Some (with_sorts_term r u) | false ↦ o' ]
  unfolding moved_value
  value_if true u o o' e = refl
  value_if false u o o' e = e

  with_value : (place : ℕ) (ps : List ℕ) (us : List Term) → moved_value (value_at place ps us) ≡ value_at place ps (map (with_sorts_term r) us)
  unfolding moved_value
  with_value place [] us = refl
  with_value place (p ∷ ps) [] = refl
  with_value place (p ∷ ps) (u ∷ us) =
      value_if (nat_eq place p) u (value_at place ps us) (value_at place ps (map (with_sorts_term r) us)) (with_value place ps us)

  with_field : (of : ℕ) (ss : List Sort) (base : Term) (place : ℕ) (o : Option Term)
      → with_sorts_term r (field_term of ss base place o) ≡ field_term of (map r ss) (with_sorts_term r base) place (moved_value o)
  unfolding moved_value
  with_field of ss base place (Some u) = refl
  with_field of ss base place None = with_apply r (head.Field of place) ss (base ∷ [])

  with_fields : (n place of : ℕ) (ss : List Sort) (base : Term) (ps : List ℕ) (us : List Term)
      → map (with_sorts_term r) (fields_from n place of ss base ps us) ≡ fields_from n place of (map r ss) (with_sorts_term r base) ps (map (with_sorts_term r) us)
  with_fields zero place of ss base ps us = refl
  with_fields (suc n) place of ss base ps us =
      ap (λ t. t ∷ map (with_sorts_term r) (fields_from n (suc place) of ss base ps us))
      (with_field of ss base place (value_at place ps us)
      ∙ ap (field_term of (map r ss) (with_sorts_term r base) place) (with_value place ps us))
      ∙ ap (λ ts. field_term of (map r ss) (with_sorts_term r base) place (value_at place ps (map (with_sorts_term r) us)) ∷ ts)
      (with_fields n (suc place) of ss base ps us)

  pub with_record : (of : ℕ) (ss : List Sort) (n : ℕ) (base : Term) (ps : List ℕ) (us : List Term)
      → with_sorts_term r (record_of of ss n base ps us) ≡ record_of of (map r ss) n (with_sorts_term r base) ps (map (with_sorts_term r) us)
  with_record of ss n base ps us =
      with_apply r (head.Build of) ss (fields_from n 0 of ss base ps us) ∙ ap (Apply (head.Build of) (map r ss)) (with_fields n 0 of ss base ps us)

  -- ---- blocks
  whole_block : (ss : List Sort) (ts : List (List Term)) (f : Formula)
      → with_sorts_block r (block ss ts f) ≡ block (map r ss) (map (map (with_sorts_term r)) ts) (with_sorts r f)
  whole_block ss ts f = with_block r (block ss ts f)

  merged_block : (ss : List Sort) (q : Quant) → with_sorts_block r (merged_quant ss q) ≡ merged_quant (map r ss) (with_sorts_block r q)
  merged_block ss q =
      with_block r (merged_quant ss q)
      ∙ ap (λ xs. block xs (map (map (with_sorts_term r)) q.triggers) (with_sorts r q.body)) (map-append r ss q.sorts)
      ∙ ap (merged_quant (map r ss)) (sym (with_block r q))

  plain_all : (ss : List Sort) (f : Formula) → with_sorts r (All (block ss [] f)) ≡ All (block (map r ss) [] (with_sorts r f))
  plain_all ss f = with_all r (block ss [] f) ∙ ap All (whole_block ss [] f)

  plain_ex : (ss : List Sort) (f : Formula) → with_sorts r (Ex (block ss [] f)) ≡ Ex (block (map r ss) [] (with_sorts r f))
  plain_ex ss f = with_ex r (block ss [] f) ∙ ap Ex (whole_block ss [] f)

  all_step : (ss : List Sort) (f : Formula) (l k : Formula-F Formula Quant) → out-Formula f ≡ l → out-Formula (with_sorts r f) ≡ k
      → with_sorts r (all_over ss f l) ≡ all_over (map r ss) (with_sorts r f) k
      → with_sorts r (all_over ss f (out-Formula f)) ≡ all_over (map r ss) (with_sorts r f) (out-Formula (with_sorts r f))
  all_step ss f l k a b e =
      ap (λ o. with_sorts r (all_over ss f o)) a ∙ e ∙ sym (ap (all_over (map r ss) (with_sorts r f)) b)

  with_all_over : (ss : List Sort) (f : Formula) → with_sorts r (all_over ss f (out-Formula f)) ≡ all_over (map r ss) (with_sorts r f) (out-Formula (with_sorts r f))
  with_all_over ss = by_formulas (λ f. with_sorts r (all_over ss f (out-Formula f)) ≡ all_over (map r ss) (with_sorts r f) (out-Formula (with_sorts r f))) (λ q. Unit {0})
      (all_step ss True layer.True layer.True outs-True (ap out-Formula (with_true r) ∙ outs-True) (plain_all ss True))
      (all_step ss False layer.False layer.False outs-False (ap out-Formula (with_false r) ∙ outs-False) (plain_all ss False))
      (λ a b. all_step ss (Eq a b) (layer.Eq a b) (layer.Eq (with_sorts_term r a) (with_sorts_term r b)) (outs-Eq a b) (ap out-Formula (with_eq r a b) ∙ outs-Eq (with_sorts_term r a) (with_sorts_term r b)) (plain_all ss (Eq a b)))
      (λ a b. all_step ss (Lt a b) (layer.Lt a b) (layer.Lt (with_sorts_term r a) (with_sorts_term r b)) (outs-Lt a b) (ap out-Formula (with_lt r a b) ∙ outs-Lt (with_sorts_term r a) (with_sorts_term r b)) (plain_all ss (Lt a b)))
      (λ a b. all_step ss (Le a b) (layer.Le a b) (layer.Le (with_sorts_term r a) (with_sorts_term r b)) (outs-Le a b) (ap out-Formula (with_le r a b) ∙ outs-Le (with_sorts_term r a) (with_sorts_term r b)) (plain_all ss (Le a b)))
      (λ p os us. all_step ss (Pred p os us) (layer.Pred p os us) (layer.Pred p (map r os) (map (with_sorts_term r) us)) (outs-Pred p os us) (ap out-Formula (with_pred r p os us) ∙ outs-Pred p (map r os) (map (with_sorts_term r) us)) (plain_all ss (Pred p os us)))
      (λ a h. all_step ss (Not a) (layer.Not a) (layer.Not (with_sorts r a)) (outs-Not a) (ap out-Formula (with_not r a) ∙ outs-Not (with_sorts r a)) (plain_all ss (Not a)))
      (λ a b h k. all_step ss (And a b) (layer.And a b) (layer.And (with_sorts r a) (with_sorts r b)) (outs-And a b) (ap out-Formula (with_and r a b) ∙ outs-And (with_sorts r a) (with_sorts r b)) (plain_all ss (And a b)))
      (λ a b h k. all_step ss (Or a b) (layer.Or a b) (layer.Or (with_sorts r a) (with_sorts r b)) (outs-Or a b) (ap out-Formula (with_or r a b) ∙ outs-Or (with_sorts r a) (with_sorts r b)) (plain_all ss (Or a b)))
      (λ a b h k. all_step ss (Xor a b) (layer.Xor a b) (layer.Xor (with_sorts r a) (with_sorts r b)) (outs-Xor a b) (ap out-Formula (with_xor r a b) ∙ outs-Xor (with_sorts r a) (with_sorts r b)) (plain_all ss (Xor a b)))
      (λ a b h k. all_step ss (Iff a b) (layer.Iff a b) (layer.Iff (with_sorts r a) (with_sorts r b)) (outs-Iff a b) (ap out-Formula (with_iff r a b) ∙ outs-Iff (with_sorts r a) (with_sorts r b)) (plain_all ss (Iff a b)))
      (λ q h. all_step ss (All q) (layer.All q) (layer.All (with_sorts_block r q)) (outs-All q) (ap out-Formula (with_all r q) ∙ outs-All (with_sorts_block r q)) (with_all r (merged_quant ss q) ∙ ap All (merged_block ss q)))
      (λ q h. all_step ss (Ex q) (layer.Ex q) (layer.Ex (with_sorts_block r q)) (outs-Ex q) (ap out-Formula (with_ex r q) ∙ outs-Ex (with_sorts_block r q)) (plain_all ss (Ex q)))
      (λ q h. tt)

  ex_step : (ss : List Sort) (f : Formula) (l k : Formula-F Formula Quant) → out-Formula f ≡ l → out-Formula (with_sorts r f) ≡ k
      → with_sorts r (some_over ss f l) ≡ some_over (map r ss) (with_sorts r f) k
      → with_sorts r (some_over ss f (out-Formula f)) ≡ some_over (map r ss) (with_sorts r f) (out-Formula (with_sorts r f))
  ex_step ss f l k a b e =
      ap (λ o. with_sorts r (some_over ss f o)) a ∙ e ∙ sym (ap (some_over (map r ss) (with_sorts r f)) b)

  with_some_over : (ss : List Sort) (f : Formula) → with_sorts r (some_over ss f (out-Formula f)) ≡ some_over (map r ss) (with_sorts r f) (out-Formula (with_sorts r f))
  with_some_over ss = by_formulas (λ f. with_sorts r (some_over ss f (out-Formula f)) ≡ some_over (map r ss) (with_sorts r f) (out-Formula (with_sorts r f))) (λ q. Unit {0})
      (ex_step ss True layer.True layer.True outs-True (ap out-Formula (with_true r) ∙ outs-True) (plain_ex ss True))
      (ex_step ss False layer.False layer.False outs-False (ap out-Formula (with_false r) ∙ outs-False) (plain_ex ss False))
      (λ a b. ex_step ss (Eq a b) (layer.Eq a b) (layer.Eq (with_sorts_term r a) (with_sorts_term r b)) (outs-Eq a b) (ap out-Formula (with_eq r a b) ∙ outs-Eq (with_sorts_term r a) (with_sorts_term r b)) (plain_ex ss (Eq a b)))
      (λ a b. ex_step ss (Lt a b) (layer.Lt a b) (layer.Lt (with_sorts_term r a) (with_sorts_term r b)) (outs-Lt a b) (ap out-Formula (with_lt r a b) ∙ outs-Lt (with_sorts_term r a) (with_sorts_term r b)) (plain_ex ss (Lt a b)))
      (λ a b. ex_step ss (Le a b) (layer.Le a b) (layer.Le (with_sorts_term r a) (with_sorts_term r b)) (outs-Le a b) (ap out-Formula (with_le r a b) ∙ outs-Le (with_sorts_term r a) (with_sorts_term r b)) (plain_ex ss (Le a b)))
      (λ p os us. ex_step ss (Pred p os us) (layer.Pred p os us) (layer.Pred p (map r os) (map (with_sorts_term r) us)) (outs-Pred p os us) (ap out-Formula (with_pred r p os us) ∙ outs-Pred p (map r os) (map (with_sorts_term r) us)) (plain_ex ss (Pred p os us)))
      (λ a h. ex_step ss (Not a) (layer.Not a) (layer.Not (with_sorts r a)) (outs-Not a) (ap out-Formula (with_not r a) ∙ outs-Not (with_sorts r a)) (plain_ex ss (Not a)))
      (λ a b h k. ex_step ss (And a b) (layer.And a b) (layer.And (with_sorts r a) (with_sorts r b)) (outs-And a b) (ap out-Formula (with_and r a b) ∙ outs-And (with_sorts r a) (with_sorts r b)) (plain_ex ss (And a b)))
      (λ a b h k. ex_step ss (Or a b) (layer.Or a b) (layer.Or (with_sorts r a) (with_sorts r b)) (outs-Or a b) (ap out-Formula (with_or r a b) ∙ outs-Or (with_sorts r a) (with_sorts r b)) (plain_ex ss (Or a b)))
      (λ a b h k. ex_step ss (Xor a b) (layer.Xor a b) (layer.Xor (with_sorts r a) (with_sorts r b)) (outs-Xor a b) (ap out-Formula (with_xor r a b) ∙ outs-Xor (with_sorts r a) (with_sorts r b)) (plain_ex ss (Xor a b)))
      (λ a b h k. ex_step ss (Iff a b) (layer.Iff a b) (layer.Iff (with_sorts r a) (with_sorts r b)) (outs-Iff a b) (ap out-Formula (with_iff r a b) ∙ outs-Iff (with_sorts r a) (with_sorts r b)) (plain_ex ss (Iff a b)))
      (λ q h. ex_step ss (All q) (layer.All q) (layer.All (with_sorts_block r q)) (outs-All q) (ap out-Formula (with_all r q) ∙ outs-All (with_sorts_block r q)) (plain_ex ss (All q)))
      (λ q h. ex_step ss (Ex q) (layer.Ex q) (layer.Ex (with_sorts_block r q)) (outs-Ex q) (ap out-Formula (with_ex r q) ∙ outs-Ex (with_sorts_block r q)) (with_ex r (merged_quant ss q) ∙ ap Ex (merged_block ss q)))
      (λ q h. tt)

  pub with_over : (q : Quantifier) (ss : List Sort) (ts : List (List Term)) (f : Formula)
      → with_sorts r (over q ss ts f) ≡ over q (map r ss) (map (map (with_sorts_term r)) ts) (with_sorts r f)
  with_over quantifier.Forall ss [] f = with_all_over ss f
  with_over quantifier.Exists ss [] f = with_some_over ss f
  with_over quantifier.Forall ss (t ∷ ts) f = with_all r (block ss (t ∷ ts) f) ∙ ap All (whole_block ss (t ∷ ts) f)
  with_over quantifier.Exists ss (t ∷ ts) f = with_ex r (block ss (t ∷ ts) f) ∙ ap Ex (whole_block ss (t ∷ ts) f)

  -- ---- cases
  pub moved : {A : Type 0} → (A → A) → Cases A → Cases A
  moved g (leaf x) = leaf (g x)
  moved g (branch c a b) = branch (with_sorts r c) (moved g a) (moved g b)

  pub moved_leaf : {A : Type 0} (g : A → A) (x : A) → moved g (leaf x) ≡ leaf (g x)
  unfolding moved
  moved_leaf g x = refl

  pub moved_branch : {A : Type 0} (g : A → A) (c : Formula) (a b : Cases A) → moved g (branch c a b) ≡ branch (with_sorts r c) (moved g a) (moved g b)
  unfolding moved
  moved_branch g c a b = refl

  pub moved_then : {A B : Type 0} (g : A → A) (h : B → B) (f k : A → Cases B) → ((x : A) → moved h (f x) ≡ k (g x))
      → (c : Cases A) → moved h (c |> f) ≡ moved g c |> k
  unfolding moved
  moved_then g h f k e (leaf x) = e x
  moved_then g h f k e (branch c a b) =
      ap (λ x. branch (with_sorts r c) x (moved h (b |> f))) (moved_then g h f k e a)
      ∙ ap (branch (with_sorts r c) (moved g a |> k)) (moved_then g h f k e b)

  pub moved_formula : (c : Cases Formula) → with_sorts r (formula_of c) ≡ formula_of (moved (with_sorts r) c)
  unfolding moved
  moved_formula (leaf f) = refl
  moved_formula (branch c a b) =
      with_either c (formula_of a) (formula_of b)
      ∙ ap (λ f. either_way (with_sorts r c) f (with_sorts r (formula_of b))) (moved_formula a)
      ∙ ap (either_way (with_sorts r c) (formula_of (moved (with_sorts r) a))) (moved_formula b)

  pub moved_value_of : {A : Type 0} (g : A → A) (c : Cases A) → g (value_of c) ≡ value_of (moved g c)
  unfolding moved
  moved_value_of g (leaf x) = refl
  moved_value_of g (branch c a b) = moved_value_of g b
