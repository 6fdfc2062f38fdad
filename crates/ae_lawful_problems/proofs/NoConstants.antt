-- No fresh constant stands in the formula of a text.
use Rattle.std.proofs.Common.{◌≡◌, ◌∙◌, ℕ, ℤ, Bool, true, false, nat_eq, List, [], ◌∷◌, ◌++◌, map, reverse, refl, sym, ap, subst, Option, Some, None}
use Rattle.ae_base.proofs.ListFacts.{empty_parts}
use Rattle.std.specs.List.{AllByRecursion, flat_map}
use Rattle.std.proofs.lemmas.Option.{none-some, same_Some}
use Rattle.ae_base.proofs.AllOf.{all_append}
use Rattle.ae_core.specs.Constants.{constants, constants_step, formula_constants, formula_constants_step}
use Rattle.ae_core.specs.Inner.Induction.{by_terms, by_formulas}
use Rattle.ae_core.proofs.Recursion.{fold_bound, fold_num, fold_fresh, fold_apply, fold_true, fold_false, fold_eq, fold_lt, fold_le, fold_pred}
use Rattle.ae_core.proofs.Recursion.{fold_not, fold_and, fold_or, fold_xor, fold_iff, fold_all, fold_ex, fold_block}
use Rattle.ae_core.specs.declared.terms.Sort.{Sort, out-Sort}
use Rattle.ae_core.specs.declared.terms.Head.{Head}
use Rattle.ae_core.specs.declared.terms.Head.TheVariants as head
use Rattle.ae_core.specs.declared.terms.Term.{Term, Bound, Num, Fresh, Apply}
use Rattle.ae_core.specs.declared.formulas.Formula.{Formula, True, False, Eq, Lt, Le, Pred, Not, And, Or, Xor, Iff, All, Ex, out-Formula}
use Rattle.ae_core.specs.declared.formulas.Formula.{roll-Formula, roll-out-Formula}
use Rattle.ae_core.specs.declared.formulas.Formula.TheOpen as formula_layer
use Rattle.ae_core.specs.declared.formulas.Formula.TheVariants.{rolls-All, rolls-Ex}
use Rattle.ae_core.specs.declared.formulas.Quant.{Quant, fold-Quant}
use Rattle.ae_types.specs.Substitutions.{put}
use Rattle.ae_syntax.specs.declared.exprs.Quantifier.{Quantifier}
use Rattle.ae_syntax.specs.declared.exprs.Quantifier.TheVariants as quantifier
use Rattle.ae_elab.specs.Trees.{Tree, Trees, Patterns, Claim, Relation, equal, unequal, less, at_most, greater, at_least, none, more, no_pattern}
use Rattle.ae_elab.specs.Trees.{and_pattern, variable, numeral, apply, operation, build, update, choice, truth, falsity, relation, predicate}
use Rattle.ae_elab.specs.Trees.{distinct, holds, negation, conjunction, disjunction, exclusion, equivalence, implication, conditional, quantified}
use Rattle.ae_elab.specs.Elaboration.{Cases, leaf, branch, ◌|>◌, value_of, either_way, formula_of, distance, related, true_term, differs_from}
use Rattle.ae_elab.specs.Elaboration.{differences, all_after, all_true, head_on, value_at, field_term, fields_from, record_of, block, merged_quant}
use Rattle.ae_elab.specs.Elaboration.{all_over, some_over, over, term_cases, terms_cases, triggers_in, formula_in}
use Rattle.ae_elab.specs.Numbering.{with_sorts_term, with_sorts, with_sorts_block}
use Rattle.ae_lawful_problems.proofs.MergedBlocks.{all_over_by, some_over_by}
use Rattle.ae_elab.proofs.NumberRules.{with_bound, with_num, with_apply, with_true, with_false, with_eq, with_lt, with_le, with_pred, with_not}
use Rattle.ae_elab.proofs.NumberRules.{with_and, with_or, with_xor, with_iff, with_all, with_ex, with_block}

-- ---- the constants of a term and of a formula, at each form
abbrev block_constants : Quant → List Term
block_constants q = flat_map (flat_map constants) q.triggers ++ formula_constants q.body

of_bound : (i : ℕ) → constants (Bound i) ≡ []
unfolding constants
of_bound = fold_bound (List Term) constants_step

of_num : (a b : ℤ) (r : Bool) → constants (Num a b r) ≡ []
unfolding constants
of_num = fold_num (List Term) constants_step

of_fresh : (n : ℕ) (s : Sort) → constants (Fresh n s) ≡ Fresh n s ∷ []
unfolding constants
of_fresh = fold_fresh (List Term) constants_step

flat_again : (us : List Term) → flat_map (λ u. u) (map constants us) ≡ flat_map constants us
flat_again [] = refl
flat_again (u ∷ us) = ap (λ xs. constants u ++ xs) (flat_again us)

of_apply : (h : Head) (ss : List Sort) (us : List Term) → constants (Apply h ss us) ≡ flat_map constants us
unfolding constants
of_apply h ss us = fold_apply (List Term) constants_step h ss us ∙ flat_again us

abbrev in_block : Quant → List Term
in_block q = fold-Quant (List Term) (List Term) formula_constants_step (λ q. flat_map (flat_map constants) q.triggers ++ q.body) q

of_true : formula_constants True ≡ []
unfolding formula_constants
of_true = fold_true (List Term) (List Term) formula_constants_step (λ q. flat_map (flat_map constants) q.triggers ++ q.body)

of_false : formula_constants False ≡ []
unfolding formula_constants
of_false = fold_false (List Term) (List Term) formula_constants_step (λ q. flat_map (flat_map constants) q.triggers ++ q.body)

of_eq : (a b : Term) → formula_constants (Eq a b) ≡ constants a ++ constants b
unfolding formula_constants
of_eq = fold_eq (List Term) (List Term) formula_constants_step (λ q. flat_map (flat_map constants) q.triggers ++ q.body)

of_lt : (a b : Term) → formula_constants (Lt a b) ≡ constants a ++ constants b
unfolding formula_constants
of_lt = fold_lt (List Term) (List Term) formula_constants_step (λ q. flat_map (flat_map constants) q.triggers ++ q.body)

of_le : (a b : Term) → formula_constants (Le a b) ≡ constants a ++ constants b
unfolding formula_constants
of_le = fold_le (List Term) (List Term) formula_constants_step (λ q. flat_map (flat_map constants) q.triggers ++ q.body)

of_pred : (p : ℕ) (ss : List Sort) (us : List Term) → formula_constants (Pred p ss us) ≡ flat_map constants us
unfolding formula_constants
of_pred = fold_pred (List Term) (List Term) formula_constants_step (λ q. flat_map (flat_map constants) q.triggers ++ q.body)

of_not : (a : Formula) → formula_constants (Not a) ≡ formula_constants a
unfolding formula_constants
of_not = fold_not (List Term) (List Term) formula_constants_step (λ q. flat_map (flat_map constants) q.triggers ++ q.body)

of_and : (a b : Formula) → formula_constants (And a b) ≡ formula_constants a ++ formula_constants b
unfolding formula_constants
of_and = fold_and (List Term) (List Term) formula_constants_step (λ q. flat_map (flat_map constants) q.triggers ++ q.body)

of_or : (a b : Formula) → formula_constants (Or a b) ≡ formula_constants a ++ formula_constants b
unfolding formula_constants
of_or = fold_or (List Term) (List Term) formula_constants_step (λ q. flat_map (flat_map constants) q.triggers ++ q.body)

of_xor : (a b : Formula) → formula_constants (Xor a b) ≡ formula_constants a ++ formula_constants b
unfolding formula_constants
of_xor = fold_xor (List Term) (List Term) formula_constants_step (λ q. flat_map (flat_map constants) q.triggers ++ q.body)

of_iff : (a b : Formula) → formula_constants (Iff a b) ≡ formula_constants a ++ formula_constants b
unfolding formula_constants
of_iff = fold_iff (List Term) (List Term) formula_constants_step (λ q. flat_map (flat_map constants) q.triggers ++ q.body)

of_block : (q : Quant) → in_block q ≡ block_constants q
unfolding formula_constants
of_block q = fold_block (List Term) (List Term) formula_constants_step (λ q. flat_map (flat_map constants) q.triggers ++ q.body) q

of_all : (q : Quant) → formula_constants (All q) ≡ block_constants q
unfolding formula_constants
of_all q = fold_all (List Term) (List Term) formula_constants_step (λ q. flat_map (flat_map constants) q.triggers ++ q.body) q ∙ of_block q

of_ex : (q : Quant) → formula_constants (Ex q) ≡ block_constants q
unfolding formula_constants
of_ex q = fold_ex (List Term) (List Term) formula_constants_step (λ q. flat_map (flat_map constants) q.triggers ++ q.body) q ∙ of_block q

-- ---- nothing in parts
both_empty : {X : Type 0} (xs ys : List X) → xs ≡ [] → ys ≡ [] → xs ++ ys ≡ []
both_empty xs ys a b = ap (λ zs. zs ++ ys) a ∙ b

abbrev pub Free : Term → Type 0
Free u = constants u ≡ []

abbrev pub FreeFormula : Formula → Type 0
FreeFormula f = formula_constants f ≡ []

free_list : (us : List Term) → AllByRecursion Free us → flat_map constants us ≡ []
free_list [] a = refl
free_list (u ∷ us) a = both_empty (constants u) (flat_map constants us) a.0 (free_list us a.1)

list_free : (us : List Term) → flat_map constants us ≡ [] → AllByRecursion Free us
list_free [] e = tt
list_free (u ∷ us) e = let p = empty_parts (constants u) (flat_map constants us) e in (p.0, list_free us p.1)

free_apply : (h : Head) (ss : List Sort) (us : List Term) → AllByRecursion Free us → Free (Apply h ss us)
free_apply h ss us a = of_apply h ss us ∙ free_list us a

-- ---- elaborated trees
abbrev EachFree : {A : Type 0} → (A → Type 0) → Cases A → Type 0
EachFree Q (leaf x) = Q x
EachFree Q (branch c a b) = FreeFormula c × EachFree Q a × EachFree Q b

free_then : {A B : Type 0} (Q : A → Type 0) (R : B → Type 0) (f : A → Cases B) → ((x : A) → Q x → EachFree R (f x)) → (c : Cases A) → EachFree Q c → EachFree R (c |> f)
free_then Q R f k (leaf x) h = k x h
free_then Q R f k (branch c a b) h = (h.0, free_then Q R f k a h.1, free_then Q R f k b h.2)

free_value : {A : Type 0} (Q : A → Type 0) (c : Cases A) → EachFree Q c → Q (value_of c)
free_value Q (leaf x) h = h
free_value Q (branch c a b) h = free_value Q b h.2

free_both : (C : Formula → Formula → Formula) → ((a b : Formula) → formula_constants (C a b) ≡ formula_constants a ++ formula_constants b) → (a b : Formula) → FreeFormula a → FreeFormula b → FreeFormula (C a b)
free_both C rule a b h k = rule a b ∙ both_empty (formula_constants a) (formula_constants b) h k

free_not : (a : Formula) → FreeFormula a → FreeFormula (Not a)
free_not a h = of_not a ∙ h

free_either : (c a b : Formula) → FreeFormula c → FreeFormula a → FreeFormula b → FreeFormula (either_way c a b)
free_either c a b h i j = free_both And of_and (Or (Not c) a) (Or c b) (free_both Or of_or (Not c) a (free_not c h) i) (free_both Or of_or c b h j)

free_cases : (c : Cases Formula) → EachFree FreeFormula c → FreeFormula (formula_of c)
free_cases (leaf f) h = h
free_cases (branch c a b) h = free_either c (formula_of a) (formula_of b) h.0 (free_cases a h.1) (free_cases b h.2)

free_eq : (a b : Term) → Free a → Free b → FreeFormula (Eq a b)
free_eq a b h k = of_eq a b ∙ both_empty (constants a) (constants b) h k

free_related : (x : Relation) (a b : Term) → Free a → Free b → FreeFormula (related x a b)
free_related equal a b h k = free_eq a b h k
free_related unequal a b h k = free_not (Eq a b) (free_eq a b h k)
free_related less a b h k = of_lt a b ∙ both_empty (constants a) (constants b) h k
free_related at_most a b h k = of_le a b ∙ both_empty (constants a) (constants b) h k
free_related greater a b h k = of_lt b a ∙ both_empty (constants b) (constants a) k h
free_related at_least a b h k = of_le b a ∙ both_empty (constants b) (constants a) k h

free_true : Free true_term
free_true = free_apply head.True [] [] tt

free_after : (f : Formula) (gs : List Formula) → FreeFormula f → AllByRecursion FreeFormula gs → FreeFormula (all_after f gs)
free_after f [] h a = h
free_after f (g ∷ gs) h a = free_after (And f g) gs (free_both And of_and f g h a.0) a.1

free_all : (fs : List Formula) → AllByRecursion FreeFormula fs → FreeFormula (all_true fs)
free_all [] a = of_true
free_all (f ∷ fs) a = free_after f fs a.0 a.1

free_differs : (t : Term) (us : List Term) → Free t → AllByRecursion Free us → AllByRecursion FreeFormula (differs_from t us)
free_differs t [] h a = tt
free_differs t (u ∷ us) h a = (free_not (Eq t u) (free_eq t u h a.0), free_differs t us h a.1)

free_differences : (us : List Term) → AllByRecursion Free us → AllByRecursion FreeFormula (differences us)
free_differences [] a = tt
free_differences (u ∷ us) a = all_append FreeFormula (differs_from u us) (differences us) (free_differs u us a.0 a.1) (free_differences us a.1)

-- records
free_one : (b : Bool) (v : Term) (o : Option Term) (u : Term) → Free v → (o ≡ Some u → Free u) → elim b [ true ↦ Some v | false ↦ o ] ≡ Some u → Free u
free_one true v o u h k e = subst Free (same_Some v u e) h
free_one false v o u h k e = k e

free_value_at : (place : ℕ) (ps : List ℕ) (us : List Term) (u : Term) → AllByRecursion Free us → value_at place ps us ≡ Some u → Free u
free_value_at place [] us u a e = absurd (none-some u e)
free_value_at place (p ∷ ps) [] u a e = absurd (none-some u e)
free_value_at place (p ∷ ps) (v ∷ us) u a e = free_one (nat_eq place p) v (value_at place ps us) u a.0 (λ i. free_value_at place ps us u a.1 i) e

free_field : (of : ℕ) (ss : List Sort) (base : Term) (place : ℕ) (o : Option Term) → Free base → ((u : Term) → o ≡ Some u → Free u) → Free (field_term of ss base place o)
free_field of ss base place (Some u) b h = h u refl
free_field of ss base place None b h = free_apply (head.Field of place) ss (base ∷ []) (b, tt)

free_fields : (n place of : ℕ) (ss : List Sort) (base : Term) (ps : List ℕ) (us : List Term) → Free base → AllByRecursion Free us → AllByRecursion Free (fields_from n place of ss base ps us)
free_fields ℕ.zero place of ss base ps us b a = tt
free_fields (ℕ.suc n) place of ss base ps us b a =
    (free_field of ss base place (value_at place ps us) b (λ u e. free_value_at place ps us u a e), free_fields n (ℕ.suc place) of ss base ps us b a)

free_record : (of : ℕ) (ss : List Sort) (n : ℕ) (base : Term) (ps : List ℕ) (us : List Term) → Free base → AllByRecursion Free us → Free (record_of of ss n base ps us)
free_record of ss n base ps us b a = free_apply (head.Build of) ss (fields_from n 0 of ss base ps us) (free_fields n 0 of ss base ps us b a)

-- blocks
abbrev FreeLists : List (List Term) → Type 0
FreeLists ts = AllByRecursion (AllByRecursion Free) ts

lists_free : (ts : List (List Term)) → FreeLists ts → flat_map (flat_map constants) ts ≡ []
lists_free [] a = refl
lists_free (us ∷ ts) a = both_empty (flat_map constants us) (flat_map (flat_map constants) ts) (free_list us a.0) (lists_free ts a.1)

free_block : (q : Quant) → flat_map (flat_map constants) q.triggers ≡ [] → FreeFormula q.body → block_constants q ≡ []
free_block q a b = both_empty (flat_map (flat_map constants) q.triggers) (formula_constants q.body) a b

free_merged_all : (ss : List Sort) (f : Formula) (q : Quant) → out-Formula f ≡ formula_layer.All q → FreeFormula f → FreeFormula (All (merged_quant ss q))
free_merged_all ss f q e h =
    let is : f ≡ All q = sym (roll-out-Formula f) ∙ ap roll-Formula e ∙ rolls-All q in
    of_all (merged_quant ss q) ∙ sym (of_all q) ∙ subst FreeFormula is h

free_merged_some : (ss : List Sort) (f : Formula) (q : Quant) → out-Formula f ≡ formula_layer.Ex q → FreeFormula f → FreeFormula (Ex (merged_quant ss q))
free_merged_some ss f q e h =
    let is : f ≡ Ex q = sym (roll-out-Formula f) ∙ ap roll-Formula e ∙ rolls-Ex q in
    of_ex (merged_quant ss q) ∙ sym (of_ex q) ∙ subst FreeFormula is h

module _ (ss : List Sort) (f : Formula) (h : FreeFormula f) where
  plain_all : FreeFormula (All (block ss [] f))
  plain_all = of_all (block ss [] f) ∙ h

  plain_some : FreeFormula (Ex (block ss [] f))
  plain_some = of_ex (block ss [] f) ∙ h

  free_all_over : FreeFormula (all_over ss f (out-Formula f))
  free_all_over = all_over_by FreeFormula ss f plain_all (λ q e. free_merged_all ss f q e h)

  free_some_over : FreeFormula (some_over ss f (out-Formula f))
  free_some_over = some_over_by FreeFormula ss f plain_some (λ q e. free_merged_some ss f q e h)

free_over : (q : Quantifier) (ss : List Sort) (ts : List (List Term)) (f : Formula) → FreeLists ts → FreeFormula f → FreeFormula (over q ss ts f)
free_over quantifier.Forall ss [] f a h = free_all_over ss f h
free_over quantifier.Exists ss [] f a h = free_some_over ss f h
free_over quantifier.Forall ss (t ∷ ts) f a h = of_all (block ss (t ∷ ts) f) ∙ free_block (block ss (t ∷ ts) f) (lists_free (t ∷ ts) a) h
free_over quantifier.Exists ss (t ∷ ts) f a h = of_ex (block ss (t ∷ ts) f) ∙ free_block (block ss (t ∷ ts) f) (lists_free (t ∷ ts) a) h

module _ (m : ℕ → Sort) where
  mutual
    free_tree : (env : List ℕ) (t : Tree) → EachFree Free (term_cases m env t)
    free_tree env (variable x) = of_bound (distance env x)
    free_tree env (numeral a b r) = of_num a b r
    free_tree env (apply h ss us) = free_then (AllByRecursion Free) Free (λ vs. leaf (Apply h (map (put m) ss) vs)) (λ vs a. free_apply h (map (put m) ss) vs a) (terms_cases m env us) (free_trees env us)
    free_tree env (operation o s us) =
        free_then (AllByRecursion Free) Free (λ vs. leaf (Apply (head_on o (out-Sort (put m s))) [] vs)) (λ vs a. free_apply (head_on o (out-Sort (put m s))) [] vs a) (terms_cases m env us) (free_trees env us)
    free_tree env (build of ss n ps us) =
        free_then (AllByRecursion Free) Free (λ vs. leaf (record_of of (map (put m) ss) n true_term ps vs)) (λ vs a. free_record of (map (put m) ss) n true_term ps vs free_true a) (terms_cases m env us) (free_trees env us)
    free_tree env (update of ss n b ps us) =
        free_then Free Free (λ v. terms_cases m env us |> λ vs. leaf (record_of of (map (put m) ss) n v ps vs))
        (λ v h. free_then (AllByRecursion Free) Free (λ vs. leaf (record_of of (map (put m) ss) n v ps vs)) (λ vs a. free_record of (map (put m) ss) n v ps vs h a) (terms_cases m env us) (free_trees env us))
        (term_cases m env b) (free_tree env b)
    free_tree env (choice c a b) = (free_claim env c, free_tree env a, free_tree env b)

    free_trees : (env : List ℕ) (us : Trees) → EachFree (AllByRecursion Free) (terms_cases m env us)
    free_trees env none = tt
    free_trees env (more u us) =
        free_then Free (AllByRecursion Free) (λ v. terms_cases m env us |> λ vs. leaf (v ∷ vs))
        (λ v h. free_then (AllByRecursion Free) (AllByRecursion Free) (λ vs. leaf (v ∷ vs)) (λ vs a. (h, a)) (terms_cases m env us) (free_trees env us)) (term_cases m env u) (free_tree env u)

    free_triggers : (env : List ℕ) (ps : Patterns) → FreeLists (triggers_in m env ps)
    free_triggers env no_pattern = tt
    free_triggers env (and_pattern place us ps) = (free_value (AllByRecursion Free) (terms_cases m env us) (free_trees env us), free_triggers env ps)

    pub free_claim : (env : List ℕ) (c : Claim) → FreeFormula (formula_in m env c)
    free_claim env truth = of_true
    free_claim env falsity = of_false
    free_claim env (relation x a b) =
        free_cases (term_cases m env a |> λ u. term_cases m env b |> λ v. leaf (related x u v))
        (free_then Free FreeFormula (λ u. term_cases m env b |> λ v. leaf (related x u v))
        (λ u h. free_then Free FreeFormula (λ v. leaf (related x u v)) (λ v k. free_related x u v h k) (term_cases m env b) (free_tree env b)) (term_cases m env a) (free_tree env a))
    free_claim env (predicate k ss us) =
        free_cases (terms_cases m env us |> λ vs. leaf (Pred k (map (put m) ss) vs))
        (free_then (AllByRecursion Free) FreeFormula (λ vs. leaf (Pred k (map (put m) ss) vs)) (λ vs a. of_pred k (map (put m) ss) vs ∙ free_list vs a) (terms_cases m env us) (free_trees env us))
    free_claim env (distinct us) =
        free_cases (terms_cases m env us |> λ vs. leaf (all_true (differences vs)))
        (free_then (AllByRecursion Free) FreeFormula (λ vs. leaf (all_true (differences vs))) (λ vs a. free_all (differences vs) (free_differences vs a)) (terms_cases m env us) (free_trees env us))
    free_claim env (holds t) =
        free_cases (term_cases m env t |> λ u. leaf (Eq u true_term))
        (free_then Free FreeFormula (λ u. leaf (Eq u true_term)) (λ u h. free_eq u true_term h free_true) (term_cases m env t) (free_tree env t))
    free_claim env (negation a) = free_not (formula_in m env a) (free_claim env a)
    free_claim env (conjunction a b) = free_both And of_and (formula_in m env a) (formula_in m env b) (free_claim env a) (free_claim env b)
    free_claim env (disjunction a b) = free_both Or of_or (formula_in m env a) (formula_in m env b) (free_claim env a) (free_claim env b)
    free_claim env (exclusion a b) = free_both Xor of_xor (formula_in m env a) (formula_in m env b) (free_claim env a) (free_claim env b)
    free_claim env (equivalence a b) = free_both Iff of_iff (formula_in m env a) (formula_in m env b) (free_claim env a) (free_claim env b)
    free_claim env (implication a b) = free_both Or of_or (Not (formula_in m env a)) (formula_in m env b) (free_not (formula_in m env a) (free_claim env a)) (free_claim env b)
    free_claim env (conditional c a b) = free_either (formula_in m env c) (formula_in m env a) (formula_in m env b) (free_claim env c) (free_claim env a) (free_claim env b)
    free_claim env (quantified q xs ss ps f) =
        free_over q (map (put m) ss) (triggers_in m (reverse xs ++ env) ps) (formula_in m (reverse xs ++ env) f) (free_triggers (reverse xs ++ env) ps) (free_claim (reverse xs ++ env) f)

-- ---- sorts changed
module _ (r : Sort → Sort) where
  FreeChanged : Term → Type 0
  FreeChanged t = Free t → Free (with_sorts_term r t)

  list_changed : (us : List Term) → AllByRecursion FreeChanged us → AllByRecursion Free us → AllByRecursion Free (map (with_sorts_term r) us)
  unfolding FreeChanged
  list_changed [] c a = tt
  list_changed (u ∷ us) c a = (c.0 a.0, list_changed us c.1 a.1)

  term_free : (t : Term) → Free t → Free (with_sorts_term r t)
  unfolding FreeChanged
  term_free =
      by_terms FreeChanged (λ i h. ap constants (with_bound r i) ∙ of_bound i) (λ a b k h. ap constants (with_num r a b k) ∙ of_num a b k)
      (λ n s h. absurd (let z : Fresh n s ∷ [] ≡ [] = sym (of_fresh n s) ∙ h in let x : ⊥ = cc z in x))
      (λ h ss us c e. ap constants (with_apply r h ss us) ∙ free_apply h (map r ss) (map (with_sorts_term r) us) (list_changed us c (list_free us (sym (of_apply h ss us) ∙ e))))

  terms_free : (us : List Term) → flat_map constants us ≡ [] → flat_map constants (map (with_sorts_term r) us) ≡ []
  terms_free [] e = refl
  terms_free (u ∷ us) e =
      let p = empty_parts (constants u) (flat_map constants us) e in
      both_empty (constants (with_sorts_term r u)) (flat_map constants (map (with_sorts_term r) us)) (term_free u p.0) (terms_free us p.1)

  triggers_free : (ts : List (List Term)) → flat_map (flat_map constants) ts ≡ [] → flat_map (flat_map constants) (map (map (with_sorts_term r)) ts) ≡ []
  triggers_free [] e = refl
  triggers_free (us ∷ ts) e =
      let p = empty_parts (flat_map constants us) (flat_map (flat_map constants) ts) e in
      both_empty (flat_map constants (map (with_sorts_term r) us)) (flat_map (flat_map constants) (map (map (with_sorts_term r)) ts)) (terms_free us p.0) (triggers_free ts p.1)

  FormulaFree : Formula → Type 0
  FormulaFree f = FreeFormula f → FreeFormula (with_sorts r f)

  BlockFree : Quant → Type 0
  BlockFree q = block_constants q ≡ [] → block_constants (with_sorts_block r q) ≡ []

  pair_free : (C : Term → Term → Formula) → ((a b : Term) → formula_constants (C a b) ≡ constants a ++ constants b) → ((a b : Term) → with_sorts r (C a b) ≡ C (with_sorts_term r a) (with_sorts_term r b))
      → (a b : Term) → FormulaFree (C a b)
  unfolding FormulaFree
  pair_free C rule with a b h =
      let p = empty_parts (constants a) (constants b) (sym (rule a b) ∙ h) in
      ap formula_constants (with a b) ∙ rule (with_sorts_term r a) (with_sorts_term r b)
      ∙ both_empty (constants (with_sorts_term r a)) (constants (with_sorts_term r b)) (term_free a p.0) (term_free b p.1)

  two_free : (C : Formula → Formula → Formula) → ((a b : Formula) → formula_constants (C a b) ≡ formula_constants a ++ formula_constants b) → ((a b : Formula) → with_sorts r (C a b) ≡ C (with_sorts r a) (with_sorts r b))
      → (a b : Formula) → FormulaFree a → FormulaFree b → FormulaFree (C a b)
  unfolding FormulaFree
  two_free C rule with a b x y h =
      let p = empty_parts (formula_constants a) (formula_constants b) (sym (rule a b) ∙ h) in
      ap formula_constants (with a b) ∙ rule (with_sorts r a) (with_sorts r b) ∙ both_empty (formula_constants (with_sorts r a)) (formula_constants (with_sorts r b)) (x p.0) (y p.1)

  pub changed_free : (f : Formula) → FreeFormula f → FreeFormula (with_sorts r f)
  unfolding FormulaFree BlockFree
  changed_free =
      by_formulas FormulaFree BlockFree (λ h. ap formula_constants (with_true r) ∙ of_true) (λ h. ap formula_constants (with_false r) ∙ of_false)
      (pair_free Eq of_eq (with_eq r)) (pair_free Lt of_lt (with_lt r)) (pair_free Le of_le (with_le r))
      (λ p ss us h. ap formula_constants (with_pred r p ss us) ∙ of_pred p (map r ss) (map (with_sorts_term r) us) ∙ terms_free us (sym (of_pred p ss us) ∙ h))
      (λ a x h. ap formula_constants (with_not r a) ∙ free_not (with_sorts r a) (x (sym (of_not a) ∙ h)))
      (two_free And of_and (with_and r)) (two_free Or of_or (with_or r)) (two_free Xor of_xor (with_xor r)) (two_free Iff of_iff (with_iff r))
      (λ q x h. ap formula_constants (with_all r q) ∙ of_all (with_sorts_block r q) ∙ x (sym (of_all q) ∙ h))
      (λ q x h. ap formula_constants (with_ex r q) ∙ of_ex (with_sorts_block r q) ∙ x (sym (of_ex q) ∙ h))
      (λ q x h. let p = empty_parts (flat_map (flat_map constants) q.triggers) (formula_constants q.body) h in
      ap block_constants (with_block r q)
      ∙ both_empty (flat_map (flat_map constants) (map (map (with_sorts_term r)) q.triggers)) (formula_constants (with_sorts r q.body)) (triggers_free q.triggers p.0) (x p.1))
