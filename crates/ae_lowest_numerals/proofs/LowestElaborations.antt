-- A typed tree whose numerals are in lowest terms is elaborated to such a formula.
use Rattle.std.specs.Prelude.{ℕ, zero, suc, Bool, true, false, ◌≡◌, nat_eq, List, [], ◌∷◌, ◌++◌, map, reverse, Option, Some, None}
use Rattle.std.specs.List.{AllByRecursion}
use Rattle.std.proofs.Common.{refl, sym, ap, subst, ◌∙◌}
use Rattle.std.proofs.lemmas.Option.{none-some, same_Some}
use Rattle.ae_base.proofs.AllOf.{all_append}
use Rattle.ae_core.specs.declared.terms.Sort.{Sort, out-Sort}
use Rattle.ae_core.specs.declared.terms.Head.TheVariants as head
use Rattle.ae_core.specs.declared.terms.Term.{Term, Apply}
use Rattle.ae_core.specs.declared.formulas.Formula.{Formula, Eq, Pred, Not, And, Or, All, Ex, out-Formula, roll-Formula, roll-out-Formula}
use Rattle.ae_core.specs.declared.formulas.Formula.TheOpen as formula_layer
use Rattle.ae_core.specs.declared.formulas.Formula.TheVariants.{rolls-All, rolls-Ex}
use Rattle.ae_core.specs.declared.formulas.Quant.{Quant}
use Rattle.ae_types.specs.Substitutions.{put}
use Rattle.ae_syntax.specs.declared.exprs.Quantifier.{Quantifier}
use Rattle.ae_syntax.specs.declared.exprs.Quantifier.TheVariants as quantifier
use Rattle.ae_elab.specs.Trees.{Tree, Trees, Patterns, Claim, Relation, equal, unequal, less, at_most, greater, at_least, none, more, no_pattern}
use Rattle.ae_elab.specs.Trees.{and_pattern, variable, numeral, apply, operation, build, update, choice, truth, falsity, relation, predicate}
use Rattle.ae_elab.specs.Trees.{distinct, holds, negation, conjunction, disjunction, exclusion, equivalence, implication, conditional, quantified}
use Rattle.ae_elab.specs.Elaboration.{Cases, leaf, branch, ◌|>◌, value_of, either_way, formula_of, distance, related, true_term, differs_from}
use Rattle.ae_elab.specs.Elaboration.{differences, all_after, all_true, head_on, value_at, field_term, fields_from, record_of, block, merged_quant}
use Rattle.ae_elab.specs.Elaboration.{all_over, some_over, over, term_cases, terms_cases, triggers_in, formula_in}
use Rattle.ae_lawful_problems.proofs.MergedBlocks.{all_over_by, some_over_by}
use Rattle.ae_lowest_numerals.proofs.LowestTrees.{LowestTree, LowestTrees, LowestPatterns, LowestClaim}
use Rattle.ae_lowest_numerals.proofs.Values.{LowestTerm, LowestFormula, LowestLists, lowest_bound, lowest_num, lowest_apply, lowest_true}
use Rattle.ae_lowest_numerals.proofs.Values.{lowest_false, lowest_eq, lowest_lt, lowest_le, lowest_pred, lowest_not, lowest_and, lowest_or}
use Rattle.ae_lowest_numerals.proofs.Values.{lowest_xor, lowest_iff, lowest_block, lowest_all, lowest_ex, from_all, from_ex}

abbrev LowestTerms : List Term → Type 0
LowestTerms = AllByRecursion LowestTerm

-- ---- under each condition
abbrev Each : {A : Type 0} → (A → Type 0) → Cases A → Type 0
Each Q (leaf x) = Q x
Each Q (branch c a b) = LowestFormula c × Each Q a × Each Q b

each_then : {A B : Type 0} (Q : A → Type 0) (R : B → Type 0) (f : A → Cases B) → ((x : A) → Q x → Each R (f x)) → (c : Cases A) → Each Q c → Each R (c |> f)
each_then Q R f k (leaf x) h = k x h
each_then Q R f k (branch c a b) h = (h.0, each_then Q R f k a h.1, each_then Q R f k b h.2)

each_value : {A : Type 0} (Q : A → Type 0) (c : Cases A) → Each Q c → Q (value_of c)
each_value Q (leaf x) h = h
each_value Q (branch c a b) h = each_value Q b h.2

lowest_either : (c a b : Formula) → LowestFormula c → LowestFormula a → LowestFormula b → LowestFormula (either_way c a b)
lowest_either c a b h i j = lowest_and (Or (Not c) a) (Or c b) (lowest_or (Not c) a (lowest_not c h) i) (lowest_or c b h j)

lowest_cases : (c : Cases Formula) → Each LowestFormula c → LowestFormula (formula_of c)
lowest_cases (leaf f) h = h
lowest_cases (branch c a b) h = lowest_either c (formula_of a) (formula_of b) h.0 (lowest_cases a h.1) (lowest_cases b h.2)

-- ---- atoms
lowest_related : (x : Relation) (a b : Term) → LowestTerm a → LowestTerm b → LowestFormula (related x a b)
lowest_related equal a b h k = lowest_eq a b h k
lowest_related unequal a b h k = lowest_not (Eq a b) (lowest_eq a b h k)
lowest_related less a b h k = lowest_lt a b h k
lowest_related at_most a b h k = lowest_le a b h k
lowest_related greater a b h k = lowest_lt b a k h
lowest_related at_least a b h k = lowest_le b a k h

lowest_truth : LowestTerm true_term
lowest_truth = lowest_apply head.True [] [] tt

lowest_after : (f : Formula) (gs : List Formula) → LowestFormula f → AllByRecursion LowestFormula gs → LowestFormula (all_after f gs)
lowest_after f [] h a = h
lowest_after f (g ∷ gs) h a = lowest_after (And f g) gs (lowest_and f g h a.0) a.1

lowest_every : (fs : List Formula) → AllByRecursion LowestFormula fs → LowestFormula (all_true fs)
lowest_every [] a = lowest_true
lowest_every (f ∷ fs) a = lowest_after f fs a.0 a.1

lowest_differs : (t : Term) (us : List Term) → LowestTerm t → LowestTerms us → AllByRecursion LowestFormula (differs_from t us)
lowest_differs t [] h a = tt
lowest_differs t (u ∷ us) h a = (lowest_not (Eq t u) (lowest_eq t u h a.0), lowest_differs t us h a.1)

lowest_differences : (us : List Term) → LowestTerms us → AllByRecursion LowestFormula (differences us)
lowest_differences [] a = tt
lowest_differences (u ∷ us) a = all_append LowestFormula (differs_from u us) (differences us) (lowest_differs u us a.0 a.1) (lowest_differences us a.1)

-- ---- records
chosen_value : (b : Bool) (v : Term) (o : Option Term) (u : Term) → LowestTerm v → (o ≡ Some u → LowestTerm u) → elim b [ true ↦ Some v | false ↦ o ] ≡ Some u → LowestTerm u
chosen_value true v o u h k e = subst LowestTerm (same_Some v u e) h
chosen_value false v o u h k e = k e

written_value : (place : ℕ) (ps : List ℕ) (us : List Term) (u : Term) → LowestTerms us → value_at place ps us ≡ Some u → LowestTerm u
written_value place [] us u a e = absurd (none-some u e)
written_value place (p ∷ ps) [] u a e = absurd (none-some u e)
written_value place (p ∷ ps) (v ∷ us) u a e = chosen_value (nat_eq place p) v (value_at place ps us) u a.0 (λ i. written_value place ps us u a.1 i) e

lowest_field : (of : ℕ) (ss : List Sort) (base : Term) (place : ℕ) (o : Option Term) → LowestTerm base → ((u : Term) → o ≡ Some u → LowestTerm u) → LowestTerm (field_term of ss base place o)
lowest_field of ss base place (Some u) b h = h u refl
lowest_field of ss base place None b h = lowest_apply (head.Field of place) ss (base ∷ []) (b, tt)

lowest_fields : (n place of : ℕ) (ss : List Sort) (base : Term) (ps : List ℕ) (us : List Term) → LowestTerm base → LowestTerms us → LowestTerms (fields_from n place of ss base ps us)
lowest_fields zero place of ss base ps us b a = tt
lowest_fields (suc n) place of ss base ps us b a =
    (lowest_field of ss base place (value_at place ps us) b (λ u e. written_value place ps us u a e), lowest_fields n (suc place) of ss base ps us b a)

lowest_record : (of : ℕ) (ss : List Sort) (n : ℕ) (base : Term) (ps : List ℕ) (us : List Term) → LowestTerm base → LowestTerms us → LowestTerm (record_of of ss n base ps us)
lowest_record of ss n base ps us b a = lowest_apply (head.Build of) ss (fields_from n 0 of ss base ps us) (lowest_fields n 0 of ss base ps us b a)

-- ---- blocks
module _ (ss : List Sort) (f : Formula) (h : LowestFormula f) where
  merged_all : (q : Quant) → out-Formula f ≡ formula_layer.All q → LowestFormula (All (merged_quant ss q))
  merged_all q e =
      let is : f ≡ All q = sym (roll-out-Formula f) ∙ ap roll-Formula e ∙ rolls-All q in
      lowest_all (merged_quant ss q) (from_all q (subst LowestFormula is h))

  merged_some : (q : Quant) → out-Formula f ≡ formula_layer.Ex q → LowestFormula (Ex (merged_quant ss q))
  merged_some q e =
      let is : f ≡ Ex q = sym (roll-out-Formula f) ∙ ap roll-Formula e ∙ rolls-Ex q in
      lowest_ex (merged_quant ss q) (from_ex q (subst LowestFormula is h))

  lowest_all_over : LowestFormula (all_over ss f (out-Formula f))
  lowest_all_over = all_over_by LowestFormula ss f (lowest_all (block ss [] f) (lowest_block (block ss [] f) tt h)) merged_all

  lowest_some_over : LowestFormula (some_over ss f (out-Formula f))
  lowest_some_over = some_over_by LowestFormula ss f (lowest_ex (block ss [] f) (lowest_block (block ss [] f) tt h)) merged_some

lowest_over : (q : Quantifier) (ss : List Sort) (ts : List (List Term)) (f : Formula) → LowestLists ts → LowestFormula f → LowestFormula (over q ss ts f)
lowest_over quantifier.Forall ss [] f a h = lowest_all_over ss f h
lowest_over quantifier.Exists ss [] f a h = lowest_some_over ss f h
lowest_over quantifier.Forall ss (t ∷ ts) f a h = lowest_all (block ss (t ∷ ts) f) (lowest_block (block ss (t ∷ ts) f) a h)
lowest_over quantifier.Exists ss (t ∷ ts) f a h = lowest_ex (block ss (t ∷ ts) f) (lowest_block (block ss (t ∷ ts) f) a h)

-- ---- all of a tree
module _ (m : ℕ → Sort) where
  mutual
    tree_values : (env : List ℕ) (t : Tree) → LowestTree t → Each LowestTerm (term_cases m env t)
    tree_values env (variable x) l = lowest_bound (distance env x)
    tree_values env (numeral a b r) l = lowest_num a b r l
    tree_values env (apply h ss us) l =
        each_then LowestTerms LowestTerm (λ vs. leaf (Apply h (map (put m) ss) vs)) (λ vs a. lowest_apply h (map (put m) ss) vs a) (terms_cases m env us) (list_values env us l)
    tree_values env (operation o s us) l =
        each_then LowestTerms LowestTerm (λ vs. leaf (Apply (head_on o (out-Sort (put m s))) [] vs)) (λ vs a. lowest_apply (head_on o (out-Sort (put m s))) [] vs a)
        (terms_cases m env us) (list_values env us l)
    tree_values env (build of ss n ps us) l =
        each_then LowestTerms LowestTerm (λ vs. leaf (record_of of (map (put m) ss) n true_term ps vs))
        (λ vs a. lowest_record of (map (put m) ss) n true_term ps vs lowest_truth a) (terms_cases m env us) (list_values env us l)
    tree_values env (update of ss n b ps us) l =
        each_then LowestTerm LowestTerm (λ v. terms_cases m env us |> λ vs. leaf (record_of of (map (put m) ss) n v ps vs))
        (λ v h. each_then LowestTerms LowestTerm (λ vs. leaf (record_of of (map (put m) ss) n v ps vs)) (λ vs a. lowest_record of (map (put m) ss) n v ps vs h a)
        (terms_cases m env us) (list_values env us l.1)) (term_cases m env b) (tree_values env b l.0)
    tree_values env (choice c a b) l = (claim_values env c l.0, tree_values env a l.1, tree_values env b l.2)

    list_values : (env : List ℕ) (us : Trees) → LowestTrees us → Each LowestTerms (terms_cases m env us)
    list_values env none l = tt
    list_values env (more u us) l =
        each_then LowestTerm LowestTerms (λ v. terms_cases m env us |> λ vs. leaf (v ∷ vs))
        (λ v h. each_then LowestTerms LowestTerms (λ vs. leaf (v ∷ vs)) (λ vs a. (h, a)) (terms_cases m env us) (list_values env us l.1)) (term_cases m env u) (tree_values env u l.0)

    trigger_values : (env : List ℕ) (ps : Patterns) → LowestPatterns ps → LowestLists (triggers_in m env ps)
    trigger_values env no_pattern l = tt
    trigger_values env (and_pattern place us ps) l = (each_value LowestTerms (terms_cases m env us) (list_values env us l.0), trigger_values env ps l.1)

    pub claim_values : (env : List ℕ) (c : Claim) → LowestClaim c → LowestFormula (formula_in m env c)
    claim_values env truth l = lowest_true
    claim_values env falsity l = lowest_false
    claim_values env (relation x a b) l =
        lowest_cases (term_cases m env a |> λ u. term_cases m env b |> λ v. leaf (related x u v))
        (each_then LowestTerm LowestFormula (λ u. term_cases m env b |> λ v. leaf (related x u v))
        (λ u h. each_then LowestTerm LowestFormula (λ v. leaf (related x u v)) (λ v k. lowest_related x u v h k) (term_cases m env b) (tree_values env b l.1))
        (term_cases m env a) (tree_values env a l.0))
    claim_values env (predicate k ss us) l =
        lowest_cases (terms_cases m env us |> λ vs. leaf (Pred k (map (put m) ss) vs))
        (each_then LowestTerms LowestFormula (λ vs. leaf (Pred k (map (put m) ss) vs)) (λ vs a. lowest_pred k (map (put m) ss) vs a) (terms_cases m env us) (list_values env us l))
    claim_values env (distinct us) l =
        lowest_cases (terms_cases m env us |> λ vs. leaf (all_true (differences vs)))
        (each_then LowestTerms LowestFormula (λ vs. leaf (all_true (differences vs))) (λ vs a. lowest_every (differences vs) (lowest_differences vs a))
        (terms_cases m env us) (list_values env us l))
    claim_values env (holds t) l =
        lowest_cases (term_cases m env t |> λ u. leaf (Eq u true_term))
        (each_then LowestTerm LowestFormula (λ u. leaf (Eq u true_term)) (λ u h. lowest_eq u true_term h lowest_truth) (term_cases m env t) (tree_values env t l))
    claim_values env (negation a) l = lowest_not (formula_in m env a) (claim_values env a l)
    claim_values env (conjunction a b) l = lowest_and (formula_in m env a) (formula_in m env b) (claim_values env a l.0) (claim_values env b l.1)
    claim_values env (disjunction a b) l = lowest_or (formula_in m env a) (formula_in m env b) (claim_values env a l.0) (claim_values env b l.1)
    claim_values env (exclusion a b) l = lowest_xor (formula_in m env a) (formula_in m env b) (claim_values env a l.0) (claim_values env b l.1)
    claim_values env (equivalence a b) l = lowest_iff (formula_in m env a) (formula_in m env b) (claim_values env a l.0) (claim_values env b l.1)
    claim_values env (implication a b) l =
        lowest_or (Not (formula_in m env a)) (formula_in m env b) (lowest_not (formula_in m env a) (claim_values env a l.0)) (claim_values env b l.1)
    claim_values env (conditional c a b) l =
        lowest_either (formula_in m env c) (formula_in m env a) (formula_in m env b) (claim_values env c l.0) (claim_values env a l.1) (claim_values env b l.2)
    claim_values env (quantified q xs ss ps f) l =
        lowest_over q (map (put m) ss) (triggers_in m (reverse xs ++ env) ps) (formula_in m (reverse xs ++ env) f) (trigger_values (reverse xs ++ env) ps l.0)
        (claim_values (reverse xs ++ env) f l.1)
