-- Triggers of an elaborated formula may stand: each has all variables of its block, and its terms are applications.
use Rattle.std.proofs.Common.{arith, ◌≡◌, ◌∙◌, ◌+◌, ℕ, Bool, true, false, nat_eq, List, [], ◌∷◌, ◌++◌, map, reverse, length, refl, sym, ap}
use Rattle.std.proofs.Common.{subst, Some, None, append_assoc}
use Rattle.std.specs.List.{AllByRecursion, IsDistinct}
use Rattle.std.proofs.lemmas.List.{length-map, length-append, reverse-append}
use Rattle.ae_base.proofs.AllOf.{all_append, all_front, all_weaker}
use Rattle.ae_base.proofs.Tests.{true_false}
use Rattle.ae_core.specs.Signatures.{IsTrigger}
use Rattle.ae_core.specs.declared.terms.Sort.{Sort, out-Sort}
use Rattle.ae_core.specs.declared.terms.Term.{Term, Apply}
use Rattle.ae_core.specs.declared.formulas.Formula.{Formula, Formula-F, True, False, Eq, Lt, Le, Pred, Not, And, Or, Xor, Iff, All, Ex}
use Rattle.ae_core.specs.declared.formulas.Formula.{out-Formula, roll-Formula, roll-out-Formula}
use Rattle.ae_core.specs.declared.formulas.Formula.TheOpen as layer
use Rattle.ae_core.specs.declared.formulas.Formula.TheVariants.{rolls-All, rolls-Ex, outs-True, outs-False, outs-Eq, outs-Lt, outs-Le, outs-Pred}
use Rattle.ae_core.specs.declared.formulas.Formula.TheVariants.{outs-Not}
use Rattle.ae_core.specs.declared.formulas.Formula.TheVariants.{outs-And, outs-Or, outs-Xor, outs-Iff, outs-All, outs-Ex}
use Rattle.ae_core.specs.declared.formulas.Quant.{Quant}
use Rattle.ae_types.specs.Substitutions.{put}
use Rattle.ae_syntax.specs.declared.exprs.Quantifier.{Quantifier}
use Rattle.ae_syntax.specs.declared.exprs.Quantifier.TheVariants as quantifier
use Rattle.ae_elab.specs.Trees.{Tree, Trees, Patterns, Claim, Relation, equal, unequal, less, at_most, greater, at_least, none, more, no_pattern}
use Rattle.ae_elab.specs.Trees.{and_pattern}
use Rattle.ae_elab.specs.Trees.{variable, numeral, apply, operation, build, update, choice, truth, falsity, relation, predicate, distinct, holds}
use Rattle.ae_elab.specs.Trees.{negation}
use Rattle.ae_elab.specs.Trees.{conjunction, disjunction, exclusion, equivalence, implication, conditional, quantified}
use Rattle.ae_elab.specs.Rules.{Around}
use Rattle.ae_elab.specs.Formulas.{same_quantifier, merged_with}
use Rattle.ae_elab.specs.Elaboration.{Cases, leaf, branch, ◌|>◌, value_of, either_way, formula_of, related, true_term, differs_from, differences}
use Rattle.ae_elab.specs.Elaboration.{all_after}
use Rattle.ae_elab.specs.Elaboration.{all_true, head_on, record_of, block, merged_quant, over, term_cases, terms_cases, triggers_in, formula_in}
use Rattle.ae_lawful_problems.proofs.CoveredTrees.{bound_in, CoveredTerm, CoveredTerms, CoveredTriggers, Covered, IsAlone}
use Rattle.ae_lawful_problems.proofs.FormulaTriggers.{MayStand, true_stands, false_stands, eq_stands, lt_stands, le_stands, pred_stands, not_stands}
use Rattle.ae_lawful_problems.proofs.FormulaTriggers.{and_stands}
use Rattle.ae_lawful_problems.proofs.FormulaTriggers.{or_stands, xor_stands, iff_stands, either_stands, all_stands, ex_stands, body_of_all}
use Rattle.ae_lawful_problems.proofs.FormulaTriggers.{body_of_ex}
use Rattle.ae_lawful_problems.proofs.MergedBlocks.{all_over_by, some_over_by}
use Rattle.ae_lawful_problems.proofs.VariableTerms.{trigger_may_stand}

-- ---- formulas that are no blocks
abbrev is_block : Formula-F Formula Quant → Bool
is_block (layer.All q) = true
is_block (layer.Ex q) = true
is_block _ = false

record Plain (f : Formula) : Type 0 where
  stands : MayStand f
  no_block : is_block (out-Formula f) ≡ false

plain_not : (a : Formula) → MayStand a → Plain (Not a)
plain_not a h = record { stands = not_stands a h; no_block = ap is_block (outs-Not a) }

plain_and : (a b : Formula) → MayStand a → MayStand b → Plain (And a b)
plain_and a b h k = record { stands = and_stands a b h k; no_block = ap is_block (outs-And a b) }

plain_or : (a b : Formula) → MayStand a → MayStand b → Plain (Or a b)
plain_or a b h k = record { stands = or_stands a b h k; no_block = ap is_block (outs-Or a b) }

plain_either : (c a b : Formula) → MayStand c → MayStand a → MayStand b → Plain (either_way c a b)
plain_either c a b h i j = record { stands = either_stands c a b h i j; no_block = ap is_block (outs-And (Or (Not c) a) (Or c b)) }

plain_eq : (s t : Term) → Plain (Eq s t)
plain_eq s t = record { stands = eq_stands s t; no_block = ap is_block (outs-Eq s t) }

plain_lt : (s t : Term) → Plain (Lt s t)
plain_lt s t = record { stands = lt_stands s t; no_block = ap is_block (outs-Lt s t) }

plain_le : (s t : Term) → Plain (Le s t)
plain_le s t = record { stands = le_stands s t; no_block = ap is_block (outs-Le s t) }

plain_related : (r : Relation) (s t : Term) → Plain (related r s t)
plain_related equal s t = plain_eq s t
plain_related unequal s t = plain_not (Eq s t) (eq_stands s t)
plain_related less s t = plain_lt s t
plain_related at_most s t = plain_le s t
plain_related greater s t = plain_lt t s
plain_related at_least s t = plain_le t s

-- `distinct`
plain_after : (f : Formula) (gs : List Formula) → Plain f → AllByRecursion Plain gs → Plain (all_after f gs)
plain_after f [] h a = h
plain_after f (g ∷ gs) h a = plain_after (And f g) gs (plain_and f g h.stands a.0.stands) a.1

plain_all : (fs : List Formula) → AllByRecursion Plain fs → Plain (all_true fs)
plain_all [] a = record { stands = true_stands; no_block = ap is_block outs-True }
plain_all (f ∷ fs) a = plain_after f fs a.0 a.1

plain_differs : (t : Term) (us : List Term) → AllByRecursion Plain (differs_from t us)
plain_differs t [] = tt
plain_differs t (u ∷ us) = (plain_not (Eq t u) (eq_stands t u), plain_differs t us)

plain_differences : (us : List Term) → AllByRecursion Plain (differences us)
plain_differences [] = tt
plain_differences (u ∷ us) = all_append Plain (differs_from u us) (differences us) (plain_differs u us) (plain_differences us)

-- ---- values under conditions
abbrev EachStands : {A : Type 0} → (A → Type 0) → Cases A → Type 0
EachStands Q (leaf x) = Q x
EachStands Q (branch c a b) = MayStand c × EachStands Q a × EachStands Q b

-- of values nothing is said
abbrev Tested : {A : Type 0} → Cases A → Type 0
Tested c = EachStands (λ x. Unit {0}) c

stands_then : {A B : Type 0} (R : B → Type 0) (f : A → Cases B) → ((x : A) → EachStands R (f x)) → (c : Cases A) → Tested c → EachStands R (c |> f)
stands_then R f k (leaf x) h = k x
stands_then R f k (branch c a b) h = (h.0, stands_then R f k a h.1, stands_then R f k b h.2)

tested_then : {A B : Type 0} (f : A → Cases B) → ((x : A) → Tested (f x)) → (c : Cases A) → Tested c → Tested (c |> f)
tested_then f k c h = stands_then (λ x. Unit {0}) f k c h

plain_cases : (c : Cases Formula) → EachStands Plain c → Plain (formula_of c)
plain_cases (leaf f) h = h
plain_cases (branch c a b) h = plain_either c (formula_of a) (formula_of b) h.0 (plain_cases a h.1).stands (plain_cases b h.2).stands

-- ---- a formula in a block with so many variables, which a block of the same quantifier is merged with
abbrev MergesAs : Quantifier → ℕ → Formula → Type 0
MergesAs quantifier.Forall k f = (b : Quant) → out-Formula f ≡ layer.All b → AllByRecursion (IsTrigger (k + length b.sorts)) b.triggers
MergesAs quantifier.Exists k f = (b : Quant) → out-Formula f ≡ layer.Ex b → AllByRecursion (IsTrigger (k + length b.sorts)) b.triggers

abbrev Merges : Around → Formula → Type 0
Merges None f = Unit {0}
Merges (Some a) f = MergesAs a.0 (length a.1) f

record StandsIn (around : Around) (f : Formula) : Type 0 where
  stands : MayStand f
  merges : Merges around f

plain_merges : (q : Quantifier) (k : ℕ) (f : Formula) → is_block (out-Formula f) ≡ false → MergesAs q k f
plain_merges quantifier.Forall k f h = λ b e. true_false (sym (ap is_block e) ∙ h)
plain_merges quantifier.Exists k f h = λ b e. true_false (sym (ap is_block e) ∙ h)

plain_in : (around : Around) (f : Formula) → Plain f → StandsIn around f
plain_in None f h = record { stands = h.stands; merges = tt }
plain_in (Some a) f h = record { stands = h.stands; merges = plain_merges a.0 (length a.1) f h.no_block }

fewer_variables : (k n : ℕ) (ts : List Term) → IsTrigger (k + n) ts → IsTrigger n ts
fewer_variables k n ts h = (h.0, λ i l. h.1 i (omega (arith, l)))

-- the block of a formula
abbrev block_in : Quant → Formula-F Formula Quant → Quant
block_in d (layer.All q) = q
block_in d (layer.Ex q) = q
block_in d _ = d

abbrev is_forall : Formula-F Formula Quant → Bool
is_forall (layer.All q) = true
is_forall _ = false

module _ (q : Quant) where
  abbrev AllTriggers : ℕ → Type 0
  AllTriggers n = AllByRecursion (IsTrigger n) q.triggers

  merges_forall : (r : Quantifier) (xs : List ℕ) → AllTriggers (length (merged_with quantifier.Forall (Some (r, xs))) + length q.sorts) → MergesAs r (length xs) (All q)
  merges_forall quantifier.Forall xs a =
      λ b e. subst (λ (z : Quant). AllByRecursion (IsTrigger (length xs + length z.sorts)) z.triggers) (ap (block_in q) (sym (outs-All q) ∙ e)) a
  merges_forall quantifier.Exists xs a = λ b e. true_false (ap is_forall (sym (outs-All q) ∙ e))

  merges_exists : (r : Quantifier) (xs : List ℕ) → AllTriggers (length (merged_with quantifier.Exists (Some (r, xs))) + length q.sorts) → MergesAs r (length xs) (Ex q)
  merges_exists quantifier.Exists xs a =
      λ b e. subst (λ (z : Quant). AllByRecursion (IsTrigger (length xs + length z.sorts)) z.triggers) (ap (block_in q) (sym (outs-Ex q) ∙ e)) a
  merges_exists quantifier.Forall xs a = λ b e. true_false (sym (ap is_forall (sym (outs-Ex q) ∙ e)))

  merges_all : (around : Around) → AllTriggers (length (merged_with quantifier.Forall around) + length q.sorts) → Merges around (All q)
  merges_all None a = tt
  merges_all (Some x) a = merges_forall x.0 x.1 a

  merges_ex : (around : Around) → AllTriggers (length (merged_with quantifier.Exists around) + length q.sorts) → Merges around (Ex q)
  merges_ex None a = tt
  merges_ex (Some x) a = merges_exists x.0 x.1 a

  own_triggers : (k : ℕ) → AllTriggers (k + length q.sorts) → AllTriggers (length q.sorts)
  own_triggers k a = all_weaker (IsTrigger (k + length q.sorts)) (IsTrigger (length q.sorts)) (λ ts h. fewer_variables k (length q.sorts) ts h) q.triggers a

  all_in : (around : Around) → AllTriggers (length (merged_with quantifier.Forall around) + length q.sorts) → MayStand q.body → StandsIn around (All q)
  all_in around a h = record { stands = all_stands q (own_triggers (length (merged_with quantifier.Forall around)) a) h; merges = merges_all around a }

  ex_in : (around : Around) → AllTriggers (length (merged_with quantifier.Exists around) + length q.sorts) → MayStand q.body → StandsIn around (Ex q)
  ex_in around a h = record { stands = ex_stands q (own_triggers (length (merged_with quantifier.Exists around)) a) h; merges = merges_ex around a }

-- ---- blocks over formulas
more_variables : (n k : ℕ) (ss : List Sort) (b : Quant) → n ≡ k + length ss → AllByRecursion (IsTrigger (n + length b.sorts)) b.triggers
    → AllByRecursion (IsTrigger (k + length (ss ++ b.sorts))) b.triggers
more_variables n k ss b e a =
    subst (λ (z : ℕ). AllByRecursion (IsTrigger z) b.triggers) (let l = length-append ss b.sorts in let z : n + length b.sorts ≡ k + length (ss ++ b.sorts) = omega (arith, e, l) in z) a

module _ (around : Around) (ss : List Sort) (f : Formula) (h : MayStand f) where
  all_over_in : (n : ℕ) → n ≡ length (merged_with quantifier.Forall around) + length ss → MergesAs quantifier.Forall n f → StandsIn around (over quantifier.Forall ss [] f)
  all_over_in n e k =
      all_over_by (StandsIn around) ss f (all_in (block ss [] f) around tt h)
      (λ b o. all_in (merged_quant ss b) around (more_variables n (length (merged_with quantifier.Forall around)) ss b e (k b o))
      (body_of_all b (subst MayStand (sym (roll-out-Formula f) ∙ ap roll-Formula o ∙ rolls-All b) h)))

  some_over_in : (n : ℕ) → n ≡ length (merged_with quantifier.Exists around) + length ss → MergesAs quantifier.Exists n f → StandsIn around (over quantifier.Exists ss [] f)
  some_over_in n e k =
      some_over_by (StandsIn around) ss f (ex_in (block ss [] f) around tt h)
      (λ b o. ex_in (merged_quant ss b) around (more_variables n (length (merged_with quantifier.Exists around)) ss b e (k b o))
      (body_of_ex b (subst MayStand (sym (roll-out-Formula f) ∙ ap roll-Formula o ∙ rolls-Ex b) h)))

  over_in : (q : Quantifier) (n : ℕ) → n ≡ length (merged_with q around) + length ss → MergesAs q n f → StandsIn around (over q ss [] f)
  over_in quantifier.Forall n e k = all_over_in n e k
  over_in quantifier.Exists n e k = some_over_in n e k

  over_with : (q : Quantifier) (n : ℕ) (us : List Term) (ts : List (List Term)) → n ≡ length (merged_with q around) + length ss
      → AllByRecursion (IsTrigger n) (us ∷ ts) → StandsIn around (over q ss (us ∷ ts) f)
  over_with quantifier.Forall n us ts e a = all_in (block ss (us ∷ ts) f) around (subst (λ (z : ℕ). AllByRecursion (IsTrigger z) (us ∷ ts)) e a) h
  over_with quantifier.Exists n us ts e a = ex_in (block ss (us ∷ ts) f) around (subst (λ (z : ℕ). AllByRecursion (IsTrigger z) (us ∷ ts)) e a) h

-- ---- the variables around a formula
abbrev variables_of : Around → List ℕ
variables_of None = []
variables_of (Some a) = a.1

distinct_front : (xs ys : List ℕ) → IsDistinct nat_eq (xs ++ ys) → IsDistinct nat_eq xs
unfolding IsDistinct
distinct_front [] ys d = tt
distinct_front (x ∷ xs) ys d = (all_front (λ (y : ℕ). nat_eq x y ≡ false) xs ys d.0, distinct_front xs ys d.1)

distinct_back : (xs ys : List ℕ) → IsDistinct nat_eq (xs ++ ys) → IsDistinct nat_eq ys
unfolding IsDistinct
distinct_back [] ys d = d
distinct_back (x ∷ xs) ys d = distinct_back xs ys d.1

record Inside (xs env merged : List ℕ) : Type 0 where
  rest : List ℕ
  is : reverse xs ++ env ≡ reverse merged ++ rest

inside_as : (b : Bool) (ys xs env rest : List ℕ) → env ≡ reverse ys ++ rest → Inside xs env (elim b [ true ↦ ys | false ↦ [] ] ++ xs)
inside_as true ys xs env rest e = record {
  rest = rest;
  is = ap (λ zs. reverse xs ++ zs) e ∙ sym (append_assoc (reverse xs) (reverse ys) rest) ∙ ap (λ zs. zs ++ rest) (sym (reverse-append ys xs));
}
inside_as false ys xs env rest e = record { rest = env; is = refl }

inside : (q : Quantifier) (around : Around) (xs env rest : List ℕ) → env ≡ reverse (variables_of around) ++ rest → Inside xs env (merged_with q around ++ xs)
inside q None xs env rest e = record { rest = env; is = refl }
inside q (Some a) xs env rest e = inside_as (same_quantifier q a.0) a.1 xs env rest e

distinct_as : (b : Bool) (ys xs zs : List ℕ) → IsDistinct nat_eq (ys ++ (xs ++ zs)) → IsDistinct nat_eq ((elim b [ true ↦ ys | false ↦ [] ] ++ xs) ++ zs)
distinct_as true ys xs zs d = subst (IsDistinct nat_eq) (sym (append_assoc ys xs zs)) d
distinct_as false ys xs zs d = distinct_back ys (xs ++ zs) d

distinct_inside : (q : Quantifier) (around : Around) (xs zs : List ℕ) → IsDistinct nat_eq (variables_of around ++ (xs ++ zs)) → IsDistinct nat_eq ((merged_with q around ++ xs) ++ zs)
distinct_inside q None xs zs d = d
distinct_inside q (Some a) xs zs d = distinct_as (same_quantifier q a.0) a.1 xs zs d

-- ---- elaborated trees
module _ (m : ℕ → Sort) where
  triggers_stand : (xs rest : List ℕ) (ps : Patterns) → IsDistinct nat_eq xs → CoveredTriggers xs ps → AllByRecursion (IsTrigger (length xs)) (triggers_in m (reverse xs ++ rest) ps)
  triggers_stand xs rest no_pattern d h = tt
  triggers_stand xs rest (and_pattern place us ps) d h = (trigger_may_stand m xs rest us d h.0.fine h.0.applied h.0.covers, triggers_stand xs rest ps d h.1)

  -- as many variables as sorts
  size : (q : Quantifier) (around : Around) (xs : List ℕ) (ss : List Sort) → length xs ≡ length ss
      → length (merged_with q around ++ xs) ≡ length (merged_with q around) + length (map (put m) ss)
  size q around xs ss e = length-append (merged_with q around) xs ∙ ap (λ k. length (merged_with q around) + k) (e ∙ sym (length-map ss (put m)))

  mutual
    tree_stands : (env : List ℕ) (t : Tree) → CoveredTerm t → Tested (term_cases m env t)
    tree_stands env (variable x) h = tt
    tree_stands env (numeral a b r) h = tt
    tree_stands env (apply g ss us) h = tested_then (λ vs. leaf (Apply g (map (put m) ss) vs)) (λ vs. tt) (terms_cases m env us) (trees_stand env us h)
    tree_stands env (operation o s us) h =
        tested_then (λ vs. leaf (Apply (head_on o (out-Sort (put m s))) [] vs)) (λ vs. tt) (terms_cases m env us) (trees_stand env us h)
    tree_stands env (build of ss n ps us) h =
        tested_then (λ vs. leaf (record_of of (map (put m) ss) n true_term ps vs)) (λ vs. tt) (terms_cases m env us) (trees_stand env us h.1)
    tree_stands env (update of ss n b ps us) h =
        tested_then (λ v. terms_cases m env us |> λ vs. leaf (record_of of (map (put m) ss) n v ps vs))
        (λ v. tested_then (λ vs. leaf (record_of of (map (put m) ss) n v ps vs)) (λ vs. tt) (terms_cases m env us) (trees_stand env us h.2))
        (term_cases m env b) (tree_stands env b h.1)
    tree_stands env (choice c s t) h = ((claim_stands env env None c h.0.fine h.0.distinct refl).stands, tree_stands env s h.1, tree_stands env t h.2)

    trees_stand : (env : List ℕ) (us : Trees) → CoveredTerms us → Tested (terms_cases m env us)
    trees_stand env none h = tt
    trees_stand env (more u us) h =
        tested_then (λ v. terms_cases m env us |> λ vs. leaf (v ∷ vs))
        (λ v. tested_then (λ vs. leaf (v ∷ vs)) (λ vs. tt) (terms_cases m env us) (trees_stand env us h.1)) (term_cases m env u) (tree_stands env u h.0)

    -- the bound variables are those around the formula, and others
    claim_stands : (env rest : List ℕ) (around : Around) (c : Claim) → Covered around c → IsDistinct nat_eq (variables_of around ++ bound_in c)
        → env ≡ reverse (variables_of around) ++ rest → StandsIn around (formula_in m env c)
    claim_stands env rest around truth h d e = plain_in around True (record { stands = true_stands; no_block = ap is_block outs-True })
    claim_stands env rest around falsity h d e = plain_in around False (record { stands = false_stands; no_block = ap is_block outs-False })
    claim_stands env rest around (relation x s t) h d e =
        plain_in around (formula_of (term_cases m env s |> λ u. term_cases m env t |> λ v. leaf (related x u v)))
        (plain_cases (term_cases m env s |> λ u. term_cases m env t |> λ v. leaf (related x u v))
        (stands_then Plain (λ u. term_cases m env t |> λ v. leaf (related x u v))
        (λ u. stands_then Plain (λ v. leaf (related x u v)) (λ v. plain_related x u v) (term_cases m env t) (tree_stands env t h.1)) (term_cases m env s) (tree_stands env s h.0)))
    claim_stands env rest around (predicate k ss us) h d e =
        plain_in around (formula_of (terms_cases m env us |> λ vs. leaf (Pred k (map (put m) ss) vs)))
        (plain_cases (terms_cases m env us |> λ vs. leaf (Pred k (map (put m) ss) vs))
        (stands_then Plain (λ vs. leaf (Pred k (map (put m) ss) vs))
        (λ vs. record { stands = pred_stands k (map (put m) ss) vs; no_block = ap is_block (outs-Pred k (map (put m) ss) vs) }) (terms_cases m env us) (trees_stand env us h)))
    claim_stands env rest around (distinct us) h d e =
        plain_in around (formula_of (terms_cases m env us |> λ vs. leaf (all_true (differences vs))))
        (plain_cases (terms_cases m env us |> λ vs. leaf (all_true (differences vs)))
        (stands_then Plain (λ vs. leaf (all_true (differences vs))) (λ vs. plain_all (differences vs) (plain_differences vs)) (terms_cases m env us) (trees_stand env us h)))
    claim_stands env rest around (holds t) h d e =
        plain_in around (formula_of (term_cases m env t |> λ u. leaf (Eq u true_term)))
        (plain_cases (term_cases m env t |> λ u. leaf (Eq u true_term))
        (stands_then Plain (λ u. leaf (Eq u true_term)) (λ u. plain_eq u true_term) (term_cases m env t) (tree_stands env t h)))
    claim_stands env rest around (negation a) h d e =
        plain_in around (Not (formula_in m env a)) (plain_not (formula_in m env a) (claim_stands env env None a h.fine h.distinct refl).stands)
    claim_stands env rest around (conjunction a b) h d e =
        let x = claim_stands env env None a h.0.fine h.0.distinct refl in
        let y = claim_stands env env None b h.1.fine h.1.distinct refl in
        plain_in around (And (formula_in m env a) (formula_in m env b)) (plain_and (formula_in m env a) (formula_in m env b) x.stands y.stands)
    claim_stands env rest around (disjunction a b) h d e =
        let x = claim_stands env env None a h.0.fine h.0.distinct refl in
        let y = claim_stands env env None b h.1.fine h.1.distinct refl in
        plain_in around (Or (formula_in m env a) (formula_in m env b)) (plain_or (formula_in m env a) (formula_in m env b) x.stands y.stands)
    claim_stands env rest around (exclusion a b) h d e =
        let x = claim_stands env env None a h.0.fine h.0.distinct refl in
        let y = claim_stands env env None b h.1.fine h.1.distinct refl in
        let f = formula_in m env a in
        let g = formula_in m env b in
        plain_in around (Xor f g) (record { stands = xor_stands f g x.stands y.stands; no_block = ap is_block (outs-Xor f g) })
    claim_stands env rest around (equivalence a b) h d e =
        let x = claim_stands env env None a h.0.fine h.0.distinct refl in
        let y = claim_stands env env None b h.1.fine h.1.distinct refl in
        let f = formula_in m env a in
        let g = formula_in m env b in
        plain_in around (Iff f g) (record { stands = iff_stands f g x.stands y.stands; no_block = ap is_block (outs-Iff f g) })
    claim_stands env rest around (implication a b) h d e =
        let x = claim_stands env env None a h.0.fine h.0.distinct refl in
        let y = claim_stands env env None b h.1.fine h.1.distinct refl in
        plain_in around (Or (Not (formula_in m env a)) (formula_in m env b))
        (plain_or (Not (formula_in m env a)) (formula_in m env b) (not_stands (formula_in m env a) x.stands) y.stands)
    claim_stands env rest around (conditional c a b) h d e =
        let x = claim_stands env env None c h.0.fine h.0.distinct refl in
        let y = claim_stands env env None a h.1.fine h.1.distinct refl in
        let z = claim_stands env env None b h.2.fine h.2.distinct refl in
        plain_in around (either_way (formula_in m env c) (formula_in m env a) (formula_in m env b))
        (plain_either (formula_in m env c) (formula_in m env a) (formula_in m env b) x.stands y.stands z.stands)
    claim_stands env rest around (quantified q xs ss no_pattern f) h d e =
        let merged = merged_with q around ++ xs in
        let into = inside q around xs env rest e in
        let body = claim_stands (reverse xs ++ env) into.rest (Some (q, merged)) f h.2 (distinct_inside q around xs (bound_in f) d) into.is in
        over_in around (map (put m) ss) (formula_in m (reverse xs ++ env) f) body.stands q (length merged) (size q around xs ss h.0) body.merges
    claim_stands env rest around (quantified q xs ss (and_pattern place us ps) f) h d e =
        let inner = reverse xs ++ env in
        let merged = merged_with q around ++ xs in
        let into = inside q around xs env rest e in
        let apart = distinct_inside q around xs (bound_in f) d in
        let body = claim_stands inner inner None f h.2 (distinct_back merged (bound_in f) apart) refl in
        let triggers = subst (λ (z : List ℕ). AllByRecursion (IsTrigger (length merged)) (triggers_in m z (and_pattern place us ps))) (sym into.is)
        (triggers_stand merged into.rest (and_pattern place us ps) (distinct_front merged (bound_in f) apart) h.1) in
        over_with around (map (put m) ss) (formula_in m inner f) body.stands q (length merged) (value_of (terms_cases m inner us)) (triggers_in m inner ps) (size q around xs ss h.0) triggers

  -- an axiom's or a goal's formula
  pub formula_stands : (c : Claim) → IsAlone c → MayStand (formula_in m [] c)
  formula_stands c h = (claim_stands [] [] None c h.fine h.distinct refl).stands
