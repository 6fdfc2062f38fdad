-- The sizes that are told from a typed tree are those of its formula, where each record, each `distinct` and each block in it is as
-- large as is said of it.
use Rattle.std.proofs.Common.{◌≡◌, ℕ, ℤ, Bool, suc, ◌+◌, max, List, [], ◌∷◌, ◌++◌, map, refl, ap, ◌∙◌, arith}
use Rattle.ae_core.specs.declared.terms.Sort.{Sort, out-Sort}
use Rattle.ae_core.specs.declared.terms.Head.{Head}
use Rattle.ae_core.specs.declared.terms.Head.TheVariants as head
use Rattle.ae_core.specs.declared.terms.Term.{Term, Bound, Num, Apply}
use Rattle.ae_core.specs.declared.formulas.Formula.{Formula, True, False, Eq, Lt, Le, Pred, Not, Xor, Iff}
use Rattle.ae_types.specs.Substitutions.{put}
use Rattle.ae_elab.specs.Trees.{Tree, Trees, Claim, Relation, equal, unequal, less, at_most, greater, at_least, none, more, variable, numeral, apply, operation, build, update, choice, truth, falsity, relation, predicate, distinct, holds, negation, conjunction, disjunction, exclusion, equivalence, implication, conditional, quantified}
use Rattle.ae_elab.specs.Elaboration.{leaf, ◌|>◌, related, true_term, head_on, distance, term_cases, terms_cases, formula_in}
use Rattle.ae_elab.specs.Sizes.{Size, sort_size, term_size, term_size_step, formula_size, formula_size_step, quant_size_step, round, total, deepest}
use Rattle.ae_elab.specs.Weights.{Weight, together, either_weight, within, beside, size_of, sort_sizes, relation_nodes, weight, weights, claim_size}
use Rattle.ae_core.proofs.Recursion.{fold_bound, fold_num, fold_apply, fold_true, fold_false, fold_eq, fold_lt, fold_le, fold_pred, fold_xor, fold_iff}
use Rattle.ae_elab.proofs.WeightLaws.{same_size, same_weight, one, weigh, size_of_cases, changed, within_branches, beside_branches, pair_size, both, size_not, size_and, size_or, either_size, size_either}

-- ---- sizes of terms and formulas
size_bound : (i : ℕ) → term_size (Bound i) ≡ round []
unfolding term_size
size_bound = fold_bound Size term_size_step

size_num : (a b : ℤ) (r : Bool) → term_size (Num a b r) ≡ round []
unfolding term_size
size_num = fold_num Size term_size_step

size_apply : (h : Head) (ss : List Sort) (us : List Term) → term_size (Apply h ss us) ≡ round (map sort_size ss ++ map term_size us)
unfolding term_size
size_apply = fold_apply Size term_size_step

size_true : formula_size True ≡ round []
unfolding formula_size
size_true = fold_true Size Size formula_size_step quant_size_step

size_false : formula_size False ≡ round []
unfolding formula_size
size_false = fold_false Size Size formula_size_step quant_size_step

size_eq : (a b : Term) → formula_size (Eq a b) ≡ round (term_size a ∷ term_size b ∷ [])
unfolding formula_size
size_eq = fold_eq Size Size formula_size_step quant_size_step

size_lt : (a b : Term) → formula_size (Lt a b) ≡ round (term_size a ∷ term_size b ∷ [])
unfolding formula_size
size_lt = fold_lt Size Size formula_size_step quant_size_step

size_le : (a b : Term) → formula_size (Le a b) ≡ round (term_size a ∷ term_size b ∷ [])
unfolding formula_size
size_le = fold_le Size Size formula_size_step quant_size_step

size_pred : (p : ℕ) (ss : List Sort) (us : List Term) → formula_size (Pred p ss us) ≡ round (map sort_size ss ++ map term_size us)
unfolding formula_size
size_pred = fold_pred Size Size formula_size_step quant_size_step

size_xor : (a b : Formula) → formula_size (Xor a b) ≡ round (formula_size a ∷ formula_size b ∷ [])
unfolding formula_size
size_xor = fold_xor Size Size formula_size_step quant_size_step

size_iff : (a b : Formula) → formula_size (Iff a b) ≡ round (formula_size a ∷ formula_size b ∷ [])
unfolding formula_size
size_iff = fold_iff Size Size formula_size_step quant_size_step

-- ---- lists
total_both : (xs ys : List Size) → total (xs ++ ys) ≡ total xs + total ys
total_both [] ys = omega arith
total_both (x ∷ xs) ys = let e = total_both xs ys in omega arith

deepest_both : (xs ys : List Size) → deepest (xs ++ ys) ≡ max (deepest xs) (deepest ys)
deepest_both [] ys = omega arith
deepest_both (x ∷ xs) ys = let e = deepest_both xs ys in omega arith

sizes_same : (f : ℕ → Sort) (ss : List Sort) → map sort_size (map (put f) ss) ≡ sort_sizes f ss
sizes_same f [] = refl
sizes_same f (s ∷ ss) = ap (λ xs. sort_size (put f s) ∷ xs) (sizes_same f ss)

abbrev pub list_size : List Term → Size
list_size us = record { nodes = total (map term_size us); levels = deepest (map term_size us) }

-- a node round some sizes and a list
wrapped : List Size → Size → Size
wrapped xs s = record { nodes = suc (total xs + s.nodes); levels = suc (max (deepest xs) s.levels) }

wrap_list : (f : ℕ → Sort) (ss : List Sort) (us : List Term) → round (map sort_size (map (put f) ss) ++ map term_size us) ≡ wrapped (sort_sizes f ss) (list_size us)
unfolding wrapped
wrap_list f ss us =
    ap (λ xs. round (xs ++ map term_size us)) (sizes_same f ss)
    ∙ same_size (round (sort_sizes f ss ++ map term_size us)) (wrapped (sort_sizes f ss) (list_size us))
    (ap suc (total_both (sort_sizes f ss) (map term_size us))) (ap suc (deepest_both (sort_sizes f ss) (map term_size us)))

abbrev wrap : List Size → Weight → Weight
wrap xs w = within 1 (beside xs w)

one_wrap : (xs : List Size) (s : Size) → one (wrapped xs s) ≡ wrap xs (one s)
unfolding wrapped
one_wrap xs s = same_weight (one (wrapped xs s)) (wrap xs (one s)) (omega arith) (omega arith) (omega arith) (omega arith) (omega arith) (omega arith)

wrap_branches : (xs : List Size) (c : Size) (v w : Weight) → either_weight c (wrap xs v) (wrap xs w) ≡ wrap xs (either_weight c v w)
wrap_branches xs c v w = within_branches 1 c (beside xs v) (beside xs w) ∙ ap (within 1) (beside_branches xs c v w)

within_none : (w : Weight) → within 0 w ≡ w
within_none w = same_weight (within 0 w) w (omega arith) (omega arith) (omega arith) (omega arith) (omega arith) (omega arith)

related_size : (r : Relation) (s t : Term) → formula_size (related r s t) ≡ pair_size (relation_nodes r) (term_size s) (term_size t)
related_size equal s t = size_eq s t ∙ same_size (round (term_size s ∷ term_size t ∷ [])) (pair_size 1 (term_size s) (term_size t)) (omega arith) (omega arith)
related_size unequal s t =
    size_not (Eq s t) ∙ ap (λ x. round (x ∷ [])) (size_eq s t)
    ∙ same_size (round (round (term_size s ∷ term_size t ∷ []) ∷ [])) (pair_size 2 (term_size s) (term_size t)) (omega arith) (omega arith)
related_size less s t = size_lt s t ∙ same_size (round (term_size s ∷ term_size t ∷ [])) (pair_size 1 (term_size s) (term_size t)) (omega arith) (omega arith)
related_size at_most s t = size_le s t ∙ same_size (round (term_size s ∷ term_size t ∷ [])) (pair_size 1 (term_size s) (term_size t)) (omega arith) (omega arith)
related_size greater s t = size_lt t s ∙ same_size (round (term_size t ∷ term_size s ∷ [])) (pair_size 1 (term_size s) (term_size t)) (omega arith) (omega arith)
related_size at_least s t = size_le t s ∙ same_size (round (term_size t ∷ term_size s ∷ [])) (pair_size 1 (term_size s) (term_size t)) (omega arith) (omega arith)

true_size : term_size true_term ≡ round []
true_size = size_apply head.True [] []

holds_size : (u : Term) → one (formula_size (Eq u true_term)) ≡ wrap (round [] ∷ []) (one (term_size u))
holds_size u =
    ap one (size_eq u true_term ∙ ap (λ x. round (term_size u ∷ x ∷ [])) true_size)
    ∙ same_weight (one (round (term_size u ∷ round [] ∷ []))) (wrap (round [] ∷ []) (one (term_size u)))
    (omega arith) (omega arith) (omega arith) (omega arith) (omega arith) (omega arith)

operation_size : (h : Head) (us : List Term) → one (term_size (Apply h [] us)) ≡ within 1 (one (list_size us))
operation_size h us =
    ap one (size_apply h [] us)
    ∙ same_weight (one (round (map term_size us))) (within 1 (one (list_size us))) (omega arith) (omega arith) (omega arith) (omega arith) (omega arith) (omega arith)

list_pair : (v : Term) (vs : List Term) → list_size (v ∷ vs) ≡ pair_size 0 (term_size v) (list_size vs)
list_pair v vs = same_size (list_size (v ∷ vs)) (pair_size 0 (term_size v) (list_size vs)) (omega arith) (omega arith)

module _ (f : ℕ → Sort) where
  -- ---- the records, `distinct`s and blocks of a tree are as large as is said, provided that their parts are
  abbrev mutual
    pub Fits : Tree → Type 0
    Fits (variable x) = Unit {0}
    Fits (numeral a b r) = Unit {0}
    Fits (apply h ss us) = AllFit us
    Fits (operation o s us) = AllFit us
    Fits (build of ss n ps us) =
        AllFit us × ((env : List ℕ) → weigh list_size (terms_cases f env us) ≡ weights f us
        → weigh term_size (term_cases f env (build of ss n ps us)) ≡ weight f (build of ss n ps us))
    Fits (update of ss n b ps us) =
        Fits b × AllFit us × ((env : List ℕ) → weigh term_size (term_cases f env b) ≡ weight f b → weigh list_size (terms_cases f env us) ≡ weights f us
        → weigh term_size (term_cases f env (update of ss n b ps us)) ≡ weight f (update of ss n b ps us))
    Fits (choice c s t) = ClaimFits c × Fits s × Fits t

    pub AllFit : Trees → Type 0
    AllFit none = Unit {0}
    AllFit (more t us) = Fits t × AllFit us

    pub ClaimFits : Claim → Type 0
    ClaimFits truth = Unit {0}
    ClaimFits falsity = Unit {0}
    ClaimFits (relation r s t) = Fits s × Fits t
    ClaimFits (predicate k ss us) = AllFit us
    ClaimFits (distinct us) = (env : List ℕ) → formula_size (formula_in f env (distinct us)) ≡ claim_size f (distinct us)
    ClaimFits (holds t) = Fits t
    ClaimFits (negation a) = ClaimFits a
    ClaimFits (conjunction a b) = ClaimFits a × ClaimFits b
    ClaimFits (disjunction a b) = ClaimFits a × ClaimFits b
    ClaimFits (exclusion a b) = ClaimFits a × ClaimFits b
    ClaimFits (equivalence a b) = ClaimFits a × ClaimFits b
    ClaimFits (implication a b) = ClaimFits a × ClaimFits b
    ClaimFits (conditional c a b) = ClaimFits c × ClaimFits a × ClaimFits b
    ClaimFits (quantified q xs ss ps a) =
        ClaimFits a × ((env : List ℕ) → ((inner : List ℕ) → formula_size (formula_in f inner a) ≡ claim_size f a)
        → formula_size (formula_in f env (quantified q xs ss ps a)) ≡ claim_size f (quantified q xs ss ps a))

  mutual
    pub weighs : (t : Tree) → Fits t → (env : List ℕ) → weigh term_size (term_cases f env t) ≡ weight f t
    weighs (variable x) h env = ap one (size_bound (distance env x))
    weighs (numeral a b r) h env = ap one (size_num a b r)
    weighs (apply k ss us) h env =
        changed list_size term_size (λ vs. Apply k (map (put f) ss) vs) (wrap (sort_sizes f ss))
        (λ vs. ap one (size_apply k (map (put f) ss) vs ∙ wrap_list f ss vs) ∙ one_wrap (sort_sizes f ss) (list_size vs))
        (wrap_branches (sort_sizes f ss)) (terms_cases f env us)
        ∙ ap (wrap (sort_sizes f ss)) (all_weigh us h env)
    weighs (operation o s us) h env =
        changed list_size term_size (λ vs. Apply (head_on o (out-Sort (put f s))) [] vs) (within 1)
        (λ vs. operation_size (head_on o (out-Sort (put f s))) vs) (within_branches 1) (terms_cases f env us)
        ∙ ap (within 1) (all_weigh us h env)
    weighs (build of ss n ps us) h env = h.1 env (all_weigh us h.0 env)
    weighs (update of ss n b ps us) h env = h.2 env (weighs b h.0 env) (all_weigh us h.1 env)
    weighs (choice c s t) h env =
        ap (λ x. either_weight x (weigh term_size (term_cases f env s)) (weigh term_size (term_cases f env t))) (claim_weighs c h.0 env)
        ∙ ap (λ x. either_weight (claim_size f c) x (weigh term_size (term_cases f env t))) (weighs s h.1 env)
        ∙ ap (either_weight (claim_size f c) (weight f s)) (weighs t h.2 env)

    pub all_weigh : (us : Trees) → AllFit us → (env : List ℕ) → weigh list_size (terms_cases f env us) ≡ weights f us
    all_weigh none h env = refl
    all_weigh (more t us) h env =
        both term_size list_size list_size 0 (λ v vs. v ∷ vs) list_pair (term_cases f env t) (terms_cases f env us)
        ∙ within_none (together (weigh term_size (term_cases f env t)) (weigh list_size (terms_cases f env us)))
        ∙ ap (λ x. together x (weigh list_size (terms_cases f env us))) (weighs t h.0 env)
        ∙ ap (together (weight f t)) (all_weigh us h.1 env)

    pub claim_weighs : (c : Claim) → ClaimFits c → (env : List ℕ) → formula_size (formula_in f env c) ≡ claim_size f c
    claim_weighs truth h env = size_true
    claim_weighs falsity h env = size_false
    claim_weighs (relation r s t) h env =
        size_of_cases (term_cases f env s |> λ u. term_cases f env t |> λ v. leaf (related r u v))
        ∙ ap size_of
        (both term_size term_size formula_size (relation_nodes r) (related r) (related_size r) (term_cases f env s) (term_cases f env t)
        ∙ ap (λ x. within (relation_nodes r) (together x (weigh term_size (term_cases f env t)))) (weighs s h.0 env)
        ∙ ap (λ x. within (relation_nodes r) (together (weight f s) x)) (weighs t h.1 env))
    claim_weighs (predicate k ss us) h env =
        size_of_cases (terms_cases f env us |> λ vs. leaf (Pred k (map (put f) ss) vs))
        ∙ ap size_of
        (changed list_size formula_size (λ vs. Pred k (map (put f) ss) vs) (wrap (sort_sizes f ss))
        (λ vs. ap one (size_pred k (map (put f) ss) vs ∙ wrap_list f ss vs) ∙ one_wrap (sort_sizes f ss) (list_size vs))
        (wrap_branches (sort_sizes f ss)) (terms_cases f env us)
        ∙ ap (wrap (sort_sizes f ss)) (all_weigh us h env))
    claim_weighs (distinct us) h env = h env
    claim_weighs (holds t) h env =
        size_of_cases (term_cases f env t |> λ u. leaf (Eq u true_term))
        ∙ ap size_of
        (changed term_size formula_size (λ u. Eq u true_term) (wrap (round [] ∷ [])) holds_size (wrap_branches (round [] ∷ [])) (term_cases f env t)
        ∙ ap (wrap (round [] ∷ [])) (weighs t h env))
    claim_weighs (negation a) h env = size_not (formula_in f env a) ∙ ap (λ x. round (x ∷ [])) (claim_weighs a h env)
    claim_weighs (conjunction a b) h env =
        size_and (formula_in f env a) (formula_in f env b) ∙ ap (λ x. round (x ∷ formula_size (formula_in f env b) ∷ [])) (claim_weighs a h.0 env)
        ∙ ap (λ x. round (claim_size f a ∷ x ∷ [])) (claim_weighs b h.1 env)
    claim_weighs (disjunction a b) h env =
        size_or (formula_in f env a) (formula_in f env b) ∙ ap (λ x. round (x ∷ formula_size (formula_in f env b) ∷ [])) (claim_weighs a h.0 env)
        ∙ ap (λ x. round (claim_size f a ∷ x ∷ [])) (claim_weighs b h.1 env)
    claim_weighs (exclusion a b) h env =
        size_xor (formula_in f env a) (formula_in f env b) ∙ ap (λ x. round (x ∷ formula_size (formula_in f env b) ∷ [])) (claim_weighs a h.0 env)
        ∙ ap (λ x. round (claim_size f a ∷ x ∷ [])) (claim_weighs b h.1 env)
    claim_weighs (equivalence a b) h env =
        size_iff (formula_in f env a) (formula_in f env b) ∙ ap (λ x. round (x ∷ formula_size (formula_in f env b) ∷ [])) (claim_weighs a h.0 env)
        ∙ ap (λ x. round (claim_size f a ∷ x ∷ [])) (claim_weighs b h.1 env)
    claim_weighs (implication a b) h env =
        size_or (Not (formula_in f env a)) (formula_in f env b)
        ∙ ap (λ x. round (x ∷ formula_size (formula_in f env b) ∷ [])) (size_not (formula_in f env a) ∙ ap (λ x. round (x ∷ [])) (claim_weighs a h.0 env))
        ∙ ap (λ x. round (round (claim_size f a ∷ []) ∷ x ∷ [])) (claim_weighs b h.1 env)
    claim_weighs (conditional c a b) h env =
        size_either (formula_in f env c) (formula_in f env a) (formula_in f env b)
        ∙ ap (λ x. either_size x (formula_size (formula_in f env a)) (formula_size (formula_in f env b))) (claim_weighs c h.0 env)
        ∙ ap (λ x. either_size (claim_size f c) x (formula_size (formula_in f env b))) (claim_weighs a h.1 env)
        ∙ ap (either_size (claim_size f c) (claim_size f a)) (claim_weighs b h.2 env)
    claim_weighs (quantified q xs ss ps a) h env = h.1 env (λ inner. claim_weighs a h.0 inner)
