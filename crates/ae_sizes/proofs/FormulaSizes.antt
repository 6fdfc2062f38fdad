-- The sizes that are told from a typed tree are those of its formula, of every tree.
use Rattle.std.proofs.Common.{arith, ◌≡◌, ◌∙◌, ℕ, suc, Bool, true, false, List, [], ◌∷◌, ◌++◌, map, length, take, reverse, refl, sym, ap}
use Rattle.std.specs.List.{flat_map}
use Rattle.std.proofs.lemmas.List.{map-append}
use Rattle.ae_core.specs.declared.terms.Sort.{Sort, out-Sort}
use Rattle.ae_core.specs.declared.terms.Head.{Head}
use Rattle.ae_core.specs.declared.terms.Head.TheVariants as head
use Rattle.ae_core.specs.declared.terms.Term.{Term, Apply}
use Rattle.ae_core.specs.declared.formulas.Formula.{Formula, Pred, Eq, Not, Or}
use Rattle.ae_syntax.specs.declared.exprs.Quantifier.{Quantifier}
use Rattle.ae_types.specs.Substitutions.{put}
use Rattle.ae_elab.specs.Elaboration.{Cases, leaf, branch, ◌|>◌, value_of, related, true_term, head_on, fields_from, record_of, differences, all_true, distance, term_cases, terms_cases, triggers_in, formula_in}
use Rattle.ae_elab.specs.Sizes.{Size, sort_size, term_size, formula_size, round}
use Rattle.ae_elab.specs.Trees.{Tree, Trees, Patterns, Claim, none, more, no_pattern, and_pattern, variable, numeral, apply, operation, build, update, choice, truth, falsity, relation, predicate, distinct, holds, negation, conjunction, disjunction, exclusion, equivalence, implication, conditional, quantified}
use Rattle.ae_elab.specs.Weights.{Weight, one_case, together, either_weight, within, beside, size_of, missing, sort_sizes, relation_nodes, merges, block_size}
use Rattle.ae_elab.proofs.WeightLaws.{same_size, same_weight, one, weigh, size_of_cases, changed, within_branches, beside_branches, pair_size, both, size_not, size_and, size_or, either_size, size_either}
use Rattle.ae_sizes.specs.Inner.Counted.{block_of, pile}
use Rattle.ae_sizes.specs.Inner.Weights.{Stand, once, in_pairs, in_fields, standing, all_standing, distinct_round, copies, record_weight, chosen, weight, weight_list, pattern_sizes, claim_size}
use Rattle.ae_sizes.proofs.CountedLaws.{total_both, deepest_both}
use Rattle.ae_sizes.proofs.FoldSizes.{size_bound, size_num, size_apply, size_true, size_false, size_eq, size_pred, size_xor, size_iff, sizes_same, true_size, related_size}
use Rattle.ae_sizes.proofs.Standing.{picked, picked_leaf, picked_map, picked_both, AllCases, all_picked, count, lengths, weigh_by, always, map_where, moved, then_same, use_size, one_standing, standing_branches, weigh_standing, sized, once_each, within_none, wrapped, one_of_pile}
use Rattle.ae_sizes.proofs.RecordSizes.{copy, fields_size}
use Rattle.ae_sizes.proofs.DistinctSizes.{distinct_size, distinct_branches}
use Rattle.ae_sizes.proofs.BlockSizes.{quantifier_of, no_true, no_false, no_eq, no_pred, no_not, no_and, no_or, no_xor, no_iff, no_related, no_differences, no_cases, no_two, joins, over_size, over_block}

-- ---- an application
abbrev wrap : List Size → Weight → Weight
wrap xs w = within 1 (beside xs w)

wrap_branches : (xs : List Size) (c : Size) (v w : Weight) → either_weight c (wrap xs v) (wrap xs w) ≡ wrap xs (either_weight c v w)
wrap_branches xs c v w = within_branches 1 c (beside xs v) (beside xs w) ∙ ap (within 1) (beside_branches xs c v w)

apply_size : (f : ℕ → Sort) (h : Head) (ss : List Sort) (vs : List Term) → one (term_size (Apply h (map (put f) ss) vs)) ≡ wrap (sort_sizes f ss) (one (sized once 0 vs))
apply_size f h ss vs =
    ap one (size_apply h (map (put f) ss) vs ∙ ap (λ xs. round (xs ++ map term_size vs)) (sizes_same f ss))
    ∙ wrapped (sort_sizes f ss) (map term_size vs)
    ∙ ap (λ s. wrap (sort_sizes f ss) (one s)) (sym (once_each 0 vs))

operation_size : (h : Head) (vs : List Term) → one (term_size (Apply h [] vs)) ≡ within 1 (one (sized once 0 vs))
operation_size h vs =
    ap one (size_apply h [] vs)
    ∙ same_weight (one (round (map term_size vs))) (within 1 (one (pile (map term_size vs)))) (omega arith) (omega arith) (omega arith) (omega arith) (omega arith) (omega arith)
    ∙ ap (λ s. within 1 (one s)) (sym (once_each 0 vs))

pred_size : (f : ℕ → Sort) (k : ℕ) (ss : List Sort) (vs : List Term) → one (formula_size (Pred k (map (put f) ss) vs)) ≡ wrap (sort_sizes f ss) (one (sized once 0 vs))
pred_size f k ss vs =
    ap one (size_pred k (map (put f) ss) vs ∙ ap (λ xs. round (xs ++ map term_size vs)) (sizes_same f ss))
    ∙ wrapped (sort_sizes f ss) (map term_size vs)
    ∙ ap (λ s. wrap (sort_sizes f ss) (one s)) (sym (once_each 0 vs))

holds_size : (u : Term) → one (formula_size (Eq u true_term)) ≡ wrap (round [] ∷ []) (one (term_size u))
holds_size u =
    ap one (size_eq u true_term ∙ ap (λ x. round (term_size u ∷ x ∷ [])) true_size)
    ∙ same_weight (one (round (term_size u ∷ round [] ∷ []))) (wrap (round [] ∷ []) (one (term_size u)))
    (omega arith) (omega arith) (omega arith) (omega arith) (omega arith) (omega arith)

-- ---- a record
module _ (n of : ℕ) (ss : List Sort) (ps : List ℕ) (k : ℕ) where
  abbrev sizes : List Size
  sizes = map sort_size ss

  abbrev m : ℕ
  m = missing n (take k ps)

  -- the copies with the record's own sorts, beside which the values stand
  abbrev left : Term → Size
  left v = pair_size 0 (pile sizes) (use_size m 0 (copy n of ss v))

  abbrev whole : Term → List Term → Size
  whole v vs = pair_size 1 (left v) (sized (in_fields n ps) 0 vs)

  record_size : (v : Term) (vs : List Term) → length vs ≡ k → term_size (record_of of ss n v ps vs) ≡ whole v vs
  record_size v vs e =
      let fields = fields_from n 0 of ss v ps vs in
      let a = total_both sizes (map term_size fields) in
      let b = deepest_both sizes (map term_size fields) in
      let c = fields_size n of ss v ps vs ∙ ap (λ i. pair_size 0 (use_size (missing n (take i ps)) 0 (copy n of ss v)) (sized (in_fields n ps) 0 vs)) e in
      let x = ap (λ s. s.nodes) c in
      let y = ap (λ s. s.levels) c in
      size_apply (head.Build of) ss fields
      ∙ same_size (round (sizes ++ map term_size fields)) (whole v vs) (omega arith) (omega arith)

  left_is : (v : Term) → one (left v) ≡ beside sizes (copies m sizes (one (term_size v)))
  left_is v =
      same_weight (one (left v)) (beside sizes (one (use_size m 0 (copy n of ss v)))) (omega arith) (omega arith) (omega arith) (omega arith) (omega arith) (omega arith)
      ∙ ap (beside sizes) (one_standing m 0 (copy n of ss v) ∙ ap (standing m 0) (wrapped sizes (term_size v ∷ []) ∙ ap (λ s. within 1 (beside sizes (one s))) (one_of_pile (term_size v))))

  left_branches : (c : Size) (v w : Weight)
      → either_weight c (beside sizes (copies m sizes v)) (beside sizes (copies m sizes w)) ≡ beside sizes (copies m sizes (either_weight c v w))
  left_branches c v w =
      beside_branches sizes c (copies m sizes v) (copies m sizes w)
      ∙ ap (beside sizes) (standing_branches m 0 c (wrap sizes v) (wrap sizes w) ∙ ap (standing m 0) (wrap_branches sizes c v w))

  record_weighs : (cs : Cases Term) (ds : Cases (List Term)) → AllCases (λ vs. length vs ≡ k) ds
      → weigh term_size (cs |> λ v. ds |> λ vs. leaf (record_of of ss n v ps vs))
      ≡ within 1 (together (beside sizes (copies m sizes (weigh term_size cs))) (weigh (sized (in_fields n ps) 0) ds))
  record_weighs cs ds e =
      then_same term_size (λ s. s) (λ v. ds |> λ vs. leaf (record_of of ss n v ps vs)) (λ v. ds |> λ vs. leaf (whole v vs))
      (λ v. map_where (λ vs. length vs ≡ k) term_size (λ s. s) (record_of of ss n v ps) (whole v) (record_size v) ds e) cs
      ∙ both left (sized (in_fields n ps) 0) (λ s. s) 1 whole (λ v vs. refl) cs ds
      ∙ ap (λ x. within 1 (together x (weigh (sized (in_fields n ps) 0) ds)))
      (weigh_by (λ v. Unit {0}) term_size left (λ w. beside sizes (copies m sizes w)) (λ v p. left_is v) left_branches cs (always cs))

-- ---- triggers
abbrev all_terms : List (List Term) → List Term
all_terms ts = flat_map (λ us. us) ts

same_block : (b : Bool) (xs ys zs : List Size) (s : Size) → pile ys ≡ pile zs → block_size b (xs ++ ys) s ≡ block_size b (xs ++ zs) s
same_block true xs ys zs s e =
    let a = total_both xs ys in
    let b = total_both xs zs in
    let c = deepest_both xs ys in
    let d = deepest_both xs zs in
    let n = ap (λ z. z.nodes) e in
    let l = ap (λ z. z.levels) e in
    same_size (block_size true (xs ++ ys) s) (block_size true (xs ++ zs) s) (omega arith) (omega arith)
same_block false xs ys zs s e =
    let a = total_both xs ys in
    let b = total_both xs zs in
    let c = deepest_both xs ys in
    let d = deepest_both xs zs in
    let g = total_both (xs ++ ys) (s ∷ []) in
    let h = total_both (xs ++ zs) (s ∷ []) in
    let i = deepest_both (xs ++ ys) (s ∷ []) in
    let j = deepest_both (xs ++ zs) (s ∷ []) in
    let n = ap (λ z. z.nodes) e in
    let l = ap (λ z. z.levels) e in
    same_size (block_size false (xs ++ ys) s) (block_size false (xs ++ zs) s) (omega arith) (omega arith)

-- ---- blocks that are merged
module _ (f : ℕ → Sort) where
  quantifier_is : (a : Claim) (env : List ℕ) → quantifier_of (formula_in f env a) ≡ block_of a
  quantifier_is truth env = no_true
  quantifier_is falsity env = no_false
  quantifier_is (relation r s t) env = no_two (related r) (no_related r) (term_cases f env s) (term_cases f env t)
  quantifier_is (predicate k ss us) env = no_cases (λ vs. Pred k (map (put f) ss) vs) (no_pred k (map (put f) ss)) (terms_cases f env us)
  quantifier_is (distinct us) env = no_cases (λ vs. all_true (differences vs)) no_differences (terms_cases f env us)
  quantifier_is (holds t) env = no_cases (λ u. Eq u true_term) (λ u. no_eq u true_term) (term_cases f env t)
  quantifier_is (negation a) env = no_not (formula_in f env a)
  quantifier_is (conjunction a b) env = no_and (formula_in f env a) (formula_in f env b)
  quantifier_is (disjunction a b) env = no_or (formula_in f env a) (formula_in f env b)
  quantifier_is (exclusion a b) env = no_xor (formula_in f env a) (formula_in f env b)
  quantifier_is (equivalence a b) env = no_iff (formula_in f env a) (formula_in f env b)
  quantifier_is (implication a b) env = no_or (Not (formula_in f env a)) (formula_in f env b)
  quantifier_is (conditional c a b) env = no_and (Or (Not (formula_in f env c)) (formula_in f env a)) (Or (formula_in f env c) (formula_in f env b))
  quantifier_is (quantified q xs ss ps a) env = over_block q (map (put f) ss) (triggers_in f (reverse xs ++ env) ps) (formula_in f (reverse xs ++ env) a)

  merges_as : (q : Quantifier) (ps : Patterns) (a : Claim) (env : List ℕ) → joins q (triggers_in f env ps) (block_of a) ≡ merges q ps a
  merges_as q (and_pattern place us ps) a env = refl
  merges_as q no_pattern truth env = refl
  merges_as q no_pattern falsity env = refl
  merges_as q no_pattern (relation r s t) env = refl
  merges_as q no_pattern (predicate k ss us) env = refl
  merges_as q no_pattern (distinct us) env = refl
  merges_as q no_pattern (holds t) env = refl
  merges_as q no_pattern (negation a) env = refl
  merges_as q no_pattern (conjunction a b) env = refl
  merges_as q no_pattern (disjunction a b) env = refl
  merges_as q no_pattern (exclusion a b) env = refl
  merges_as q no_pattern (equivalence a b) env = refl
  merges_as q no_pattern (implication a b) env = refl
  merges_as q no_pattern (conditional c a b) env = refl
  merges_as q no_pattern (quantified r xs ss ps a) env = refl

  joined_as : (q : Quantifier) (ps : Patterns) (a : Claim) (env : List ℕ) → joins q (triggers_in f env ps) (quantifier_of (formula_in f env a)) ≡ merges q ps a
  joined_as q ps a env = ap (joins q (triggers_in f env ps)) (quantifier_is a env) ∙ merges_as q ps a env

-- ---- the whole
module _ (f : ℕ → Sort) where
  weights_long : (b : Bool) (us : Trees) → length (weight_list b f us) ≡ count us
  weights_long b none = refl
  weights_long b (more t us) = ap suc (weights_long b us)

  -- a record with the cases of its base, and of its values
  records : (b : Bool) (env : List ℕ) (of n : ℕ) (ss : List Sort) (ps : List ℕ) (us : Trees) (base : Cases Term) (w : Weight) → weigh term_size (picked b base) ≡ w
      → weigh (sized (in_fields n ps) 0) (picked b (terms_cases f env us)) ≡ all_standing (in_fields n ps) 0 (weight_list b f us)
      → weigh term_size (picked b (base |> λ v. terms_cases f env us |> λ vs. leaf (record_of of (map (put f) ss) n v ps vs)))
      ≡ record_weight (sort_sizes f ss) n w ps (weight_list b f us)
  records b env of n ss ps us base w e h =
      let ws = weight_list b f us in
      let terms = all_standing (in_fields n ps) 0 ws in
      ap (weigh term_size) (picked_both b base (terms_cases f env us) (λ v vs. record_of of (map (put f) ss) n v ps vs))
      ∙ record_weighs n of (map (put f) ss) ps (count us) (picked b base) (picked b (terms_cases f env us)) (all_picked (λ vs. length vs ≡ count us) b (terms_cases f env us) (lengths f env us))
      ∙ ap (λ x. within 1 (together (beside (map sort_size (map (put f) ss)) (copies (missing n (take (count us) ps)) (map sort_size (map (put f) ss)) x)) (weigh (sized (in_fields n ps) 0) (picked b (terms_cases f env us))))) e
      ∙ ap (λ x. within 1 (together (beside (map sort_size (map (put f) ss)) (copies (missing n (take (count us) ps)) (map sort_size (map (put f) ss)) w)) x)) h
      ∙ ap (λ xs. within 1 (together (beside xs (copies (missing n (take (count us) ps)) xs w)) terms)) (sizes_same f ss)
      ∙ ap (λ k. within 1 (together (beside (sort_sizes f ss) (copies (missing n (take k ps)) (sort_sizes f ss) w)) terms)) (sym (weights_long b us))

  chosen_is : (b : Bool) (c : Formula) (xs ys : Cases Term) → weigh term_size (picked b (branch c xs ys)) ≡ chosen b (formula_size c) (weigh term_size (picked b xs)) (weigh term_size (picked b ys))
  chosen_is true c xs ys = refl
  chosen_is false c xs ys = refl

  mutual
    weighs : (b : Bool) (t : Tree) (env : List ℕ) → weigh term_size (picked b (term_cases f env t)) ≡ weight b f t
    weighs b (variable x) env = ap (weigh term_size) (picked_leaf b _) ∙ ap one (size_bound (distance env x))
    weighs b (numeral x y r) env = ap (weigh term_size) (picked_leaf b _) ∙ ap one (size_num x y r)
    weighs b (apply h ss us) env =
        ap (weigh term_size) (picked_map b (terms_cases f env us) (λ vs. Apply h (map (put f) ss) vs))
        ∙ changed (sized once 0) term_size (λ vs. Apply h (map (put f) ss) vs) (wrap (sort_sizes f ss)) (apply_size f h ss) (wrap_branches (sort_sizes f ss)) (picked b (terms_cases f env us))
        ∙ ap (wrap (sort_sizes f ss)) (all_weigh b us env once 0)
    weighs b (operation o s us) env =
        let h = head_on o (out-Sort (put f s)) in
        ap (weigh term_size) (picked_map b (terms_cases f env us) (λ vs. Apply h [] vs))
        ∙ changed (sized once 0) term_size (λ vs. Apply h [] vs) (within 1) (operation_size h) (within_branches 1) (picked b (terms_cases f env us))
        ∙ ap (within 1) (all_weigh b us env once 0)
    weighs b (build of ss n ps us) env =
        records b env of n ss ps us (leaf true_term) (one_case 1) (ap (weigh term_size) (picked_leaf b true_term) ∙ ap one true_size) (all_weigh b us env (in_fields n ps) 0)
    weighs b (update of ss n t ps us) env =
        records b env of n ss ps us (term_cases f env t) (weight b f t) (weighs b t env) (all_weigh b us env (in_fields n ps) 0)
    weighs b (choice c s t) env =
        chosen_is b (formula_in f env c) (term_cases f env s) (term_cases f env t)
        ∙ ap (λ x. chosen b x (weigh term_size (picked b (term_cases f env s))) (weigh term_size (picked b (term_cases f env t)))) (claim_weighs c env)
        ∙ ap (λ x. chosen b (claim_size f c) x (weigh term_size (picked b (term_cases f env t)))) (weighs b s env)
        ∙ ap (chosen b (claim_size f c) (weight b f s)) (weighs b t env)

    all_weigh : (b : Bool) (us : Trees) (env : List ℕ) (g : ℕ → Stand) (i : ℕ) → weigh (sized g i) (picked b (terms_cases f env us)) ≡ all_standing g i (weight_list b f us)
    all_weigh b none env g i = ap (weigh (sized g i)) (picked_leaf b [])
    all_weigh b (more t us) env g i =
        let first = picked b (term_cases f env t) in
        let rest = picked b (terms_cases f env us) in
        let times = (g i).times in
        let levels = (g i).levels in
        ap (weigh (sized g i)) (picked_both b (term_cases f env t) (terms_cases f env us) (λ v vs. v ∷ vs))
        ∙ both (λ v. use_size times levels (term_size v)) (sized g (suc i)) (sized g i) 0 (λ v vs. v ∷ vs) (λ v vs. refl) first rest
        ∙ within_none (together (weigh (λ v. use_size times levels (term_size v)) first) (weigh (sized g (suc i)) rest))
        ∙ ap (λ x. together x (weigh (sized g (suc i)) rest)) (weigh_standing term_size times levels first ∙ ap (standing times levels) (weighs b t env))
        ∙ ap (together (standing times levels (weight b f t))) (all_weigh b us env g (suc i))

    -- the terms of triggers
    triggers_weigh : (ps : Patterns) (env : List ℕ) → pile (map term_size (all_terms (triggers_in f env ps))) ≡ pile (pattern_sizes f ps)
    triggers_weigh no_pattern env = refl
    triggers_weigh (and_pattern place us ps) env =
        let vs = value_of (terms_cases f env us) in
        let rest = all_terms (triggers_in f env ps) in
        let a = total_both (map term_size vs) (map term_size rest) in
        let b = deepest_both (map term_size vs) (map term_size rest) in
        let c : pile (map term_size vs) ≡ size_of (all_standing once 0 (weight_list true f us)) =
        sym (once_each 0 vs) ∙ same_size (sized once 0 vs) (size_of (one (sized once 0 vs))) (omega arith) (omega arith) ∙ ap size_of (all_weigh true us env once 0) in
        let d = triggers_weigh ps env in
        let e = ap (λ s. s.nodes) c in
        let g = ap (λ s. s.levels) c in
        let h = ap (λ s. s.nodes) d in
        let i = ap (λ s. s.levels) d in
        ap pile (map-append term_size vs rest)
        ∙ same_size (pile (map term_size vs ++ map term_size rest)) (pile (pattern_sizes f (and_pattern place us ps))) (omega arith) (omega arith)

    pub claim_weighs : (c : Claim) (env : List ℕ) → formula_size (formula_in f env c) ≡ claim_size f c
    claim_weighs truth env = size_true
    claim_weighs falsity env = size_false
    claim_weighs (relation r s t) env =
        size_of_cases (term_cases f env s |> λ u. term_cases f env t |> λ v. leaf (related r u v))
        ∙ ap size_of
        (both term_size term_size formula_size (relation_nodes r) (related r) (related_size r) (term_cases f env s) (term_cases f env t)
        ∙ ap (λ x. within (relation_nodes r) (together x (weigh term_size (term_cases f env t)))) (weighs false s env)
        ∙ ap (λ x. within (relation_nodes r) (together (weight false f s) x)) (weighs false t env))
    claim_weighs (predicate k ss us) env =
        size_of_cases (terms_cases f env us |> λ vs. leaf (Pred k (map (put f) ss) vs))
        ∙ ap size_of
        (changed (sized once 0) formula_size (λ vs. Pred k (map (put f) ss) vs) (wrap (sort_sizes f ss)) (pred_size f k ss) (wrap_branches (sort_sizes f ss)) (terms_cases f env us)
        ∙ ap (wrap (sort_sizes f ss)) (all_weigh false us env once 0))
    claim_weighs (distinct us) env =
        let n = count us in
        size_of_cases (terms_cases f env us |> λ vs. leaf (all_true (differences vs)))
        ∙ ap size_of
        (moved formula_size (λ vs. all_true (differences vs)) (terms_cases f env us)
        ∙ weigh_by (λ vs. length vs ≡ n) (sized (in_pairs n) 0) (λ vs. formula_size (all_true (differences vs))) (distinct_round n) (distinct_size n) (distinct_branches n) (terms_cases f env us) (lengths f env us)
        ∙ ap (distinct_round n) (all_weigh false us env (in_pairs n) 0)
        ∙ ap (λ k. distinct_round k (all_standing (in_pairs k) 0 (weight_list false f us))) (sym (weights_long false us)))
    claim_weighs (holds t) env =
        size_of_cases (term_cases f env t |> λ u. leaf (Eq u true_term))
        ∙ ap size_of
        (changed term_size formula_size (λ u. Eq u true_term) (wrap (round [] ∷ [])) holds_size (wrap_branches (round [] ∷ [])) (term_cases f env t)
        ∙ ap (wrap (round [] ∷ [])) (weighs false t env))
    claim_weighs (negation a) env = size_not (formula_in f env a) ∙ ap (λ x. round (x ∷ [])) (claim_weighs a env)
    claim_weighs (conjunction a b) env =
        size_and (formula_in f env a) (formula_in f env b) ∙ ap (λ x. round (x ∷ formula_size (formula_in f env b) ∷ [])) (claim_weighs a env)
        ∙ ap (λ x. round (claim_size f a ∷ x ∷ [])) (claim_weighs b env)
    claim_weighs (disjunction a b) env =
        size_or (formula_in f env a) (formula_in f env b) ∙ ap (λ x. round (x ∷ formula_size (formula_in f env b) ∷ [])) (claim_weighs a env)
        ∙ ap (λ x. round (claim_size f a ∷ x ∷ [])) (claim_weighs b env)
    claim_weighs (exclusion a b) env =
        size_xor (formula_in f env a) (formula_in f env b) ∙ ap (λ x. round (x ∷ formula_size (formula_in f env b) ∷ [])) (claim_weighs a env)
        ∙ ap (λ x. round (claim_size f a ∷ x ∷ [])) (claim_weighs b env)
    claim_weighs (equivalence a b) env =
        size_iff (formula_in f env a) (formula_in f env b) ∙ ap (λ x. round (x ∷ formula_size (formula_in f env b) ∷ [])) (claim_weighs a env)
        ∙ ap (λ x. round (claim_size f a ∷ x ∷ [])) (claim_weighs b env)
    claim_weighs (implication a b) env =
        size_or (Not (formula_in f env a)) (formula_in f env b)
        ∙ ap (λ x. round (x ∷ formula_size (formula_in f env b) ∷ [])) (size_not (formula_in f env a) ∙ ap (λ x. round (x ∷ [])) (claim_weighs a env))
        ∙ ap (λ x. round (round (claim_size f a ∷ []) ∷ x ∷ [])) (claim_weighs b env)
    claim_weighs (conditional c a b) env =
        size_either (formula_in f env c) (formula_in f env a) (formula_in f env b)
        ∙ ap (λ x. either_size x (formula_size (formula_in f env a)) (formula_size (formula_in f env b))) (claim_weighs c env)
        ∙ ap (λ x. either_size (claim_size f c) x (formula_size (formula_in f env b))) (claim_weighs a env)
        ∙ ap (either_size (claim_size f c) (claim_size f a)) (claim_weighs b env)
    claim_weighs (quantified q xs ss ps a) env =
        let inner = reverse xs ++ env in
        let ts = triggers_in f inner ps in
        let body = formula_in f inner a in
        over_size q (map (put f) ss) ts body
        ∙ ap (block_size (joins q ts (quantifier_of body)) (map sort_size (map (put f) ss) ++ map term_size (all_terms ts))) (claim_weighs a inner)
        ∙ ap (λ b. block_size b (map sort_size (map (put f) ss) ++ map term_size (all_terms ts)) (claim_size f a)) (joined_as f q ps a inner)
        ∙ ap (λ zs. block_size (merges q ps a) (zs ++ map term_size (all_terms ts)) (claim_size f a)) (sizes_same f ss)
        ∙ same_block (merges q ps a) (sort_sizes f ss) (map term_size (all_terms ts)) (pattern_sizes f ps) (claim_size f a) (triggers_weigh ps inner)
