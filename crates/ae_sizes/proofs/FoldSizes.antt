-- How large terms and formulas are, one variant after another.
use Rattle.std.proofs.Common.{arith, ◌≡◌, ◌∙◌, ℕ, ℤ, Bool, List, [], ◌∷◌, ◌++◌, map, refl, ap}
use Rattle.std.specs.List.{flat_map}
use Rattle.ae_core.specs.declared.terms.Sort.{Sort}
use Rattle.ae_core.specs.declared.terms.Head.{Head}
use Rattle.ae_core.specs.declared.terms.Head.TheVariants as head
use Rattle.ae_core.specs.declared.terms.Term.{Term, Bound, Num, Apply}
use Rattle.ae_core.specs.declared.formulas.Formula.{Formula, True, False, Eq, Lt, Le, Pred, Xor, Iff, All, Ex}
use Rattle.ae_core.specs.declared.formulas.Quant.{Quant}
use Rattle.ae_core.proofs.Recursion.{fold_bound, fold_num, fold_apply, fold_true, fold_false, fold_eq, fold_lt, fold_le, fold_pred, fold_xor, fold_iff, fold_all, fold_ex, fold_block}
use Rattle.ae_types.specs.Substitutions.{put}
use Rattle.ae_elab.specs.Elaboration.{related, true_term}
use Rattle.ae_elab.specs.Sizes.{Size, sort_size, term_size, term_size_step, formula_size, formula_size_step, quant_size_step, round}
use Rattle.ae_elab.specs.Trees.{Relation, equal, unequal, less, at_most, greater, at_least}
use Rattle.ae_elab.specs.Weights.{relation_nodes, sort_sizes}
use Rattle.ae_elab.proofs.WeightLaws.{same_size, pair_size, size_not}

pub size_bound : (i : ℕ) → term_size (Bound i) ≡ round []
unfolding term_size
size_bound = fold_bound Size term_size_step

pub size_num : (a b : ℤ) (r : Bool) → term_size (Num a b r) ≡ round []
unfolding term_size
size_num = fold_num Size term_size_step

pub size_apply : (h : Head) (ss : List Sort) (us : List Term) → term_size (Apply h ss us) ≡ round (map sort_size ss ++ map term_size us)
unfolding term_size
size_apply = fold_apply Size term_size_step

pub size_true : formula_size True ≡ round []
unfolding formula_size
size_true = fold_true Size Size formula_size_step quant_size_step

pub size_false : formula_size False ≡ round []
unfolding formula_size
size_false = fold_false Size Size formula_size_step quant_size_step

pub size_eq : (a b : Term) → formula_size (Eq a b) ≡ round (term_size a ∷ term_size b ∷ [])
unfolding formula_size
size_eq = fold_eq Size Size formula_size_step quant_size_step

size_lt : (a b : Term) → formula_size (Lt a b) ≡ round (term_size a ∷ term_size b ∷ [])
unfolding formula_size
size_lt = fold_lt Size Size formula_size_step quant_size_step

size_le : (a b : Term) → formula_size (Le a b) ≡ round (term_size a ∷ term_size b ∷ [])
unfolding formula_size
size_le = fold_le Size Size formula_size_step quant_size_step

pub size_pred : (p : ℕ) (ss : List Sort) (us : List Term) → formula_size (Pred p ss us) ≡ round (map sort_size ss ++ map term_size us)
unfolding formula_size
size_pred = fold_pred Size Size formula_size_step quant_size_step

pub size_xor : (a b : Formula) → formula_size (Xor a b) ≡ round (formula_size a ∷ formula_size b ∷ [])
unfolding formula_size
size_xor = fold_xor Size Size formula_size_step quant_size_step

pub size_iff : (a b : Formula) → formula_size (Iff a b) ≡ round (formula_size a ∷ formula_size b ∷ [])
unfolding formula_size
size_iff = fold_iff Size Size formula_size_step quant_size_step

abbrev quant_size : Quant → Size
quant_size q = round (map sort_size q.sorts ++ map term_size (flat_map (λ ts. ts) q.triggers) ++ formula_size q.body ∷ [])

pub size_all : (q : Quant) → formula_size (All q) ≡ quant_size q
unfolding formula_size
size_all q = fold_all Size Size formula_size_step quant_size_step q ∙ fold_block Size Size formula_size_step quant_size_step q

pub size_ex : (q : Quant) → formula_size (Ex q) ≡ quant_size q
unfolding formula_size
size_ex q = fold_ex Size Size formula_size_step quant_size_step q ∙ fold_block Size Size formula_size_step quant_size_step q

-- ---- what atoms are made of
pub sizes_same : (f : ℕ → Sort) (ss : List Sort) → map sort_size (map (put f) ss) ≡ sort_sizes f ss
sizes_same f [] = refl
sizes_same f (s ∷ ss) = ap (λ xs. sort_size (put f s) ∷ xs) (sizes_same f ss)

pub true_size : term_size true_term ≡ round []
true_size = size_apply head.True [] []

pub related_size : (r : Relation) (s t : Term) → formula_size (related r s t) ≡ pair_size (relation_nodes r) (term_size s) (term_size t)
related_size equal s t = size_eq s t ∙ same_size (round (term_size s ∷ term_size t ∷ [])) (pair_size 1 (term_size s) (term_size t)) (omega arith) (omega arith)
related_size unequal s t =
    size_not (Eq s t) ∙ ap (λ x. round (x ∷ [])) (size_eq s t)
    ∙ same_size (round (round (term_size s ∷ term_size t ∷ []) ∷ [])) (pair_size 2 (term_size s) (term_size t)) (omega arith) (omega arith)
related_size less s t = size_lt s t ∙ same_size (round (term_size s ∷ term_size t ∷ [])) (pair_size 1 (term_size s) (term_size t)) (omega arith) (omega arith)
related_size at_most s t = size_le s t ∙ same_size (round (term_size s ∷ term_size t ∷ [])) (pair_size 1 (term_size s) (term_size t)) (omega arith) (omega arith)
related_size greater s t = size_lt t s ∙ same_size (round (term_size t ∷ term_size s ∷ [])) (pair_size 1 (term_size s) (term_size t)) (omega arith) (omega arith)
related_size at_least s t = size_le t s ∙ same_size (round (term_size t ∷ term_size s ∷ [])) (pair_size 1 (term_size s) (term_size t)) (omega arith) (omega arith)
