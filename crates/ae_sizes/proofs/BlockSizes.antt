-- How large a block is, merged with its body or not; and which formulas are blocks.
use Rattle.std.proofs.Common.{arith, ◌≡◌, ◌∙◌, ℕ, Bool, true, false, Option, Some, None, List, [], ◌∷◌, ◌++◌, map, refl, sym, ap}
use Rattle.std.specs.List.{flat_map}
use Rattle.std.proofs.lemmas.List.{map-append}
use Rattle.ae_core.specs.declared.terms.Sort.{Sort}
use Rattle.ae_core.specs.declared.terms.Term.{Term}
use Rattle.ae_core.specs.declared.formulas.Formula.{Formula, Formula-F, True, False, Eq, Pred, Not, And, Or, Xor, Iff, All, Ex, out-Formula, roll-Formula, roll-out-Formula}
use Rattle.ae_core.specs.declared.formulas.Formula.TheOpen as layer
use Rattle.ae_core.specs.declared.formulas.Formula.TheVariants.{rolls-All, rolls-Ex, outs-True, outs-False, outs-Eq, outs-Lt, outs-Le, outs-Pred, outs-Not, outs-And, outs-Or, outs-Xor, outs-Iff, outs-All, outs-Ex}
use Rattle.ae_core.specs.declared.formulas.Quant.{Quant}
use Rattle.ae_syntax.specs.declared.exprs.Quantifier.{Quantifier}
use Rattle.ae_syntax.specs.declared.exprs.Quantifier.TheVariants.{Forall, Exists}
use Rattle.ae_elab.specs.Elaboration.{Cases, leaf, branch, ◌|>◌, formula_of, related, differs_from, differences, all_after, all_true, block, merged_quant, all_over, some_over, over}
use Rattle.ae_elab.specs.Formulas.{same_quantifier}
use Rattle.ae_elab.specs.Sizes.{Size, sort_size, term_size, formula_size, round}
use Rattle.ae_elab.specs.Trees.{Relation, equal, unequal, less, at_most, greater, at_least}
use Rattle.ae_elab.specs.Weights.{block_size}
use Rattle.ae_elab.proofs.WeightLaws.{same_size}
use Rattle.ae_sizes.proofs.CountedLaws.{total_both, deepest_both}
use Rattle.ae_sizes.proofs.FoldSizes.{size_all, size_ex}

-- ---- the quantifier of the block that a formula is
abbrev layer_block : Formula-F Formula Quant → Option Quantifier
layer_block (layer.All q) = Some Forall
layer_block (layer.Ex q) = Some Exists
layer_block l = None

abbrev pub quantifier_of : Formula → Option Quantifier
quantifier_of f = layer_block (out-Formula f)

pub no_true : quantifier_of True ≡ None
no_true = ap layer_block outs-True

pub no_false : quantifier_of False ≡ None
no_false = ap layer_block outs-False

pub no_eq : (a b : Term) → quantifier_of (Eq a b) ≡ None
no_eq a b = ap layer_block (outs-Eq a b)

pub no_pred : (k : ℕ) (ss : List Sort) (us : List Term) → quantifier_of (Pred k ss us) ≡ None
no_pred k ss us = ap layer_block (outs-Pred k ss us)

pub no_not : (a : Formula) → quantifier_of (Not a) ≡ None
no_not a = ap layer_block (outs-Not a)

pub no_and : (a b : Formula) → quantifier_of (And a b) ≡ None
no_and a b = ap layer_block (outs-And a b)

pub no_or : (a b : Formula) → quantifier_of (Or a b) ≡ None
no_or a b = ap layer_block (outs-Or a b)

pub no_xor : (a b : Formula) → quantifier_of (Xor a b) ≡ None
no_xor a b = ap layer_block (outs-Xor a b)

pub no_iff : (a b : Formula) → quantifier_of (Iff a b) ≡ None
no_iff a b = ap layer_block (outs-Iff a b)

pub no_related : (r : Relation) (s t : Term) → quantifier_of (related r s t) ≡ None
no_related equal s t = no_eq s t
no_related unequal s t = no_not (Eq s t)
no_related less s t = ap layer_block (outs-Lt s t)
no_related at_most s t = ap layer_block (outs-Le s t)
no_related greater s t = ap layer_block (outs-Lt t s)
no_related at_least s t = ap layer_block (outs-Le t s)

-- a conjunction of inequalities
no_after : (f : Formula) (gs : List Formula) → quantifier_of f ≡ None → quantifier_of (all_after f gs) ≡ None
no_after f [] e = e
no_after f (g ∷ gs) e = no_after (And f g) gs (no_and f g)

pub no_differences : (us : List Term) → quantifier_of (all_true (differences us)) ≡ None
no_differences [] = no_true
no_differences (u ∷ []) = no_true
no_differences (u ∷ v ∷ us) = no_after (Not (Eq u v)) (differs_from u us ++ differences (v ∷ us)) (no_not (Eq u v))

-- an atom under the conditions of its cases
pub no_cases : {A : Type 0} (g : A → Formula) → ((x : A) → quantifier_of (g x) ≡ None) → (cs : Cases A) → quantifier_of (formula_of (cs |> λ x. leaf (g x))) ≡ None
no_cases g e (leaf x) = e x
no_cases g e (branch c a b) = no_and (Or (Not c) (formula_of (a |> λ x. leaf (g x)))) (Or c (formula_of (b |> λ x. leaf (g x))))

pub no_two : {A B : Type 0} (g : A → B → Formula) → ((x : A) (y : B) → quantifier_of (g x y) ≡ None) → (cs : Cases A) (ds : Cases B)
    → quantifier_of (formula_of (cs |> λ x. ds |> λ y. leaf (g x y))) ≡ None
no_two g e (leaf x) ds = no_cases (g x) (e x) ds
no_two g e (branch c a b) ds =
    no_and (Or (Not c) (formula_of (a |> λ x. ds |> λ y. leaf (g x y)))) (Or c (formula_of (b |> λ x. ds |> λ y. leaf (g x y))))

-- ---- blocks
abbrev around : List Sort → List (List Term) → List Size
around ss ts = map sort_size ss ++ map term_size (flat_map (λ us. us) ts)

-- whether a block without triggers is merged with a body of this quantifier
abbrev pub joins : Quantifier → List (List Term) → Option Quantifier → Bool
joins q [] (Some r) = same_quantifier q r
joins q [] None = false
joins q (t ∷ ts) o = false

merged_is : (ss : List Sort) (q : Quant)
    → round (map sort_size (ss ++ q.sorts) ++ map term_size (flat_map (λ ts. ts) q.triggers) ++ formula_size q.body ∷ [])
    ≡ block_size true (around ss []) (round (map sort_size q.sorts ++ map term_size (flat_map (λ ts. ts) q.triggers) ++ formula_size q.body ∷ []))
merged_is ss q =
    let xs = map sort_size ss in
    let ys = map sort_size q.sorts in
    let ts = map term_size (flat_map (λ us. us) q.triggers) in
    let b = formula_size q.body ∷ [] in
    let c = total_both ((xs ++ ys) ++ ts) b in
    let d = total_both (xs ++ ys) ts in
    let e = total_both xs ys in
    let f = total_both (ys ++ ts) b in
    let g = total_both ys ts in
    let h = total_both xs [] in
    let i = deepest_both ((xs ++ ys) ++ ts) b in
    let j = deepest_both (xs ++ ys) ts in
    let k = deepest_both xs ys in
    let l = deepest_both (ys ++ ts) b in
    let m = deepest_both ys ts in
    let n = deepest_both xs [] in
    ap (λ us. round ((us ++ ts) ++ b)) (map-append sort_size ss q.sorts)
    ∙ same_size (round (((xs ++ ys) ++ ts) ++ b)) (block_size true (xs ++ []) (round ((ys ++ ts) ++ b))) (omega arith) (omega arith)

all_alone : (ss : List Sort) (ts : List (List Term)) (f : Formula) → formula_size (All (block ss ts f)) ≡ block_size false (around ss ts) (formula_size f)
all_alone ss ts f = size_all (block ss ts f)

ex_alone : (ss : List Sort) (ts : List (List Term)) (f : Formula) → formula_size (Ex (block ss ts f)) ≡ block_size false (around ss ts) (formula_size f)
ex_alone ss ts f = size_ex (block ss ts f)

all_layer : (ss : List Sort) (f : Formula) (l : Formula-F Formula Quant) → out-Formula f ≡ l
    → formula_size (all_over ss f l) ≡ block_size (joins Forall [] (layer_block l)) (around ss []) (formula_size f)
all_layer ss f (layer.All q) e =
    size_all (merged_quant ss q) ∙ merged_is ss q
    ∙ ap (block_size true (around ss [])) (sym (size_all q) ∙ ap formula_size (sym (rolls-All q) ∙ ap roll-Formula (sym e) ∙ roll-out-Formula f))
all_layer ss f layer.True e = all_alone ss [] f
all_layer ss f layer.False e = all_alone ss [] f
all_layer ss f (layer.Eq a b) e = all_alone ss [] f
all_layer ss f (layer.Lt a b) e = all_alone ss [] f
all_layer ss f (layer.Le a b) e = all_alone ss [] f
all_layer ss f (layer.Pred p us vs) e = all_alone ss [] f
all_layer ss f (layer.Not a) e = all_alone ss [] f
all_layer ss f (layer.And a b) e = all_alone ss [] f
all_layer ss f (layer.Or a b) e = all_alone ss [] f
all_layer ss f (layer.Xor a b) e = all_alone ss [] f
all_layer ss f (layer.Iff a b) e = all_alone ss [] f
all_layer ss f (layer.Ex q) e = all_alone ss [] f

ex_layer : (ss : List Sort) (f : Formula) (l : Formula-F Formula Quant) → out-Formula f ≡ l
    → formula_size (some_over ss f l) ≡ block_size (joins Exists [] (layer_block l)) (around ss []) (formula_size f)
ex_layer ss f (layer.Ex q) e =
    size_ex (merged_quant ss q) ∙ merged_is ss q
    ∙ ap (block_size true (around ss [])) (sym (size_ex q) ∙ ap formula_size (sym (rolls-Ex q) ∙ ap roll-Formula (sym e) ∙ roll-out-Formula f))
ex_layer ss f layer.True e = ex_alone ss [] f
ex_layer ss f layer.False e = ex_alone ss [] f
ex_layer ss f (layer.Eq a b) e = ex_alone ss [] f
ex_layer ss f (layer.Lt a b) e = ex_alone ss [] f
ex_layer ss f (layer.Le a b) e = ex_alone ss [] f
ex_layer ss f (layer.Pred p us vs) e = ex_alone ss [] f
ex_layer ss f (layer.Not a) e = ex_alone ss [] f
ex_layer ss f (layer.And a b) e = ex_alone ss [] f
ex_layer ss f (layer.Or a b) e = ex_alone ss [] f
ex_layer ss f (layer.Xor a b) e = ex_alone ss [] f
ex_layer ss f (layer.Iff a b) e = ex_alone ss [] f
ex_layer ss f (layer.All q) e = ex_alone ss [] f

pub over_size : (q : Quantifier) (ss : List Sort) (ts : List (List Term)) (f : Formula)
    → formula_size (over q ss ts f) ≡ block_size (joins q ts (quantifier_of f)) (around ss ts) (formula_size f)
over_size Forall ss [] f = all_layer ss f (out-Formula f) refl
over_size Exists ss [] f = ex_layer ss f (out-Formula f) refl
over_size Forall ss (t ∷ ts) f = all_alone ss (t ∷ ts) f
over_size Exists ss (t ∷ ts) f = ex_alone ss (t ∷ ts) f

-- a block is one of its quantifier
all_block : (ss : List Sort) (f : Formula) (l : Formula-F Formula Quant) → quantifier_of (all_over ss f l) ≡ Some Forall
all_block ss f (layer.All q) = ap layer_block (outs-All (merged_quant ss q))
all_block ss f layer.True = ap layer_block (outs-All (block ss [] f))
all_block ss f layer.False = ap layer_block (outs-All (block ss [] f))
all_block ss f (layer.Eq a b) = ap layer_block (outs-All (block ss [] f))
all_block ss f (layer.Lt a b) = ap layer_block (outs-All (block ss [] f))
all_block ss f (layer.Le a b) = ap layer_block (outs-All (block ss [] f))
all_block ss f (layer.Pred p us vs) = ap layer_block (outs-All (block ss [] f))
all_block ss f (layer.Not a) = ap layer_block (outs-All (block ss [] f))
all_block ss f (layer.And a b) = ap layer_block (outs-All (block ss [] f))
all_block ss f (layer.Or a b) = ap layer_block (outs-All (block ss [] f))
all_block ss f (layer.Xor a b) = ap layer_block (outs-All (block ss [] f))
all_block ss f (layer.Iff a b) = ap layer_block (outs-All (block ss [] f))
all_block ss f (layer.Ex q) = ap layer_block (outs-All (block ss [] f))

ex_block : (ss : List Sort) (f : Formula) (l : Formula-F Formula Quant) → quantifier_of (some_over ss f l) ≡ Some Exists
ex_block ss f (layer.Ex q) = ap layer_block (outs-Ex (merged_quant ss q))
ex_block ss f layer.True = ap layer_block (outs-Ex (block ss [] f))
ex_block ss f layer.False = ap layer_block (outs-Ex (block ss [] f))
ex_block ss f (layer.Eq a b) = ap layer_block (outs-Ex (block ss [] f))
ex_block ss f (layer.Lt a b) = ap layer_block (outs-Ex (block ss [] f))
ex_block ss f (layer.Le a b) = ap layer_block (outs-Ex (block ss [] f))
ex_block ss f (layer.Pred p us vs) = ap layer_block (outs-Ex (block ss [] f))
ex_block ss f (layer.Not a) = ap layer_block (outs-Ex (block ss [] f))
ex_block ss f (layer.And a b) = ap layer_block (outs-Ex (block ss [] f))
ex_block ss f (layer.Or a b) = ap layer_block (outs-Ex (block ss [] f))
ex_block ss f (layer.Xor a b) = ap layer_block (outs-Ex (block ss [] f))
ex_block ss f (layer.Iff a b) = ap layer_block (outs-Ex (block ss [] f))
ex_block ss f (layer.All q) = ap layer_block (outs-Ex (block ss [] f))

pub over_block : (q : Quantifier) (ss : List Sort) (ts : List (List Term)) (f : Formula) → quantifier_of (over q ss ts f) ≡ Some q
over_block Forall ss [] f = all_block ss f (out-Formula f)
over_block Exists ss [] f = ex_block ss f (out-Formula f)
over_block Forall ss (t ∷ ts) f = ap layer_block (outs-All (block ss (t ∷ ts) f))
over_block Exists ss (t ∷ ts) f = ap layer_block (outs-Ex (block ss (t ∷ ts) f))
