-- Where each term of a formula gives way to one whose constants are below a number as well, those of the formula stay below it: so where sorts are put for
-- type variables, and terms for a block's variables.
use Rattle.std.specs.Prelude.{ℕ, ◌+◌, ◌≡◌, List, ◌++◌, map, length}
use Rattle.std.specs.List.{AllByRecursion, flat_map}
use Rattle.std.proofs.Common.{sym, subst}
use Rattle.ae_base.proofs.AllOf.{all_weaker, all_of_map}
use Rattle.ae_core.specs.Constants.{constants, formula_constants}
use Rattle.ae_core.specs.Inner.Induction.{by_formulas}
use Rattle.ae_core.specs.Putting.{put_sort, put_terms, put_formula, put_formula_in, put_quant_in, instance, instance_quant, instance_term}
use Rattle.ae_core.proofs.PuttingLaws.{put_true, put_false, put_eq, put_lt, put_le, put_pred, put_not, put_and, put_or, put_xor, put_iff, put_all, put_ex, put_block}
use Rattle.ae_core.proofs.PuttingLaws.{instance_true, instance_false, instance_eq, instance_lt, instance_le, instance_pred, instance_not, instance_and, instance_or, instance_xor, instance_iff, instance_all, instance_ex, instance_block}
use Rattle.ae_core.specs.declared.formulas.Formula.{Formula, Formula-F, Eq, Lt, Le, Pred, Not, And, Or, Xor, Iff, All, Ex, out-Formula}
use Rattle.ae_core.specs.declared.formulas.Formula.TheOpen as layer
use Rattle.ae_core.specs.declared.formulas.Formula.TheVariants.{outs-Eq, outs-Lt, outs-Le, outs-Pred, outs-Not, outs-And, outs-Or, outs-Xor, outs-Iff, outs-All, outs-Ex}
use Rattle.ae_core.specs.declared.formulas.Quant.{Quant}
use Rattle.ae_core.specs.declared.terms.Sort.{Sort}
use Rattle.ae_core.specs.declared.terms.Term.{Term}
use Rattle.ae_new_constants.specs.Below.{AreBelow, IsTermBelow, IsFormulaBelow}
use Rattle.ae_new_constants.proofs.Lists.{both_below, left_below, right_below, each_below, all_below}
use Rattle.ae_new_constants.proofs.Terms.{sorts_put, terms_put}
use Rattle.ae_new_constants.proofs.Formulas.{block_constants, of_layer, by_block, to_layer, from_layer}

module _ (n : ℕ) where
  -- ---- terms, each by another one
  module _ (φ : Term → Term) (keeps : (t : Term) → IsTermBelow n t → IsTermBelow n (φ t)) where
    each : (us : List Term) → AreBelow n (flat_map constants us) → AreBelow n (flat_map constants (map φ us))
    each us a =
        each_below n constants (map φ us) (all_of_map (IsTermBelow n) φ us (all_weaker (IsTermBelow n) (λ u. IsTermBelow n (φ u)) keeps us (all_below n constants us a)))

    both_sides : (x y : Term) → AreBelow n (constants x ++ constants y) → AreBelow n (constants (φ x) ++ constants (φ y))
    both_sides x y a = both_below n (constants (φ x)) (constants (φ y)) (keeps x (left_below n (constants x) (constants y) a)) (keeps y (right_below n (constants x) (constants y) a))

    triggers : (us : List (List Term)) → AreBelow n (flat_map (flat_map constants) us) → AreBelow n (flat_map (flat_map constants) (map (map φ) us))
    triggers us a =
        each_below n (flat_map constants) (map (map φ) us)
        (all_of_map (λ (w : List Term). AreBelow n (flat_map constants w)) (map φ) us
        (all_weaker (λ (w : List Term). AreBelow n (flat_map constants w)) (λ w. AreBelow n (flat_map constants (map φ w))) each us (all_below n (flat_map constants) us a)))

  -- ---- formulas with the same head
  moved : (f h : Formula) (o w : Formula-F Formula Quant) → out-Formula f ≡ o → out-Formula h ≡ w → (AreBelow n (of_layer o) → AreBelow n (of_layer w)) → IsFormulaBelow n f → IsFormulaBelow n h
  moved f h o w e d k a = from_layer n h w d (k (to_layer n f o e a))

  two : (x y u v : Formula) → (IsFormulaBelow n x → IsFormulaBelow n u) → (IsFormulaBelow n y → IsFormulaBelow n v)
      → AreBelow n (formula_constants x ++ formula_constants y) → AreBelow n (formula_constants u ++ formula_constants v)
  two x y u v h k a =
      both_below n (formula_constants u) (formula_constants v) (h (left_below n (formula_constants x) (formula_constants y) a)) (k (right_below n (formula_constants x) (formula_constants y) a))

  abbrev IsBlockBelow : Quant → Type 0
  IsBlockBelow q = AreBelow n (block_constants q)

  blocks : (q r : Quant) → (AreBelow n (flat_map (flat_map constants) q.triggers) → AreBelow n (flat_map (flat_map constants) r.triggers)) → (IsFormulaBelow n q.body → IsFormulaBelow n r.body) → IsBlockBelow q → IsBlockBelow r
  blocks q r h k a =
      let b = subst (AreBelow n) (by_block q) a in
      subst (AreBelow n) (sym (by_block r))
      (both_below n (flat_map (flat_map constants) r.triggers) (formula_constants r.body) (h (left_below n (flat_map (flat_map constants) q.triggers) (formula_constants q.body) b))
      (k (right_below n (flat_map (flat_map constants) q.triggers) (formula_constants q.body) b)))

  -- ---- sorts for type variables
  module _ (ss : List Sort) where
    abbrev S : Term → Term
    S = instance_term ss

    abbrev I : Formula → Formula
    I = instance ss

    pub formula_sorts_put : (f : Formula) → IsFormulaBelow n f → IsFormulaBelow n (instance ss f)
    formula_sorts_put =
        by_formulas (λ f. IsFormulaBelow n f → IsFormulaBelow n (instance ss f)) (λ q. IsBlockBelow q → IsBlockBelow (instance_quant ss q))
        (λ a. subst (IsFormulaBelow n) (sym (instance_true ss)) a)
        (λ a. subst (IsFormulaBelow n) (sym (instance_false ss)) a)
        (λ x y a. subst (IsFormulaBelow n) (sym (instance_eq ss x y)) (moved (Eq x y) (Eq (S x) (S y)) (layer.Eq x y) (layer.Eq (S x) (S y)) (outs-Eq x y) (outs-Eq (S x) (S y)) (both_sides S (sorts_put n ss) x y) a))
        (λ x y a. subst (IsFormulaBelow n) (sym (instance_lt ss x y)) (moved (Lt x y) (Lt (S x) (S y)) (layer.Lt x y) (layer.Lt (S x) (S y)) (outs-Lt x y) (outs-Lt (S x) (S y)) (both_sides S (sorts_put n ss) x y) a))
        (λ x y a. subst (IsFormulaBelow n) (sym (instance_le ss x y)) (moved (Le x y) (Le (S x) (S y)) (layer.Le x y) (layer.Le (S x) (S y)) (outs-Le x y) (outs-Le (S x) (S y)) (both_sides S (sorts_put n ss) x y) a))
        (λ p os us a. subst (IsFormulaBelow n) (sym (instance_pred ss p os us))
        (moved (Pred p os us) (Pred p (map (put_sort ss) os) (map S us)) (layer.Pred p os us) (layer.Pred p (map (put_sort ss) os) (map S us)) (outs-Pred p os us) (outs-Pred p (map (put_sort ss) os) (map S us)) (each S (sorts_put n ss) us) a))
        (λ x h a. subst (IsFormulaBelow n) (sym (instance_not ss x)) (moved (Not x) (Not (I x)) (layer.Not x) (layer.Not (I x)) (outs-Not x) (outs-Not (I x)) h a))
        (λ x y h k a. subst (IsFormulaBelow n) (sym (instance_and ss x y)) (moved (And x y) (And (I x) (I y)) (layer.And x y) (layer.And (I x) (I y)) (outs-And x y) (outs-And (I x) (I y)) (two x y (I x) (I y) h k) a))
        (λ x y h k a. subst (IsFormulaBelow n) (sym (instance_or ss x y)) (moved (Or x y) (Or (I x) (I y)) (layer.Or x y) (layer.Or (I x) (I y)) (outs-Or x y) (outs-Or (I x) (I y)) (two x y (I x) (I y) h k) a))
        (λ x y h k a. subst (IsFormulaBelow n) (sym (instance_xor ss x y)) (moved (Xor x y) (Xor (I x) (I y)) (layer.Xor x y) (layer.Xor (I x) (I y)) (outs-Xor x y) (outs-Xor (I x) (I y)) (two x y (I x) (I y) h k) a))
        (λ x y h k a. subst (IsFormulaBelow n) (sym (instance_iff ss x y)) (moved (Iff x y) (Iff (I x) (I y)) (layer.Iff x y) (layer.Iff (I x) (I y)) (outs-Iff x y) (outs-Iff (I x) (I y)) (two x y (I x) (I y) h k) a))
        (λ q h a. subst (IsFormulaBelow n) (sym (instance_all ss q)) (moved (All q) (All (instance_quant ss q)) (layer.All q) (layer.All (instance_quant ss q)) (outs-All q) (outs-All (instance_quant ss q)) h a))
        (λ q h a. subst (IsFormulaBelow n) (sym (instance_ex ss q)) (moved (Ex q) (Ex (instance_quant ss q)) (layer.Ex q) (layer.Ex (instance_quant ss q)) (outs-Ex q) (outs-Ex (instance_quant ss q)) h a))
        (λ q h a. subst IsBlockBelow (sym (instance_block ss q)) (blocks q (record { sorts = map (put_sort ss) q.sorts; triggers = map (map S) q.triggers; body = I q.body }) (triggers S (sorts_put n ss) q.triggers) h a))

  -- ---- terms for a block's variables, under d inner ones
  module _ (ts : List Term) (all : AllByRecursion (IsTermBelow n) ts) where
    abbrev R : ℕ → Term → Term
    R d = put_terms d ts

    abbrev P : ℕ → Formula → Formula
    P d = put_formula_in d ts

    put_in : (f : Formula) (d : ℕ) → IsFormulaBelow n f → IsFormulaBelow n (put_formula_in d ts f)
    put_in =
        by_formulas (λ f. (d : ℕ) → IsFormulaBelow n f → IsFormulaBelow n (put_formula_in d ts f)) (λ q. (d : ℕ) → IsBlockBelow q → IsBlockBelow (put_quant_in d ts q))
        (λ d a. subst (IsFormulaBelow n) (sym (put_true d ts)) a)
        (λ d a. subst (IsFormulaBelow n) (sym (put_false d ts)) a)
        (λ x y d a. subst (IsFormulaBelow n) (sym (put_eq d ts x y)) (moved (Eq x y) (Eq (R d x) (R d y)) (layer.Eq x y) (layer.Eq (R d x) (R d y)) (outs-Eq x y) (outs-Eq (R d x) (R d y)) (both_sides (R d) (terms_put n ts all d) x y) a))
        (λ x y d a. subst (IsFormulaBelow n) (sym (put_lt d ts x y)) (moved (Lt x y) (Lt (R d x) (R d y)) (layer.Lt x y) (layer.Lt (R d x) (R d y)) (outs-Lt x y) (outs-Lt (R d x) (R d y)) (both_sides (R d) (terms_put n ts all d) x y) a))
        (λ x y d a. subst (IsFormulaBelow n) (sym (put_le d ts x y)) (moved (Le x y) (Le (R d x) (R d y)) (layer.Le x y) (layer.Le (R d x) (R d y)) (outs-Le x y) (outs-Le (R d x) (R d y)) (both_sides (R d) (terms_put n ts all d) x y) a))
        (λ p os us d a. subst (IsFormulaBelow n) (sym (put_pred d ts p os us))
        (moved (Pred p os us) (Pred p os (map (R d) us)) (layer.Pred p os us) (layer.Pred p os (map (R d) us)) (outs-Pred p os us) (outs-Pred p os (map (R d) us)) (each (R d) (terms_put n ts all d) us) a))
        (λ x h d a. subst (IsFormulaBelow n) (sym (put_not d ts x)) (moved (Not x) (Not (P d x)) (layer.Not x) (layer.Not (P d x)) (outs-Not x) (outs-Not (P d x)) (h d) a))
        (λ x y h k d a. subst (IsFormulaBelow n) (sym (put_and d ts x y)) (moved (And x y) (And (P d x) (P d y)) (layer.And x y) (layer.And (P d x) (P d y)) (outs-And x y) (outs-And (P d x) (P d y)) (two x y (P d x) (P d y) (h d) (k d)) a))
        (λ x y h k d a. subst (IsFormulaBelow n) (sym (put_or d ts x y)) (moved (Or x y) (Or (P d x) (P d y)) (layer.Or x y) (layer.Or (P d x) (P d y)) (outs-Or x y) (outs-Or (P d x) (P d y)) (two x y (P d x) (P d y) (h d) (k d)) a))
        (λ x y h k d a. subst (IsFormulaBelow n) (sym (put_xor d ts x y)) (moved (Xor x y) (Xor (P d x) (P d y)) (layer.Xor x y) (layer.Xor (P d x) (P d y)) (outs-Xor x y) (outs-Xor (P d x) (P d y)) (two x y (P d x) (P d y) (h d) (k d)) a))
        (λ x y h k d a. subst (IsFormulaBelow n) (sym (put_iff d ts x y)) (moved (Iff x y) (Iff (P d x) (P d y)) (layer.Iff x y) (layer.Iff (P d x) (P d y)) (outs-Iff x y) (outs-Iff (P d x) (P d y)) (two x y (P d x) (P d y) (h d) (k d)) a))
        (λ q h d a. subst (IsFormulaBelow n) (sym (put_all d ts q)) (moved (All q) (All (put_quant_in d ts q)) (layer.All q) (layer.All (put_quant_in d ts q)) (outs-All q) (outs-All (put_quant_in d ts q)) (h d) a))
        (λ q h d a. subst (IsFormulaBelow n) (sym (put_ex d ts q)) (moved (Ex q) (Ex (put_quant_in d ts q)) (layer.Ex q) (layer.Ex (put_quant_in d ts q)) (outs-Ex q) (outs-Ex (put_quant_in d ts q)) (h d) a))
        (λ q h d a. let m = d + length q.sorts in
        subst IsBlockBelow (sym (put_block d ts q)) (blocks q (record { sorts = q.sorts; triggers = map (map (R m)) q.triggers; body = P m q.body }) (triggers (R m) (terms_put n ts all m) q.triggers) (h m) a))

    pub formula_put : (f : Formula) → IsFormulaBelow n f → IsFormulaBelow n (put_formula ts f)
    formula_put f a = put_in f 0 a
