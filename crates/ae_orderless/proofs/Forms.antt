-- Formulas without inequality: form by form, their parts, sorts and terms put in them, and that they are no inequalities.
use Rattle.std.specs.Prelude.{ℕ, ◌+◌, Bool, true, false, ◌&&◌, List, [], ◌∷◌, ◌≡◌, length, map, None}
use Rattle.std.specs.List.{AllByRecursion, Contains}
use Rattle.std.proofs.Common.{refl, sym, ap, ◌∙◌, subst}
use Rattle.std.proofs.lemmas.Bool.{and_parts}
use Rattle.ae_base.proofs.Tests.{false_true}
use Rattle.ae_core.specs.Inner.Induction.{by_formulas}
use Rattle.ae_core.specs.Putting.{put_sort, instance_term, instance, instance_quant, put_terms, put_formula_in, put_quant_in}
use Rattle.ae_core.specs.declared.formulas.Formula.{Formula, Formula-F, True, False, Eq, Lt, Le, Pred, Not, And, Or, Xor, Iff, All, Ex, out-Formula, roll-Formula, roll-out-Formula}
use Rattle.ae_core.specs.declared.formulas.Formula.TheOpen as layer
use Rattle.ae_core.specs.declared.formulas.Formula.TheVariants.{outs-True, outs-False, outs-Eq, outs-Lt, outs-Le, outs-Pred, outs-Not, outs-And, outs-Or, outs-Xor, outs-Iff, outs-All, outs-Ex, rolls-Lt, rolls-Le}
use Rattle.ae_core.specs.declared.formulas.Lit.{Lit}
use Rattle.ae_core.specs.declared.formulas.Quant.{Quant}
use Rattle.ae_core.specs.declared.terms.Sort.{Sort}
use Rattle.ae_core.specs.declared.terms.Term.{Term}
use Rattle.ae_core.proofs.PuttingLaws.{instance_true, instance_false, instance_eq, instance_lt, instance_le, instance_pred, instance_not, instance_and, instance_or, instance_xor, instance_iff, instance_all, instance_ex, instance_block}
use Rattle.ae_core.proofs.PuttingLaws.{put_true, put_false, put_eq, put_lt, put_le, put_pred, put_not, put_and, put_or, put_xor, put_iff, put_all, put_ex, put_block}
use Rattle.ae_core.proofs.Recursion.{fold_true, fold_false, fold_eq, fold_lt, fold_le, fold_pred, fold_not, fold_and, fold_or, fold_xor, fold_iff, fold_all, fold_ex, fold_block}
use Rattle.ae_journal.proofs.Splits.{all_contained}
use Rattle.ae_journal.specs.Standing.{parts_by, parts_of}
use Rattle.ae_journal.specs.States.{inequality_of, inequality}
use Rattle.ae_orderless.specs.Orderless.{orderless_step, orderless_body, is_orderless}

abbrev pub IsOrderless : Formula → Type 0
IsOrderless f = is_orderless f ≡ true

-- ---- each form of formula
pub orderless_true : is_orderless True ≡ true
unfolding is_orderless
orderless_true = fold_true Bool Bool orderless_step orderless_body

pub orderless_false : is_orderless False ≡ true
unfolding is_orderless
orderless_false = fold_false Bool Bool orderless_step orderless_body

pub orderless_eq : (a b : Term) → is_orderless (Eq a b) ≡ true
unfolding is_orderless
orderless_eq a b = fold_eq Bool Bool orderless_step orderless_body a b

pub orderless_lt : (a b : Term) → is_orderless (Lt a b) ≡ false
unfolding is_orderless
orderless_lt a b = fold_lt Bool Bool orderless_step orderless_body a b

pub orderless_le : (a b : Term) → is_orderless (Le a b) ≡ false
unfolding is_orderless
orderless_le a b = fold_le Bool Bool orderless_step orderless_body a b

pub orderless_pred : (n : ℕ) (ss : List Sort) (us : List Term) → is_orderless (Pred n ss us) ≡ true
unfolding is_orderless
orderless_pred n ss us = fold_pred Bool Bool orderless_step orderless_body n ss us

pub orderless_not : (a : Formula) → is_orderless (Not a) ≡ is_orderless a
unfolding is_orderless
orderless_not a = fold_not Bool Bool orderless_step orderless_body a

pub orderless_and : (a b : Formula) → is_orderless (And a b) ≡ is_orderless a && is_orderless b
unfolding is_orderless
orderless_and a b = fold_and Bool Bool orderless_step orderless_body a b

pub orderless_or : (a b : Formula) → is_orderless (Or a b) ≡ is_orderless a && is_orderless b
unfolding is_orderless
orderless_or a b = fold_or Bool Bool orderless_step orderless_body a b

pub orderless_xor : (a b : Formula) → is_orderless (Xor a b) ≡ is_orderless a && is_orderless b
unfolding is_orderless
orderless_xor a b = fold_xor Bool Bool orderless_step orderless_body a b

pub orderless_iff : (a b : Formula) → is_orderless (Iff a b) ≡ is_orderless a && is_orderless b
unfolding is_orderless
orderless_iff a b = fold_iff Bool Bool orderless_step orderless_body a b

pub orderless_all : (q : Quant) → is_orderless (All q) ≡ is_orderless q.body
unfolding is_orderless
orderless_all q = fold_all Bool Bool orderless_step orderless_body q ∙ fold_block Bool Bool orderless_step orderless_body q

pub orderless_ex : (q : Quant) → is_orderless (Ex q) ≡ is_orderless q.body
unfolding is_orderless
orderless_ex q = fold_ex Bool Bool orderless_step orderless_body q ∙ fold_block Bool Bool orderless_step orderless_body q

-- ---- sorts put for type variables
pub orderless_instance : (ss : List Sort) (f : Formula) → is_orderless (instance ss f) ≡ is_orderless f
orderless_instance ss =
    by_formulas (λ f. is_orderless (instance ss f) ≡ is_orderless f) (λ q. is_orderless (instance_quant ss q).body ≡ is_orderless q.body)
    (ap is_orderless (instance_true ss))
    (ap is_orderless (instance_false ss))
    (λ a b. ap is_orderless (instance_eq ss a b) ∙ orderless_eq (instance_term ss a) (instance_term ss b) ∙ sym (orderless_eq a b))
    (λ a b. ap is_orderless (instance_lt ss a b) ∙ orderless_lt (instance_term ss a) (instance_term ss b) ∙ sym (orderless_lt a b))
    (λ a b. ap is_orderless (instance_le ss a b) ∙ orderless_le (instance_term ss a) (instance_term ss b) ∙ sym (orderless_le a b))
    (λ n os us. ap is_orderless (instance_pred ss n os us) ∙ orderless_pred n (map (put_sort ss) os) (map (instance_term ss) us) ∙ sym (orderless_pred n os us))
    (λ a h. ap is_orderless (instance_not ss a) ∙ orderless_not (instance ss a) ∙ h ∙ sym (orderless_not a))
    (λ a b h k. ap is_orderless (instance_and ss a b) ∙ orderless_and (instance ss a) (instance ss b) ∙ (λ i. h i && k i) ∙ sym (orderless_and a b))
    (λ a b h k. ap is_orderless (instance_or ss a b) ∙ orderless_or (instance ss a) (instance ss b) ∙ (λ i. h i && k i) ∙ sym (orderless_or a b))
    (λ a b h k. ap is_orderless (instance_xor ss a b) ∙ orderless_xor (instance ss a) (instance ss b) ∙ (λ i. h i && k i) ∙ sym (orderless_xor a b))
    (λ a b h k. ap is_orderless (instance_iff ss a b) ∙ orderless_iff (instance ss a) (instance ss b) ∙ (λ i. h i && k i) ∙ sym (orderless_iff a b))
    (λ q h. ap is_orderless (instance_all ss q) ∙ orderless_all (instance_quant ss q) ∙ h ∙ sym (orderless_all q))
    (λ q h. ap is_orderless (instance_ex ss q) ∙ orderless_ex (instance_quant ss q) ∙ h ∙ sym (orderless_ex q))
    (λ q h. ap (λ (r : Quant). is_orderless r.body) (instance_block ss q) ∙ h)

-- ---- terms put for a block's variables
pub orderless_put : (ts : List Term) (f : Formula) (d : ℕ) → is_orderless (put_formula_in d ts f) ≡ is_orderless f
orderless_put ts =
    by_formulas (λ f. (d : ℕ) → is_orderless (put_formula_in d ts f) ≡ is_orderless f) (λ q. (d : ℕ) → is_orderless (put_quant_in d ts q).body ≡ is_orderless q.body)
    (λ d. ap is_orderless (put_true d ts))
    (λ d. ap is_orderless (put_false d ts))
    (λ a b d. ap is_orderless (put_eq d ts a b) ∙ orderless_eq (put_terms d ts a) (put_terms d ts b) ∙ sym (orderless_eq a b))
    (λ a b d. ap is_orderless (put_lt d ts a b) ∙ orderless_lt (put_terms d ts a) (put_terms d ts b) ∙ sym (orderless_lt a b))
    (λ a b d. ap is_orderless (put_le d ts a b) ∙ orderless_le (put_terms d ts a) (put_terms d ts b) ∙ sym (orderless_le a b))
    (λ n ss us d. ap is_orderless (put_pred d ts n ss us) ∙ orderless_pred n ss (map (put_terms d ts) us) ∙ sym (orderless_pred n ss us))
    (λ a h d. ap is_orderless (put_not d ts a) ∙ orderless_not (put_formula_in d ts a) ∙ h d ∙ sym (orderless_not a))
    (λ a b h k d. ap is_orderless (put_and d ts a b) ∙ orderless_and (put_formula_in d ts a) (put_formula_in d ts b) ∙ (λ i. h d i && k d i) ∙ sym (orderless_and a b))
    (λ a b h k d. ap is_orderless (put_or d ts a b) ∙ orderless_or (put_formula_in d ts a) (put_formula_in d ts b) ∙ (λ i. h d i && k d i) ∙ sym (orderless_or a b))
    (λ a b h k d. ap is_orderless (put_xor d ts a b) ∙ orderless_xor (put_formula_in d ts a) (put_formula_in d ts b) ∙ (λ i. h d i && k d i) ∙ sym (orderless_xor a b))
    (λ a b h k d. ap is_orderless (put_iff d ts a b) ∙ orderless_iff (put_formula_in d ts a) (put_formula_in d ts b) ∙ (λ i. h d i && k d i) ∙ sym (orderless_iff a b))
    (λ q h d. ap is_orderless (put_all d ts q) ∙ orderless_all (put_quant_in d ts q) ∙ h d ∙ sym (orderless_all q))
    (λ q h d. ap is_orderless (put_ex d ts q) ∙ orderless_ex (put_quant_in d ts q) ∙ h d ∙ sym (orderless_ex q))
    (λ q h d. ap (λ (r : Quant). is_orderless r.body) (put_block d ts q) ∙ h (d + length q.sorts))

-- ---- parts
abbrev PartsAre : Formula → Type 0
PartsAre f = IsOrderless f → AllByRecursion IsOrderless (parts_of f)

no_parts : (f : Formula) → parts_of f ≡ [] → PartsAre f
no_parts f e w = subst (AllByRecursion IsOrderless) (sym e) tt

two_parts : (f a b : Formula) → parts_of f ≡ a ∷ b ∷ [] → is_orderless f ≡ is_orderless a && is_orderless b → PartsAre f
two_parts f a b e s w =
    let q = and_parts (is_orderless a) (is_orderless b) (sym s ∙ w) in
    subst (AllByRecursion IsOrderless) (sym e) (q.0, (q.1, tt))

orderless_parts : (f : Formula) → PartsAre f
orderless_parts =
    by_formulas PartsAre (λ q. Unit {0})
    (no_parts True (ap parts_by outs-True))
    (no_parts False (ap parts_by outs-False))
    (λ a b. no_parts (Eq a b) (ap parts_by (outs-Eq a b)))
    (λ a b. no_parts (Lt a b) (ap parts_by (outs-Lt a b)))
    (λ a b. no_parts (Le a b) (ap parts_by (outs-Le a b)))
    (λ n ss us. no_parts (Pred n ss us) (ap parts_by (outs-Pred n ss us)))
    (λ a h w. subst (AllByRecursion IsOrderless) (sym (ap parts_by (outs-Not a))) (sym (orderless_not a) ∙ w, tt))
    (λ a b h k. two_parts (And a b) a b (ap parts_by (outs-And a b)) (orderless_and a b))
    (λ a b h k. two_parts (Or a b) a b (ap parts_by (outs-Or a b)) (orderless_or a b))
    (λ a b h k. two_parts (Xor a b) a b (ap parts_by (outs-Xor a b)) (orderless_xor a b))
    (λ a b h k. two_parts (Iff a b) a b (ap parts_by (outs-Iff a b)) (orderless_iff a b))
    (λ q h. no_parts (All q) (ap parts_by (outs-All q)))
    (λ q h. no_parts (Ex q) (ap parts_by (outs-Ex q)))
    (λ q h. tt)

pub orderless_part : (f h : Formula) → IsOrderless f → Contains (parts_of f) h → IsOrderless h
orderless_part f h w i = all_contained IsOrderless (parts_of f) h (orderless_parts f w) i

-- ---- no inequality
not_below : {P : Type 0} (f : Formula) (a b : Term) → IsOrderless f → out-Formula f ≡ layer.Lt a b → P
not_below f a b w e = false_true (sym (orderless_lt a b) ∙ ap is_orderless (sym (sym (roll-out-Formula f) ∙ ap roll-Formula e ∙ rolls-Lt a b)) ∙ w)

not_at_most : {P : Type 0} (f : Formula) (a b : Term) → IsOrderless f → out-Formula f ≡ layer.Le a b → P
not_at_most f a b w e = false_true (sym (orderless_le a b) ∙ ap is_orderless (sym (sym (roll-out-Formula f) ∙ ap roll-Formula e ∙ rolls-Le a b)) ∙ w)

pub orderless_formula : (f : Formula) → IsOrderless f → (sign : Bool) → inequality_of sign (out-Formula f) ≡ None
orderless_formula f w sign = by_layer sign (out-Formula f) refl
  where
    by_layer : (b : Bool) (o : Formula-F Formula Quant) → out-Formula f ≡ o → inequality_of b o ≡ None
    by_layer true (layer.Lt u v) e = not_below f u v w e
    by_layer false (layer.Lt u v) e = not_below f u v w e
    by_layer true (layer.Le u v) e = not_at_most f u v w e
    by_layer false (layer.Le u v) e = not_at_most f u v w e
    by_layer true layer.True e = refl
    by_layer false layer.True e = refl
    by_layer true layer.False e = refl
    by_layer false layer.False e = refl
    by_layer true (layer.Eq u v) e = refl
    by_layer false (layer.Eq u v) e = refl
    by_layer true (layer.Pred n ss us) e = refl
    by_layer false (layer.Pred n ss us) e = refl
    by_layer true (layer.Not u) e = refl
    by_layer false (layer.Not u) e = refl
    by_layer true (layer.And u v) e = refl
    by_layer false (layer.And u v) e = refl
    by_layer true (layer.Or u v) e = refl
    by_layer false (layer.Or u v) e = refl
    by_layer true (layer.Xor u v) e = refl
    by_layer false (layer.Xor u v) e = refl
    by_layer true (layer.Iff u v) e = refl
    by_layer false (layer.Iff u v) e = refl
    by_layer true (layer.All r) e = refl
    by_layer false (layer.All r) e = refl
    by_layer true (layer.Ex r) e = refl
    by_layer false (layer.Ex r) e = refl

pub orderless_literal : (l : Lit) → IsOrderless l.formula → inequality l ≡ None
orderless_literal l w = orderless_formula l.formula w l.positive
