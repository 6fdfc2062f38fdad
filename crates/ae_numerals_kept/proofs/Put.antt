-- What holds of each count, and of each number of a formula, holds of each number of the formula with sorts put for its type variables; and with terms put for a
-- block's variables, where it holds of each of theirs.
use Rattle.std.specs.Prelude.{ℕ, ◌+◌, ◌-◌, Bool, true, false, cond, nat_lt, List, ◌++◌, ◌≡◌, map, length, reverse, slice_get, Option, Some, None}
use Rattle.std.specs.List.{AllByRecursion}
use Rattle.std.proofs.Common.{refl, sym, subst}
use Rattle.ae_base.specs.Options.{or_else}
use Rattle.ae_base.proofs.AllOf.{all_at, all_both, all_of_map, all_reversed}
use Rattle.ae_core.specs.Inner.Induction.{by_terms, by_formulas}
use Rattle.ae_core.specs.Putting.{put_sort, instance, instance_quant, instance_term, put_formula_in, put_quant_in, put_terms, variable_at}
use Rattle.ae_core.specs.declared.formulas.Formula.{Formula, Eq, Lt, Le, Pred, Not, And, Or, Xor, Iff, All, Ex}
use Rattle.ae_core.specs.declared.formulas.Quant.{Quant}
use Rattle.ae_core.specs.declared.terms.Head.{Head}
use Rattle.ae_core.specs.declared.terms.Sort.{Sort}
use Rattle.ae_core.specs.declared.terms.Term.{Term, Bound, Apply}
use Rattle.ae_core.proofs.PuttingLaws.{instance_bound, instance_num, instance_fresh, instance_apply}
use Rattle.ae_core.proofs.PuttingLaws.{instance_true, instance_false, instance_eq, instance_lt, instance_le, instance_pred, instance_not, instance_and, instance_or, instance_xor, instance_iff, instance_all, instance_ex, instance_block}
use Rattle.ae_core.proofs.PuttingLaws.{put_bound, put_num, put_fresh, put_apply, put_true, put_false, put_eq, put_lt, put_le, put_pred, put_not, put_and, put_or, put_xor, put_iff, put_all, put_ex, put_block}
use Rattle.ae_legal_texts.specs.Numbers.{Number, count, term_numbers, formula_numbers}
use Rattle.ae_numerals_kept.proofs.Layers.{InTerm, InFormula, InBlock, in_bound, in_fresh, in_apply, in_arguments, in_changed, in_triggers, in_true, in_false, in_relation, in_sides, in_predicate, predicate_arguments}
use Rattle.ae_numerals_kept.proofs.Layers.{in_both, in_two, in_block, block_parts, eq_numbers, lt_numbers, le_numbers, not_numbers, and_numbers, or_numbers, xor_numbers, iff_numbers, all_numbers, ex_numbers}

module _ (P : Number → Type 0) (counts : (n : ℕ) → P (count n)) where
  -- a change of terms that keeps it in arguments keeps it in an application
  applied : (g : Term → Term) (h : Head) (ss os : List Sort) (us : List Term) → AllByRecursion (λ u. InTerm P u → InTerm P (g u)) us → InTerm P (Apply h ss us) → InTerm P (Apply h os (map g us))
  applied g h ss os us each w =
      in_apply P counts h os (map g us)
      (all_of_map (InTerm P) g us (all_both (InTerm P) (λ u. InTerm P u → InTerm P (g u)) (λ u. InTerm P (g u)) (λ u x f. f x) us (in_arguments P counts h ss us w) each))

  -- the same of formulas: a relation, a negation, two together, a block
  module _ (g : Term → Term) (keeps : (t : Term) → InTerm P t → InTerm P (g t)) where
    relation : (rule : Term → Term → Formula) → ((a b : Term) → formula_numbers (rule a b) ≡ term_numbers a ++ term_numbers b) → (a b : Term) → InFormula P (rule a b) → InFormula P (rule (g a) (g b))
    relation rule is a b w = let s = in_sides P counts rule is a b w in in_relation P counts rule is (g a) (g b) (keeps a s.0) (keeps b s.1)

    predicate : (p : ℕ) (ss os : List Sort) (us : List Term) → InFormula P (Pred p ss us) → InFormula P (Pred p os (map g us))
    predicate p ss os us w = in_predicate P counts p os (map g us) (in_changed P counts g keeps us (predicate_arguments P counts p ss us w))

  negation : (a b : Formula) → (InFormula P a → InFormula P b) → InFormula P (Not a) → InFormula P (Not b)
  negation a b f w = subst (AllByRecursion P) (sym (not_numbers b)) (f (subst (AllByRecursion P) (not_numbers a) w))

  together : (rule : Formula → Formula → Formula) → ((a b : Formula) → formula_numbers (rule a b) ≡ formula_numbers a ++ formula_numbers b) → (a b c d : Formula)
      → (InFormula P a → InFormula P c) → (InFormula P b → InFormula P d) → InFormula P (rule a b) → InFormula P (rule c d)
  together rule is a b c d f k w = let s = in_two P counts rule is a b w in in_both P counts rule is c d (f s.0) (k s.1)

  universal : (q r : Quant) → (InBlock P q → InBlock P r) → InFormula P (All q) → InFormula P (All r)
  universal q r f w = subst (AllByRecursion P) (sym (all_numbers r)) (f (subst (AllByRecursion P) (all_numbers q) w))

  existential : (q r : Quant) → (InBlock P q → InBlock P r) → InFormula P (Ex q) → InFormula P (Ex r)
  existential q r f w = subst (AllByRecursion P) (sym (ex_numbers r)) (f (subst (AllByRecursion P) (ex_numbers q) w))

  -- ---- sorts put
  module _ (ss : List Sort) where
    pub term_instance : (t : Term) → InTerm P t → InTerm P (instance_term ss t)
    term_instance =
        by_terms (λ t. InTerm P t → InTerm P (instance_term ss t))
        (λ i w. subst (InTerm P) (sym (instance_bound ss i)) w)
        (λ a b r w. subst (InTerm P) (sym (instance_num ss a b r)) w)
        (λ n s w. subst (InTerm P) (sym (instance_fresh ss n s)) (in_fresh P counts n (put_sort ss s)))
        (λ h os us each w. subst (InTerm P) (sym (instance_apply ss h os us)) (applied (instance_term ss) h os (map (put_sort ss) os) us each w))

    pub formula_instance : (f : Formula) → InFormula P f → InFormula P (instance ss f)
    formula_instance =
        by_formulas (λ f. InFormula P f → InFormula P (instance ss f)) (λ q. InBlock P q → InBlock P (instance_quant ss q))
        (λ w. subst (InFormula P) (sym (instance_true ss)) (in_true P counts))
        (λ w. subst (InFormula P) (sym (instance_false ss)) (in_false P counts))
        (λ a b w. subst (InFormula P) (sym (instance_eq ss a b)) (relation (instance_term ss) term_instance Eq eq_numbers a b w))
        (λ a b w. subst (InFormula P) (sym (instance_lt ss a b)) (relation (instance_term ss) term_instance Lt lt_numbers a b w))
        (λ a b w. subst (InFormula P) (sym (instance_le ss a b)) (relation (instance_term ss) term_instance Le le_numbers a b w))
        (λ p os us w. subst (InFormula P) (sym (instance_pred ss p os us)) (predicate (instance_term ss) term_instance p os (map (put_sort ss) os) us w))
        (λ a f w. subst (InFormula P) (sym (instance_not ss a)) (negation a (instance ss a) f w))
        (λ a b f k w. subst (InFormula P) (sym (instance_and ss a b)) (together And and_numbers a b (instance ss a) (instance ss b) f k w))
        (λ a b f k w. subst (InFormula P) (sym (instance_or ss a b)) (together Or or_numbers a b (instance ss a) (instance ss b) f k w))
        (λ a b f k w. subst (InFormula P) (sym (instance_xor ss a b)) (together Xor xor_numbers a b (instance ss a) (instance ss b) f k w))
        (λ a b f k w. subst (InFormula P) (sym (instance_iff ss a b)) (together Iff iff_numbers a b (instance ss a) (instance ss b) f k w))
        (λ q f w. subst (InFormula P) (sym (instance_all ss q)) (universal q (instance_quant ss q) f w))
        (λ q f w. subst (InFormula P) (sym (instance_ex ss q)) (existential q (instance_quant ss q) f w))
        (λ q f w.
        let s = block_parts P counts q w in
        subst (InBlock P) (sym (instance_block ss q))
        (in_block P counts (record { sorts = map (put_sort ss) q.sorts; triggers = map (map (instance_term ss)) q.triggers; body = instance ss q.body })
        (in_triggers P counts (instance_term ss) term_instance q.triggers s.0) (f s.1)))

  -- ---- terms put
  either : (b : Bool) (t u : Term) → InTerm P t → InTerm P u → InTerm P (cond b t u)
  either true t u p q = p
  either false t u p q = q

  or_else_in : (o : Option Term) (u : Term) → ((t : Term) → o ≡ Some t → InTerm P t) → InTerm P u → InTerm P (or_else o u)
  or_else_in (Some t) u f q = f t refl
  or_else_in None u f q = q

  module _ (ts : List Term) (all : AllByRecursion (InTerm P) ts) where
    variable : (d i : ℕ) → InTerm P (variable_at d ts i)
    variable d i =
        either (nat_lt i d) (Bound i) (or_else (slice_get (reverse ts) (i - d)) (Bound (i - length ts))) (in_bound P counts i)
        (or_else_in (slice_get (reverse ts) (i - d)) (Bound (i - length ts)) (λ t e. all_at (InTerm P) (reverse ts) (i - d) t (all_reversed (InTerm P) ts all) e) (in_bound P counts (i - length ts)))

    pub term_put : (d : ℕ) (t : Term) → InTerm P t → InTerm P (put_terms d ts t)
    term_put d =
        by_terms (λ t. InTerm P t → InTerm P (put_terms d ts t))
        (λ i w. subst (InTerm P) (sym (put_bound d ts i)) (variable d i))
        (λ a b r w. subst (InTerm P) (sym (put_num d ts a b r)) w)
        (λ n s w. subst (InTerm P) (sym (put_fresh d ts n s)) w)
        (λ h ss us each w. subst (InTerm P) (sym (put_apply d ts h ss us)) (applied (put_terms d ts) h ss ss us each w))

    pub formula_put : (f : Formula) (d : ℕ) → InFormula P f → InFormula P (put_formula_in d ts f)
    formula_put =
        by_formulas (λ f. (d : ℕ) → InFormula P f → InFormula P (put_formula_in d ts f)) (λ q. (d : ℕ) → InBlock P q → InBlock P (put_quant_in d ts q))
        (λ d w. subst (InFormula P) (sym (put_true d ts)) (in_true P counts))
        (λ d w. subst (InFormula P) (sym (put_false d ts)) (in_false P counts))
        (λ a b d w. subst (InFormula P) (sym (put_eq d ts a b)) (relation (put_terms d ts) (term_put d) Eq eq_numbers a b w))
        (λ a b d w. subst (InFormula P) (sym (put_lt d ts a b)) (relation (put_terms d ts) (term_put d) Lt lt_numbers a b w))
        (λ a b d w. subst (InFormula P) (sym (put_le d ts a b)) (relation (put_terms d ts) (term_put d) Le le_numbers a b w))
        (λ p ss us d w. subst (InFormula P) (sym (put_pred d ts p ss us)) (predicate (put_terms d ts) (term_put d) p ss ss us w))
        (λ a f d w. subst (InFormula P) (sym (put_not d ts a)) (negation a (put_formula_in d ts a) (f d) w))
        (λ a b f k d w. subst (InFormula P) (sym (put_and d ts a b)) (together And and_numbers a b (put_formula_in d ts a) (put_formula_in d ts b) (f d) (k d) w))
        (λ a b f k d w. subst (InFormula P) (sym (put_or d ts a b)) (together Or or_numbers a b (put_formula_in d ts a) (put_formula_in d ts b) (f d) (k d) w))
        (λ a b f k d w. subst (InFormula P) (sym (put_xor d ts a b)) (together Xor xor_numbers a b (put_formula_in d ts a) (put_formula_in d ts b) (f d) (k d) w))
        (λ a b f k d w. subst (InFormula P) (sym (put_iff d ts a b)) (together Iff iff_numbers a b (put_formula_in d ts a) (put_formula_in d ts b) (f d) (k d) w))
        (λ q f d w. subst (InFormula P) (sym (put_all d ts q)) (universal q (put_quant_in d ts q) (f d) w))
        (λ q f d w. subst (InFormula P) (sym (put_ex d ts q)) (existential q (put_quant_in d ts q) (f d) w))
        (λ q f d w.
        let s = block_parts P counts q w in
        let n = d + length q.sorts in
        subst (InBlock P) (sym (put_block d ts q))
        (in_block P counts (record { sorts = q.sorts; triggers = map (map (put_terms n ts)) q.triggers; body = put_formula_in n ts q.body }) (in_triggers P counts (put_terms n ts) (term_put n) q.triggers s.0) (f n s.1)))
