-- The number of quantifiers of a formula: by its head, of its parts, and where terms are put for variables.
use Rattle.std.specs.Prelude.{ℕ, suc, ◌+◌, ◌≤◌, ◌≡◌, Bool, List, [], ◌∷◌, map, length}
use Rattle.std.specs.List.{Contains}
use Rattle.std.proofs.Common.{refl, sym, ap, ◌∙◌, subst, arith, inl, inr}
use Rattle.ae_core.proofs.PuttingLaws.{put_true, put_false, put_eq, put_lt, put_le, put_pred, put_not, put_and, put_or, put_xor, put_iff, put_all, put_ex, put_block}
use Rattle.ae_core.proofs.Recursion.{fold_block}
use Rattle.ae_core.specs.Inner.Induction.{by_formulas}
use Rattle.ae_core.specs.Putting.{put_terms, put_formula, put_formula_in, put_quant_in}
use Rattle.ae_core.specs.declared.formulas.Formula.{Formula, Formula-F, Eq, Lt, Le, Pred, Not, And, Or, Xor, Iff, All, Ex, map-Formula, out-Formula, fold_out-Formula}
use Rattle.ae_core.specs.declared.formulas.Formula.TheOpen as layer
use Rattle.ae_core.specs.declared.formulas.Formula.TheVariants.{outs-Eq, outs-Lt, outs-Le, outs-Pred, outs-Not, outs-And, outs-Or, outs-Xor, outs-Iff, outs-All, outs-Ex}
use Rattle.ae_core.specs.declared.formulas.Quant.{Quant, fold-Quant}
use Rattle.ae_core.specs.declared.terms.Term.{Term}
use Rattle.ae_journal.proofs.RowParts.{literal_part}
use Rattle.ae_journal.proofs.Splits.{contains_one, contains_cases}
use Rattle.ae_journal.specs.Standing.{parts_of, parts_by}
use Rattle.ae_rules.specs.Clauses.{literal}
use Rattle.ae_block_counts.specs.Counts.{quantifiers, quantifiers_step}

-- ---- by the head
abbrev pub block_quantifiers : Quant → ℕ
block_quantifiers = fold-Quant ℕ ℕ quantifiers_step (λ q. suc q.body)

abbrev pub of_layer : Formula-F Formula Quant → ℕ
of_layer o = quantifiers_step (map-Formula Formula Quant ℕ ℕ quantifiers block_quantifiers o)

pub by_layer : (f : Formula) (o : Formula-F Formula Quant) → out-Formula f ≡ o → quantifiers f ≡ of_layer o
unfolding quantifiers
by_layer f o e = fold_out-Formula ℕ ℕ quantifiers_step (λ q. suc q.body) f ∙ ap (λ (z : Formula-F Formula Quant). of_layer z) e

pub by_block : (q : Quant) → block_quantifiers q ≡ suc (quantifiers q.body)
unfolding quantifiers
by_block q = fold_block ℕ ℕ quantifiers_step (λ q. suc q.body) q

-- ---- parts
module _ (n : ℕ) where
  either : (x y h : Formula) → quantifiers x + quantifiers y ≤ n → Contains (x ∷ y ∷ []) h → quantifiers h ≤ n
  either x y h a i = elim (contains_cases x (y ∷ []) h i) as (λ _. quantifiers h ≤ n) [
    | inl e ↦ subst (λ (z : Formula). quantifiers z ≤ n) e (omega (arith, a))
    | inr r ↦ subst (λ (z : Formula). quantifiers z ≤ n) (contains_one y h r) (omega (arith, a))
  ]

  part_within : (f h : Formula) → quantifiers f ≤ n → Contains (parts_of f) h → quantifiers h ≤ n
  part_within f h a c = from (out-Formula f) (subst (λ k. k ≤ n) (by_layer f (out-Formula f) refl) a) c
    where
      from : (o : Formula-F Formula Quant) → of_layer o ≤ n → Contains (parts_by o) h → quantifiers h ≤ n
      from (layer.Not x) b i = subst (λ (z : Formula). quantifiers z ≤ n) (contains_one x h i) b
      from (layer.And x y) b i = either x y h b i
      from (layer.Or x y) b i = either x y h b i
      from (layer.Xor x y) b i = either x y h b i
      from (layer.Iff x y) b i = either x y h b i
      from layer.True b i = absurd (omega (arith, i.1))
      from layer.False b i = absurd (omega (arith, i.1))
      from (layer.Eq x y) b i = absurd (omega (arith, i.1))
      from (layer.Lt x y) b i = absurd (omega (arith, i.1))
      from (layer.Le x y) b i = absurd (omega (arith, i.1))
      from (layer.Pred p ss us) b i = absurd (omega (arith, i.1))
      from (layer.All q) b i = absurd (omega (arith, i.1))
      from (layer.Ex q) b i = absurd (omega (arith, i.1))

pub literal_within : (sign : Bool) (f : Formula) → quantifiers (literal sign f).formula ≤ quantifiers f
literal_within sign f = literal_part (λ (h : Formula). quantifiers h ≤ quantifiers f) (part_within (quantifiers f)) f (omega arith) sign

-- ---- terms for a block's variables
module _ (ts : List Term) where
  abbrev R : ℕ → Term → Term
  R d = put_terms d ts

  abbrev P : ℕ → Formula → Formula
  P d = put_formula_in d ts

  -- two formulas with one number for their heads
  alike : (f h : Formula) (o w : Formula-F Formula Quant) → out-Formula f ≡ o → out-Formula h ≡ w → of_layer o ≡ of_layer w → quantifiers f ≡ quantifiers h
  alike f h o w e d k = by_layer f o e ∙ k ∙ sym (by_layer h w d)

  put_in : (f : Formula) (d : ℕ) → quantifiers (put_formula_in d ts f) ≡ quantifiers f
  put_in =
      by_formulas (λ f. (d : ℕ) → quantifiers (put_formula_in d ts f) ≡ quantifiers f) (λ q. (d : ℕ) → block_quantifiers (put_quant_in d ts q) ≡ block_quantifiers q)
      (λ d. ap quantifiers (put_true d ts))
      (λ d. ap quantifiers (put_false d ts))
      (λ x y d. ap quantifiers (put_eq d ts x y) ∙ alike (Eq (R d x) (R d y)) (Eq x y) (layer.Eq (R d x) (R d y)) (layer.Eq x y) (outs-Eq (R d x) (R d y)) (outs-Eq x y) refl)
      (λ x y d. ap quantifiers (put_lt d ts x y) ∙ alike (Lt (R d x) (R d y)) (Lt x y) (layer.Lt (R d x) (R d y)) (layer.Lt x y) (outs-Lt (R d x) (R d y)) (outs-Lt x y) refl)
      (λ x y d. ap quantifiers (put_le d ts x y) ∙ alike (Le (R d x) (R d y)) (Le x y) (layer.Le (R d x) (R d y)) (layer.Le x y) (outs-Le (R d x) (R d y)) (outs-Le x y) refl)
      (λ p os us d. ap quantifiers (put_pred d ts p os us) ∙ alike (Pred p os (map (R d) us)) (Pred p os us) (layer.Pred p os (map (R d) us)) (layer.Pred p os us) (outs-Pred p os (map (R d) us)) (outs-Pred p os us) refl)
      (λ x h d. ap quantifiers (put_not d ts x) ∙ alike (Not (P d x)) (Not x) (layer.Not (P d x)) (layer.Not x) (outs-Not (P d x)) (outs-Not x) (h d))
      (λ x y h k d. ap quantifiers (put_and d ts x y) ∙ alike (And (P d x) (P d y)) (And x y) (layer.And (P d x) (P d y)) (layer.And x y) (outs-And (P d x) (P d y)) (outs-And x y) (λ i. h d i + k d i))
      (λ x y h k d. ap quantifiers (put_or d ts x y) ∙ alike (Or (P d x) (P d y)) (Or x y) (layer.Or (P d x) (P d y)) (layer.Or x y) (outs-Or (P d x) (P d y)) (outs-Or x y) (λ i. h d i + k d i))
      (λ x y h k d. ap quantifiers (put_xor d ts x y) ∙ alike (Xor (P d x) (P d y)) (Xor x y) (layer.Xor (P d x) (P d y)) (layer.Xor x y) (outs-Xor (P d x) (P d y)) (outs-Xor x y) (λ i. h d i + k d i))
      (λ x y h k d. ap quantifiers (put_iff d ts x y) ∙ alike (Iff (P d x) (P d y)) (Iff x y) (layer.Iff (P d x) (P d y)) (layer.Iff x y) (outs-Iff (P d x) (P d y)) (outs-Iff x y) (λ i. h d i + k d i))
      (λ q h d. ap quantifiers (put_all d ts q) ∙ alike (All (put_quant_in d ts q)) (All q) (layer.All (put_quant_in d ts q)) (layer.All q) (outs-All (put_quant_in d ts q)) (outs-All q) (h d))
      (λ q h d. ap quantifiers (put_ex d ts q) ∙ alike (Ex (put_quant_in d ts q)) (Ex q) (layer.Ex (put_quant_in d ts q)) (layer.Ex q) (outs-Ex (put_quant_in d ts q)) (outs-Ex q) (h d))
      (λ q h d. let m = d + length q.sorts in
      ap block_quantifiers (put_block d ts q) ∙ by_block (record { sorts = q.sorts; triggers = map (map (R m)) q.triggers; body = P m q.body }) ∙ ap (λ k. suc k) (h m) ∙ sym (by_block q))

  pub put_within : (f : Formula) → quantifiers (put_formula ts f) ≡ quantifiers f
  put_within f = put_in f 0
