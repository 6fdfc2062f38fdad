-- Formulas whose constants are below a number, by what stands at their heads; their parts, and the terms that stand in them.
use Rattle.std.specs.Prelude.{ℕ, ◌≡◌, List, [], ◌∷◌, ◌++◌}
use Rattle.std.specs.List.{AllByRecursion, Contains, flat_map}
use Rattle.std.proofs.Common.{refl, sym, ap, ◌∙◌, subst, arith, inl, inr}
use Rattle.ae_base.proofs.AllOf.{all_append}
use Rattle.ae_core.specs.Constants.{constants, formula_constants, formula_constants_step}
use Rattle.ae_core.specs.Inner.Induction.{by_formulas}
use Rattle.ae_core.proofs.Recursion.{fold_block}
use Rattle.ae_core.specs.declared.formulas.Formula.{Formula, Formula-F, True, False, Eq, Lt, Le, Pred, Not, And, Or, Xor, Iff, All, Ex, map-Formula, out-Formula, fold_out-Formula}
use Rattle.ae_core.specs.declared.formulas.Formula.TheOpen as layer
use Rattle.ae_core.specs.declared.formulas.Formula.TheVariants.{outs-True, outs-False, outs-Eq, outs-Lt, outs-Le, outs-Pred, outs-Not, outs-And, outs-Or, outs-Xor, outs-Iff, outs-All, outs-Ex}
use Rattle.ae_core.specs.declared.formulas.Quant.{Quant, Quant-F, fold-Quant}
use Rattle.ae_core.specs.declared.terms.Head.TheVariants as head
use Rattle.ae_core.specs.declared.terms.Term.{Term}
use Rattle.ae_journal.proofs.Splits.{contains_here, contains_later, contains_one, contains_cases}
use Rattle.ae_journal.specs.Standing.{parts_of, parts_by}
use Rattle.ae_journal.specs.States.{outside, outside_step}
use Rattle.ae_new_constants.specs.Below.{AreBelow, IsTermBelow, IsFormulaBelow}
use Rattle.ae_new_constants.proofs.Lists.{both_below, left_below, right_below, all_below}
use Rattle.ae_new_constants.proofs.Terms.{applied}

all_of_each : {X : Type 0} (P : X → Type 0) (xs : List X) → ((x : X) → Contains xs x → P x) → AllByRecursion P xs
all_of_each P [] h = tt
all_of_each P (x ∷ xs) h = (h x (contains_here x xs), all_of_each P xs (λ z k. h z (contains_later x xs z k)))

-- ---- the constants of a formula and of a block, and the terms outside quantified parts, by the head
abbrev pub block_step : Quant-F (List Term) (List Term) → List Term
block_step q = flat_map (flat_map constants) q.triggers ++ q.body

abbrev pub block_constants : Quant → List Term
block_constants = fold-Quant (List Term) (List Term) formula_constants_step block_step

abbrev pub of_layer : Formula-F Formula Quant → List Term
of_layer o = formula_constants_step (map-Formula Formula Quant (List Term) (List Term) formula_constants block_constants o)

pub by_layer : (f : Formula) (o : Formula-F Formula Quant) → out-Formula f ≡ o → formula_constants f ≡ of_layer o
unfolding formula_constants
by_layer f o e = fold_out-Formula (List Term) (List Term) formula_constants_step block_step f ∙ ap (λ (z : Formula-F Formula Quant). of_layer z) e

pub by_block : (q : Quant) → block_constants q ≡ flat_map (flat_map constants) q.triggers ++ formula_constants q.body
unfolding formula_constants
by_block q = fold_block (List Term) (List Term) formula_constants_step block_step q

abbrev outside_block : Quant → Unit {0}
outside_block = fold-Quant (List Term) (Unit {0}) outside_step (λ q. tt)

abbrev outside_layer : Formula-F Formula Quant → List Term
outside_layer o = outside_step (map-Formula Formula Quant (List Term) (Unit {0}) outside outside_block o)

outside_by : (f : Formula) (o : Formula-F Formula Quant) → out-Formula f ≡ o → outside f ≡ outside_layer o
unfolding outside
outside_by f o e = fold_out-Formula (List Term) (Unit {0}) outside_step (λ q. tt) f ∙ ap (λ (z : Formula-F Formula Quant). outside_layer z) e

module _ (n : ℕ) where
  pub to_layer : (f : Formula) (o : Formula-F Formula Quant) → out-Formula f ≡ o → IsFormulaBelow n f → AreBelow n (of_layer o)
  to_layer f o e a = subst (AreBelow n) (by_layer f o e) a

  pub from_layer : (f : Formula) (o : Formula-F Formula Quant) → out-Formula f ≡ o → AreBelow n (of_layer o) → IsFormulaBelow n f
  from_layer f o e a = subst (AreBelow n) (sym (by_layer f o e)) a

  -- ---- parts
  either : (x y h : Formula) → AreBelow n (formula_constants x ++ formula_constants y) → Contains (x ∷ y ∷ []) h → IsFormulaBelow n h
  either x y h a i = elim (contains_cases x (y ∷ []) h i) as (λ _. IsFormulaBelow n h) [
    | inl e ↦ subst (IsFormulaBelow n) e (left_below n (formula_constants x) (formula_constants y) a)
    | inr r ↦ subst (IsFormulaBelow n) (contains_one y h r) (right_below n (formula_constants x) (formula_constants y) a)
  ]

  pub part_below : (f h : Formula) → IsFormulaBelow n f → Contains (parts_of f) h → IsFormulaBelow n h
  part_below f h a c = from (out-Formula f) (to_layer f (out-Formula f) refl a) c
    where
      from : (o : Formula-F Formula Quant) → AreBelow n (of_layer o) → Contains (parts_by o) h → IsFormulaBelow n h
      from (layer.Not x) b i = subst (IsFormulaBelow n) (contains_one x h i) b
      from (layer.And x y) b i = either x y h b i
      from (layer.Or x y) b i = either x y h b i
      from (layer.Xor x y) b i = either x y h b i
      from (layer.Iff x y) b i = either x y h b i
      from layer.True b i = absurd (omega (arith, i.1))
      from layer.False b i = absurd (omega (arith, i.1))
      from (layer.Eq x y) b i = absurd (omega (arith, i.1))
      from (layer.Lt x y) b i = absurd (omega (arith, i.1))
      from (layer.Le x y) b i = absurd (omega (arith, i.1))
      from (layer.Pred p ss us) b i = absurd (omega (arith, i.1))
      from (layer.All q) b i = absurd (omega (arith, i.1))
      from (layer.Ex q) b i = absurd (omega (arith, i.1))

  pub parts_below : (f : Formula) → IsFormulaBelow n f → AllByRecursion (IsFormulaBelow n) (parts_of f)
  parts_below f a = all_of_each (IsFormulaBelow n) (parts_of f) (λ h c. part_below f h a c)

  -- ---- the terms that stand outside quantified parts
  abbrev Outside : Formula → Type 0
  Outside f = IsFormulaBelow n f → AllByRecursion (IsTermBelow n) (outside f)

  seen : (f : Formula) (o : Formula-F Formula Quant) → out-Formula f ≡ o → (AreBelow n (of_layer o) → AllByRecursion (IsTermBelow n) (outside_layer o)) → Outside f
  seen f o e k a = subst (AllByRecursion (IsTermBelow n)) (sym (outside_by f o e)) (k (to_layer f o e a))

  sides : (x y : Term) → AreBelow n (constants x ++ constants y) → AllByRecursion (IsTermBelow n) (x ∷ y ∷ [])
  sides x y a = (left_below n (constants x) (constants y) a, (right_below n (constants x) (constants y) a, tt))

  joined : (x y : Formula) → Outside x → Outside y → AreBelow n (formula_constants x ++ formula_constants y) → AllByRecursion (IsTermBelow n) (outside x ++ outside y)
  joined x y h k a =
      all_append (IsTermBelow n) (outside x) (outside y) (h (left_below n (formula_constants x) (formula_constants y) a)) (k (right_below n (formula_constants x) (formula_constants y) a))

  pub outside_below : (f : Formula) → Outside f
  outside_below =
      by_formulas Outside (λ q. Unit {0})
      (seen True layer.True outs-True (λ a. tt))
      (seen False layer.False outs-False (λ a. tt))
      (λ x y. seen (Eq x y) (layer.Eq x y) (outs-Eq x y) (sides x y))
      (λ x y. seen (Lt x y) (layer.Lt x y) (outs-Lt x y) (sides x y))
      (λ x y. seen (Le x y) (layer.Le x y) (outs-Le x y) (sides x y))
      (λ p ss us. seen (Pred p ss us) (layer.Pred p ss us) (outs-Pred p ss us) (λ a. (applied n (head.Symbol p) ss us (all_below n constants us a), tt)))
      (λ x h. seen (Not x) (layer.Not x) (outs-Not x) h)
      (λ x y h k. seen (And x y) (layer.And x y) (outs-And x y) (joined x y h k))
      (λ x y h k. seen (Or x y) (layer.Or x y) (outs-Or x y) (joined x y h k))
      (λ x y h k. seen (Xor x y) (layer.Xor x y) (outs-Xor x y) (joined x y h k))
      (λ x y h k. seen (Iff x y) (layer.Iff x y) (outs-Iff x y) (joined x y h k))
      (λ q h. seen (All q) (layer.All q) (outs-All q) (λ a. tt))
      (λ q h. seen (Ex q) (layer.Ex q) (outs-Ex q) (λ a. tt))
      (λ q h. tt)

  -- ---- equations and inequalities of terms
  pub equation : (x y : Term) → IsTermBelow n x → IsTermBelow n y → IsFormulaBelow n (Eq x y)
  equation x y a b = from_layer (Eq x y) (layer.Eq x y) (outs-Eq x y) (both_below n (constants x) (constants y) a b)

  pub inequality : (x y : Term) → IsTermBelow n x → IsTermBelow n y → IsFormulaBelow n (Lt x y)
  inequality x y a b = from_layer (Lt x y) (layer.Lt x y) (outs-Lt x y) (both_below n (constants x) (constants y) a b)
