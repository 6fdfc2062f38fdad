-- The parts of a closed and well sorted formula are such.
use Rattle.std.specs.Prelude.{true, ◌&&◌, List, [], ◌∷◌, ◌≡◌}
use Rattle.std.specs.List.{AllByRecursion, Contains}
use Rattle.std.proofs.Common.{sym, ap, ◌∙◌, subst}
use Rattle.std.proofs.lemmas.Bool.{and_parts}
use Rattle.ae_core.specs.Inner.Induction.{by_formulas}
use Rattle.ae_core.specs.Sorts.{is_closed_sort, formula_in, formula_ok}
use Rattle.ae_core.specs.declared.formulas.Formula.{Formula, True, False, Eq, Lt, Le, Pred, Not, And, Or, Xor, Iff, All, Ex}
use Rattle.ae_core.specs.declared.formulas.Formula.TheVariants.{outs-True, outs-False, outs-Eq, outs-Lt, outs-Le, outs-Pred, outs-Not, outs-And, outs-Or, outs-Xor, outs-Iff, outs-All, outs-Ex}
use Rattle.ae_core.specs.declared.problems.Signature.{Signature}
use Rattle.ae_core.proofs.SortLaws.{formula_in_not, formula_in_and, formula_in_or, formula_in_xor, formula_in_iff}
use Rattle.ae_journal.proofs.Splits.{all_contained}
use Rattle.ae_journal.specs.Standing.{parts_by, parts_of}

module _ (sig : Signature) where
  abbrev IsOk : Formula → Type 0
  IsOk f = formula_ok sig f ≡ true

  abbrev PartsOk : Formula → Type 0
  PartsOk f = IsOk f → AllByRecursion IsOk (parts_of f)

  parts_are : (f : Formula) (ps : List Formula) → parts_of f ≡ ps → AllByRecursion IsOk ps → AllByRecursion IsOk (parts_of f)
  parts_are f ps e a = subst (AllByRecursion IsOk) (sym e) a

  two_parts : (rule : Formula → Formula → Formula) → ((env : List _) (a b : Formula) → formula_in sig (is_closed_sort sig) env (rule a b) ≡ (formula_in sig (is_closed_sort sig) env a && formula_in sig (is_closed_sort sig) env b))
      → (a b : Formula) → parts_of (rule a b) ≡ a ∷ b ∷ [] → PartsOk (rule a b)
  two_parts rule is a b e o =
      let p = and_parts (formula_ok sig a) (formula_ok sig b) (sym (is [] a b) ∙ o) in
      parts_are (rule a b) (a ∷ b ∷ []) e (p.0, (p.1, tt))

  all_parts : (f : Formula) → PartsOk f
  all_parts =
      by_formulas PartsOk (λ q. Unit {0})
      (λ o. parts_are True [] (ap parts_by outs-True) tt)
      (λ o. parts_are False [] (ap parts_by outs-False) tt)
      (λ a b o. parts_are (Eq a b) [] (ap parts_by (outs-Eq a b)) tt)
      (λ a b o. parts_are (Lt a b) [] (ap parts_by (outs-Lt a b)) tt)
      (λ a b o. parts_are (Le a b) [] (ap parts_by (outs-Le a b)) tt)
      (λ p ss us o. parts_are (Pred p ss us) [] (ap parts_by (outs-Pred p ss us)) tt)
      (λ a h o. parts_are (Not a) (a ∷ []) (ap parts_by (outs-Not a)) (sym (formula_in_not sig (is_closed_sort sig) [] a) ∙ o, tt))
      (λ a b h k. two_parts And (formula_in_and sig (is_closed_sort sig)) a b (ap parts_by (outs-And a b)))
      (λ a b h k. two_parts Or (formula_in_or sig (is_closed_sort sig)) a b (ap parts_by (outs-Or a b)))
      (λ a b h k. two_parts Xor (formula_in_xor sig (is_closed_sort sig)) a b (ap parts_by (outs-Xor a b)))
      (λ a b h k. two_parts Iff (formula_in_iff sig (is_closed_sort sig)) a b (ap parts_by (outs-Iff a b)))
      (λ q h o. parts_are (All q) [] (ap parts_by (outs-All q)) tt)
      (λ q h o. parts_are (Ex q) [] (ap parts_by (outs-Ex q)) tt)
      (λ q h. tt)

  pub parts_ok : (f : Formula) → IsOk f → (h : Formula) → Contains (parts_of f) h → IsOk h
  parts_ok f o h i = all_contained IsOk (parts_of f) h (all_parts f o) i
