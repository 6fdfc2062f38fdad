-- What stands outside quantified parts, for each form of formula; and whether each part of a well-sorted formula is so.
use Rattle.std.specs.Prelude.{ℕ, true, List, [], ◌∷◌, ◌++◌, ◌≡◌}
use Rattle.std.proofs.Common.{sym, ◌∙◌}
use Rattle.std.proofs.lemmas.Bool.{and_parts}
use Rattle.ae_core.proofs.Recursion.{fold_true, fold_false, fold_eq, fold_lt, fold_le, fold_pred, fold_not, fold_and, fold_or, fold_xor, fold_iff, fold_all, fold_ex}
use Rattle.ae_core.proofs.SortLaws.{formula_in_not, formula_in_and, formula_in_or, formula_in_xor, formula_in_iff}
use Rattle.ae_core.specs.Sorts.{formula_ok, is_closed_sort}
use Rattle.ae_core.specs.declared.terms.Sort.{Sort}
use Rattle.ae_core.specs.declared.terms.Term.{Term, Apply}
use Rattle.ae_core.specs.declared.terms.Head.TheVariants as head
use Rattle.ae_core.specs.declared.formulas.Formula.{Formula, True, False, Eq, Lt, Le, Pred, Not, And, Or, Xor, Iff, All, Ex}
use Rattle.ae_core.specs.declared.formulas.Quant.{Quant}
use Rattle.ae_core.specs.declared.problems.Signature.{Signature}
use Rattle.ae_journal.specs.States.{outside, outside_step}

pub outside_true : outside True ≡ []
unfolding outside
outside_true = fold_true (List Term) (Unit {0}) outside_step (λ q. tt)

pub outside_false : outside False ≡ []
unfolding outside
outside_false = fold_false (List Term) (Unit {0}) outside_step (λ q. tt)

pub outside_eq : (a b : Term) → outside (Eq a b) ≡ a ∷ b ∷ []
unfolding outside
outside_eq a b = fold_eq (List Term) (Unit {0}) outside_step (λ q. tt) a b

pub outside_lt : (a b : Term) → outside (Lt a b) ≡ a ∷ b ∷ []
unfolding outside
outside_lt a b = fold_lt (List Term) (Unit {0}) outside_step (λ q. tt) a b

pub outside_le : (a b : Term) → outside (Le a b) ≡ a ∷ b ∷ []
unfolding outside
outside_le a b = fold_le (List Term) (Unit {0}) outside_step (λ q. tt) a b

pub outside_pred : (n : ℕ) (ss : List Sort) (us : List Term) → outside (Pred n ss us) ≡ Apply (head.Symbol n) ss us ∷ []
unfolding outside
outside_pred n ss us = fold_pred (List Term) (Unit {0}) outside_step (λ q. tt) n ss us

pub outside_not : (a : Formula) → outside (Not a) ≡ outside a
unfolding outside
outside_not a = fold_not (List Term) (Unit {0}) outside_step (λ q. tt) a

pub outside_and : (a b : Formula) → outside (And a b) ≡ outside a ++ outside b
unfolding outside
outside_and a b = fold_and (List Term) (Unit {0}) outside_step (λ q. tt) a b

pub outside_or : (a b : Formula) → outside (Or a b) ≡ outside a ++ outside b
unfolding outside
outside_or a b = fold_or (List Term) (Unit {0}) outside_step (λ q. tt) a b

pub outside_xor : (a b : Formula) → outside (Xor a b) ≡ outside a ++ outside b
unfolding outside
outside_xor a b = fold_xor (List Term) (Unit {0}) outside_step (λ q. tt) a b

pub outside_iff : (a b : Formula) → outside (Iff a b) ≡ outside a ++ outside b
unfolding outside
outside_iff a b = fold_iff (List Term) (Unit {0}) outside_step (λ q. tt) a b

pub outside_all : (q : Quant) → outside (All q) ≡ []
unfolding outside
outside_all q = fold_all (List Term) (Unit {0}) outside_step (λ q. tt) q

pub outside_ex : (q : Quant) → outside (Ex q) ≡ []
unfolding outside
outside_ex q = fold_ex (List Term) (Unit {0}) outside_step (λ q. tt) q

module _ (sig : Signature) where
  pub not_ok : (a : Formula) → formula_ok sig (Not a) ≡ true → formula_ok sig a ≡ true
  not_ok a e = sym (formula_in_not sig (is_closed_sort sig) [] a) ∙ e

  pub and_ok : (a b : Formula) → formula_ok sig (And a b) ≡ true → (formula_ok sig a ≡ true) × (formula_ok sig b ≡ true)
  and_ok a b e = and_parts (formula_ok sig a) (formula_ok sig b) (sym (formula_in_and sig (is_closed_sort sig) [] a b) ∙ e)

  pub or_ok : (a b : Formula) → formula_ok sig (Or a b) ≡ true → (formula_ok sig a ≡ true) × (formula_ok sig b ≡ true)
  or_ok a b e = and_parts (formula_ok sig a) (formula_ok sig b) (sym (formula_in_or sig (is_closed_sort sig) [] a b) ∙ e)

  pub xor_ok : (a b : Formula) → formula_ok sig (Xor a b) ≡ true → (formula_ok sig a ≡ true) × (formula_ok sig b ≡ true)
  xor_ok a b e = and_parts (formula_ok sig a) (formula_ok sig b) (sym (formula_in_xor sig (is_closed_sort sig) [] a b) ∙ e)

  pub iff_ok : (a b : Formula) → formula_ok sig (Iff a b) ≡ true → (formula_ok sig a ≡ true) × (formula_ok sig b ≡ true)
  iff_ok a b e = and_parts (formula_ok sig a) (formula_ok sig b) (sym (formula_in_iff sig (is_closed_sort sig) [] a b) ∙ e)
