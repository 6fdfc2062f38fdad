-- What a property of formulas says of the terms and predicates' applications that stand outside quantified parts, where parts have the property too.
use Rattle.std.specs.Prelude.{ℕ, List, [], ◌∷◌, ◌++◌, ◌≡◌}
use Rattle.std.specs.List.{AllByRecursion, Contains}
use Rattle.std.proofs.Common.{sym, ap, subst}
use Rattle.ae_base.proofs.AllOf.{all_append}
use Rattle.ae_core.specs.Inner.Induction.{by_formulas}
use Rattle.ae_core.proofs.Recursion.{fold_true, fold_false, fold_eq, fold_lt, fold_le, fold_pred, fold_not, fold_and, fold_or, fold_xor, fold_iff, fold_all, fold_ex}
use Rattle.ae_core.specs.declared.formulas.Formula.{Formula, True, False, Eq, Lt, Le, Pred, Not, And, Or, Xor, Iff, All, Ex}
use Rattle.ae_core.specs.declared.formulas.Formula.TheVariants.{outs-Not, outs-And, outs-Or, outs-Xor, outs-Iff}
use Rattle.ae_core.specs.declared.formulas.Quant.{Quant}
use Rattle.ae_core.specs.declared.terms.Head.TheVariants as head
use Rattle.ae_core.specs.declared.terms.Sort.{Sort}
use Rattle.ae_core.specs.declared.terms.Term.{Term, Apply}
use Rattle.ae_journal.proofs.Splits.{contains_here, contains_later}
use Rattle.ae_journal.specs.Standing.{parts_by, parts_of}
use Rattle.ae_journal.specs.States.{outside, outside_step}

-- ---- each form of formula
outside_true : outside True ≡ []
unfolding outside
outside_true = fold_true (List Term) (Unit {0}) outside_step (λ q. tt)

outside_false : outside False ≡ []
unfolding outside
outside_false = fold_false (List Term) (Unit {0}) outside_step (λ q. tt)

outside_eq : (a b : Term) → outside (Eq a b) ≡ a ∷ b ∷ []
unfolding outside
outside_eq a b = fold_eq (List Term) (Unit {0}) outside_step (λ q. tt) a b

outside_lt : (a b : Term) → outside (Lt a b) ≡ a ∷ b ∷ []
unfolding outside
outside_lt a b = fold_lt (List Term) (Unit {0}) outside_step (λ q. tt) a b

outside_le : (a b : Term) → outside (Le a b) ≡ a ∷ b ∷ []
unfolding outside
outside_le a b = fold_le (List Term) (Unit {0}) outside_step (λ q. tt) a b

outside_pred : (p : ℕ) (ss : List Sort) (us : List Term) → outside (Pred p ss us) ≡ Apply (head.Symbol p) ss us ∷ []
unfolding outside
outside_pred p ss us = fold_pred (List Term) (Unit {0}) outside_step (λ q. tt) p ss us

outside_not : (a : Formula) → outside (Not a) ≡ outside a
unfolding outside
outside_not a = fold_not (List Term) (Unit {0}) outside_step (λ q. tt) a

outside_and : (a b : Formula) → outside (And a b) ≡ outside a ++ outside b
unfolding outside
outside_and a b = fold_and (List Term) (Unit {0}) outside_step (λ q. tt) a b

outside_or : (a b : Formula) → outside (Or a b) ≡ outside a ++ outside b
unfolding outside
outside_or a b = fold_or (List Term) (Unit {0}) outside_step (λ q. tt) a b

outside_xor : (a b : Formula) → outside (Xor a b) ≡ outside a ++ outside b
unfolding outside
outside_xor a b = fold_xor (List Term) (Unit {0}) outside_step (λ q. tt) a b

outside_iff : (a b : Formula) → outside (Iff a b) ≡ outside a ++ outside b
unfolding outside
outside_iff a b = fold_iff (List Term) (Unit {0}) outside_step (λ q. tt) a b

outside_all : (q : Quant) → outside (All q) ≡ []
unfolding outside
outside_all q = fold_all (List Term) (Unit {0}) outside_step (λ q. tt) q

outside_ex : (q : Quant) → outside (Ex q) ≡ []
unfolding outside
outside_ex q = fold_ex (List Term) (Unit {0}) outside_step (λ q. tt) q

module _ (P : Formula → Type 0) (Q : Term → Type 0) (part : (f h : Formula) → P f → Contains (parts_of f) h → P h)
    (eq : (a b : Term) → P (Eq a b) → Q a × Q b) (lt : (a b : Term) → P (Lt a b) → Q a × Q b) (le : (a b : Term) → P (Le a b) → Q a × Q b)
    (pred : (p : ℕ) (ss : List Sort) (us : List Term) → P (Pred p ss us) → Q (Apply (head.Symbol p) ss us)) where
  abbrev Stand : Formula → Type 0
  Stand f = P f → AllByRecursion Q (outside f)

  none : (f : Formula) → outside f ≡ [] → Stand f
  none f e p = subst (AllByRecursion Q) (sym e) tt

  pair : (f : Formula) (a b : Term) → outside f ≡ a ∷ b ∷ [] → (P f → Q a × Q b) → Stand f
  pair f a b e k p = let s = k p in subst (AllByRecursion Q) (sym e) (s.0, (s.1, tt))

  both : (f a b : Formula) → parts_of f ≡ a ∷ b ∷ [] → outside f ≡ outside a ++ outside b → Stand a → Stand b → Stand f
  both f a b o e h k p =
      subst (AllByRecursion Q) (sym e)
      (all_append Q (outside a) (outside b)
      (h (part f a p (subst (λ (w : List Formula). Contains w a) (sym o) (contains_here a (b ∷ [])))))
      (k (part f b p (subst (λ (w : List Formula). Contains w b) (sym o) (contains_later a (b ∷ []) b (contains_here b []))))))

  pub all_outside : (f : Formula) → P f → AllByRecursion Q (outside f)
  all_outside =
      by_formulas Stand (λ q. Unit {0})
      (none True outside_true)
      (none False outside_false)
      (λ a b. pair (Eq a b) a b (outside_eq a b) (eq a b))
      (λ a b. pair (Lt a b) a b (outside_lt a b) (lt a b))
      (λ a b. pair (Le a b) a b (outside_le a b) (le a b))
      (λ p ss us h. subst (AllByRecursion Q) (sym (outside_pred p ss us)) (pred p ss us h, tt))
      (λ a h p. subst (AllByRecursion Q) (sym (outside_not a)) (h (part (Not a) a p (subst (λ (w : List Formula). Contains w a) (sym (ap parts_by (outs-Not a))) (contains_here a [])))))
      (λ a b h k. both (And a b) a b (ap parts_by (outs-And a b)) (outside_and a b) h k)
      (λ a b h k. both (Or a b) a b (ap parts_by (outs-Or a b)) (outside_or a b) h k)
      (λ a b h k. both (Xor a b) a b (ap parts_by (outs-Xor a b)) (outside_xor a b) h k)
      (λ a b h k. both (Iff a b) a b (ap parts_by (outs-Iff a b)) (outside_iff a b) h k)
      (λ q h. none (All q) (outside_all q))
      (λ q h. none (Ex q) (outside_ex q))
      (λ q h. tt)
