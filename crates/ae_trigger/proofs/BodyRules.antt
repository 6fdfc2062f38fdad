-- Candidates of a body, at each variant of formulas.
use Rattle.std.specs.Prelude.{ℕ, ◌+◌, ◌≡◌, List, [], ◌++◌, length}
use Rattle.std.proofs.Common.{sym, ap, ◌∙◌, append_assoc}
use Rattle.std.proofs.lemmas.List.{append-nil}
use Rattle.ae_core.proofs.Recursion.{fold_true, fold_false, fold_eq, fold_lt, fold_le, fold_pred, fold_not, fold_and, fold_or, fold_xor, fold_iff, fold_all, fold_ex, fold_block}
use Rattle.ae_core.specs.declared.terms.Sort.{Sort}
use Rattle.ae_core.specs.declared.terms.Head.TheVariants as head
use Rattle.ae_core.specs.declared.terms.Term.{Term, Apply}
use Rattle.ae_core.specs.declared.formulas.Formula.{Formula, True, False, Eq, Lt, Le, Pred, Not, And, Or, Xor, Iff, All, Ex}
use Rattle.ae_core.specs.declared.formulas.Quant.{Quant}
use Rattle.ae_core.specs.declared.problems.Signature.{Signature}
use Rattle.ae_journal.specs.Triggers.{body_step, body_candidates, once_each}
use Rattle.ae_trigger.specs.Inner.Candidates.{outer_candidates, with_two, block_step, in_body, with_body}

abbrev Found : Type 0
Found = ℕ → List Term

module _ (sig : Signature) (d : ℕ) (found : List Term) where
  pub with_true : with_body sig d True found ≡ found
  unfolding with_body
  with_true = ap (λ k. found ++ k d) (fold_true Found Found (body_step sig) block_step) ∙ append-nil found

  pub with_false : with_body sig d False found ≡ found
  unfolding with_body
  with_false = ap (λ k. found ++ k d) (fold_false Found Found (body_step sig) block_step) ∙ append-nil found

  apart : (xs ys : List Term) → found ++ (xs ++ ys) ≡ (found ++ xs) ++ ys
  apart xs ys = sym (append_assoc found xs ys)

  pub with_eq : (a b : Term) → with_body sig d (Eq a b) found ≡ with_two sig d a b found
  unfolding with_body outer_candidates
  with_eq a b = ap (λ k. found ++ k d) (fold_eq Found Found (body_step sig) block_step a b) ∙ apart (outer_candidates sig d a) (outer_candidates sig d b)

  pub with_lt : (a b : Term) → with_body sig d (Lt a b) found ≡ with_two sig d a b found
  unfolding with_body outer_candidates
  with_lt a b = ap (λ k. found ++ k d) (fold_lt Found Found (body_step sig) block_step a b) ∙ apart (outer_candidates sig d a) (outer_candidates sig d b)

  pub with_le : (a b : Term) → with_body sig d (Le a b) found ≡ with_two sig d a b found
  unfolding with_body outer_candidates
  with_le a b = ap (λ k. found ++ k d) (fold_le Found Found (body_step sig) block_step a b) ∙ apart (outer_candidates sig d a) (outer_candidates sig d b)

  pub with_pred : (p : ℕ) (ss : List Sort) (us : List Term) → with_body sig d (Pred p ss us) found ≡ found ++ outer_candidates sig d (Apply (head.Symbol p) ss us)
  unfolding with_body outer_candidates
  with_pred p ss us = ap (λ k. found ++ k d) (fold_pred Found Found (body_step sig) block_step p ss us)

  pub with_not : (a : Formula) → with_body sig d (Not a) found ≡ with_body sig d a found
  unfolding with_body
  with_not a = ap (λ k. found ++ k d) (fold_not Found Found (body_step sig) block_step a)

  pub with_and : (a b : Formula) → with_body sig d (And a b) found ≡ with_body sig d b (with_body sig d a found)
  unfolding with_body
  with_and a b = ap (λ k. found ++ k d) (fold_and Found Found (body_step sig) block_step a b) ∙ apart (in_body sig a d) (in_body sig b d)

  pub with_or : (a b : Formula) → with_body sig d (Or a b) found ≡ with_body sig d b (with_body sig d a found)
  unfolding with_body
  with_or a b = ap (λ k. found ++ k d) (fold_or Found Found (body_step sig) block_step a b) ∙ apart (in_body sig a d) (in_body sig b d)

  pub with_xor : (a b : Formula) → with_body sig d (Xor a b) found ≡ with_body sig d b (with_body sig d a found)
  unfolding with_body
  with_xor a b = ap (λ k. found ++ k d) (fold_xor Found Found (body_step sig) block_step a b) ∙ apart (in_body sig a d) (in_body sig b d)

  pub with_iff : (a b : Formula) → with_body sig d (Iff a b) found ≡ with_body sig d b (with_body sig d a found)
  unfolding with_body
  with_iff a b = ap (λ k. found ++ k d) (fold_iff Found Found (body_step sig) block_step a b) ∙ apart (in_body sig a d) (in_body sig b d)

  pub with_all : (q : Quant) → with_body sig d (All q) found ≡ with_body sig (d + length q.sorts) q.body found
  unfolding with_body
  with_all q = ap (λ k. found ++ k d) (fold_all Found Found (body_step sig) block_step q) ∙ ap (λ k. found ++ k d) (fold_block Found Found (body_step sig) block_step q)

  pub with_ex : (q : Quant) → with_body sig d (Ex q) found ≡ with_body sig (d + length q.sorts) q.body found
  unfolding with_body
  with_ex q = ap (λ k. found ++ k d) (fold_ex Found Found (body_step sig) block_step q) ∙ ap (λ k. found ++ k d) (fold_block Found Found (body_step sig) block_step q)

pub ruleset body_rules = (with_true, with_false, with_eq, with_lt, with_le, with_pred, with_not, with_and, with_or, with_xor, with_iff, with_all, with_ex)

pub body_is : (sig : Signature) (f : Formula) (found each : List Term) → found ≡ with_body sig 0 f [] → each ≡ once_each [] found → each ≡ body_candidates sig f
unfolding with_body body_candidates
body_is sig f found each e o = o ∙ ap (once_each []) e
