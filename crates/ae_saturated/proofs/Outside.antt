-- Whether what stands outside quantified parts is a name, for each kind of formula.
use Rattle.std.specs.Prelude.{ℕ, Bool, true, false, ◌&&◌, ◌≡◌, List, [], ◌∷◌, ◌++◌}
use Rattle.std.specs.List.{list_all}
use mathlib.Core.Path.{refl, ap, ◌∙◌}
use Rattle.std.proofs.lemmas.List.Folds.{list_all-append}
use Rattle.std.proofs.Math.Bool.{and-true}
use Rattle.ae_core.proofs.Recursion.{fold_true, fold_false, fold_eq, fold_lt, fold_le, fold_pred, fold_not, fold_and, fold_or, fold_xor, fold_iff, fold_all, fold_ex}
use Rattle.ae_core.specs.declared.formulas.Formula.{Formula, True, False, Eq, Lt, Le, Pred, Not, And, Or, Xor, Iff, All, Ex}
use Rattle.ae_core.specs.declared.formulas.Quant.{Quant}
use Rattle.ae_core.specs.declared.terms.Head.TheVariants as head
use Rattle.ae_core.specs.declared.terms.Sort.{Sort}
use Rattle.ae_core.specs.declared.terms.Term.{Term, Apply}
use Rattle.ae_journal.specs.States.{outside, outside_step}
use Rattle.ae_decide.specs.Names.{stands_in}
use Rattle.ae_saturated.specs.Literals.{are_named}

module _ (names : List Term) where
  of : (f : Formula) (ts : List Term) → outside f ≡ ts → are_named names f ≡ list_all (stands_in names) ts
  of f ts e = ap (list_all (stands_in names)) e

  two : (b c : Bool) → b && (c && true) ≡ b && c
  two true true = refl
  two true false = refl
  two false c = refl

  pub named-True : are_named names True ≡ true
  unfolding outside
  named-True = of True [] (fold_true (List Term) (Unit {0}) outside_step (λ q. tt))

  pub named-False : are_named names False ≡ true
  unfolding outside
  named-False = of False [] (fold_false (List Term) (Unit {0}) outside_step (λ q. tt))

  pub named-Eq : (s t : Term) → are_named names (Eq s t) ≡ stands_in names s && stands_in names t
  unfolding outside
  named-Eq s t = of (Eq s t) (s ∷ t ∷ []) (fold_eq (List Term) (Unit {0}) outside_step (λ q. tt) s t) ∙ two (stands_in names s) (stands_in names t)

  pub named-Lt : (s t : Term) → are_named names (Lt s t) ≡ stands_in names s && stands_in names t
  unfolding outside
  named-Lt s t = of (Lt s t) (s ∷ t ∷ []) (fold_lt (List Term) (Unit {0}) outside_step (λ q. tt) s t) ∙ two (stands_in names s) (stands_in names t)

  pub named-Le : (s t : Term) → are_named names (Le s t) ≡ stands_in names s && stands_in names t
  unfolding outside
  named-Le s t = of (Le s t) (s ∷ t ∷ []) (fold_le (List Term) (Unit {0}) outside_step (λ q. tt) s t) ∙ two (stands_in names s) (stands_in names t)

  pub named-Pred : (p : ℕ) (ss : List Sort) (us : List Term) → are_named names (Pred p ss us) ≡ stands_in names (Apply (head.Symbol p) ss us)
  unfolding outside
  named-Pred p ss us =
      of (Pred p ss us) (Apply (head.Symbol p) ss us ∷ []) (fold_pred (List Term) (Unit {0}) outside_step (λ q. tt) p ss us)
      ∙ and-true (stands_in names (Apply (head.Symbol p) ss us))

  pub named-Not : (a : Formula) → are_named names (Not a) ≡ are_named names a
  unfolding outside
  named-Not a = of (Not a) (outside a) (fold_not (List Term) (Unit {0}) outside_step (λ q. tt) a)

  pub named-And : (a b : Formula) → are_named names (And a b) ≡ are_named names a && are_named names b
  unfolding outside
  named-And a b =
      of (And a b) (outside a ++ outside b) (fold_and (List Term) (Unit {0}) outside_step (λ q. tt) a b)
      ∙ list_all-append (stands_in names) (outside a) (outside b)

  pub named-Or : (a b : Formula) → are_named names (Or a b) ≡ are_named names a && are_named names b
  unfolding outside
  named-Or a b =
      of (Or a b) (outside a ++ outside b) (fold_or (List Term) (Unit {0}) outside_step (λ q. tt) a b)
      ∙ list_all-append (stands_in names) (outside a) (outside b)

  pub named-Xor : (a b : Formula) → are_named names (Xor a b) ≡ are_named names a && are_named names b
  unfolding outside
  named-Xor a b =
      of (Xor a b) (outside a ++ outside b) (fold_xor (List Term) (Unit {0}) outside_step (λ q. tt) a b)
      ∙ list_all-append (stands_in names) (outside a) (outside b)

  pub named-Iff : (a b : Formula) → are_named names (Iff a b) ≡ are_named names a && are_named names b
  unfolding outside
  named-Iff a b =
      of (Iff a b) (outside a ++ outside b) (fold_iff (List Term) (Unit {0}) outside_step (λ q. tt) a b)
      ∙ list_all-append (stands_in names) (outside a) (outside b)

  pub named-All : (q : Quant) → are_named names (All q) ≡ true
  unfolding outside
  named-All q = of (All q) [] (fold_all (List Term) (Unit {0}) outside_step (λ q. tt) q)

  pub named-Ex : (q : Quant) → are_named names (Ex q) ≡ true
  unfolding outside
  named-Ex q = of (Ex q) [] (fold_ex (List Term) (Unit {0}) outside_step (λ q. tt) q)

pub ruleset named_rules = (named-True, named-False, named-Eq, named-Lt, named-Le, named-Pred, named-Not, named-And, named-Or, named-Xor, named-Iff, named-All, named-Ex)
