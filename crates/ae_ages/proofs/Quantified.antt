-- The quantified parts of each form of formula.
use Rattle.std.specs.Prelude.{ℕ, List, [], ◌∷◌, ◌++◌, ◌≡◌}
use Rattle.ae_core.proofs.Recursion.{para_true, para_false, para_eq, para_lt, para_le, para_pred, para_not, para_and, para_or, para_xor, para_iff, para_all, para_ex}
use Rattle.ae_core.specs.declared.formulas.Formula.{Formula, True, False, Eq, Lt, Le, Pred, Not, And, Or, Xor, Iff, All, Ex}
use Rattle.ae_core.specs.declared.formulas.Quant.{Quant}
use Rattle.ae_core.specs.declared.terms.Sort.{Sort}
use Rattle.ae_core.specs.declared.terms.Term.{Term}
use Rattle.ae_ages.specs.Ages.{quantified, quantified_step}

pub quantified_true : quantified True ≡ []
unfolding quantified
quantified_true = para_true (List Formula) (Unit {0}) quantified_step (λ q. tt)

pub quantified_false : quantified False ≡ []
unfolding quantified
quantified_false = para_false (List Formula) (Unit {0}) quantified_step (λ q. tt)

pub quantified_eq : (a b : Term) → quantified (Eq a b) ≡ []
unfolding quantified
quantified_eq a b = para_eq (List Formula) (Unit {0}) quantified_step (λ q. tt) a b

pub quantified_lt : (a b : Term) → quantified (Lt a b) ≡ []
unfolding quantified
quantified_lt a b = para_lt (List Formula) (Unit {0}) quantified_step (λ q. tt) a b

pub quantified_le : (a b : Term) → quantified (Le a b) ≡ []
unfolding quantified
quantified_le a b = para_le (List Formula) (Unit {0}) quantified_step (λ q. tt) a b

pub quantified_pred : (n : ℕ) (ss : List Sort) (us : List Term) → quantified (Pred n ss us) ≡ []
unfolding quantified
quantified_pred n ss us = para_pred (List Formula) (Unit {0}) quantified_step (λ q. tt) n ss us

pub quantified_not : (a : Formula) → quantified (Not a) ≡ quantified a
unfolding quantified
quantified_not a = para_not (List Formula) (Unit {0}) quantified_step (λ q. tt) a

pub quantified_and : (a b : Formula) → quantified (And a b) ≡ quantified a ++ quantified b
unfolding quantified
quantified_and a b = para_and (List Formula) (Unit {0}) quantified_step (λ q. tt) a b

pub quantified_or : (a b : Formula) → quantified (Or a b) ≡ quantified a ++ quantified b
unfolding quantified
quantified_or a b = para_or (List Formula) (Unit {0}) quantified_step (λ q. tt) a b

pub quantified_xor : (a b : Formula) → quantified (Xor a b) ≡ quantified a ++ quantified b
unfolding quantified
quantified_xor a b = para_xor (List Formula) (Unit {0}) quantified_step (λ q. tt) a b

pub quantified_iff : (a b : Formula) → quantified (Iff a b) ≡ quantified a ++ quantified b
unfolding quantified
quantified_iff a b = para_iff (List Formula) (Unit {0}) quantified_step (λ q. tt) a b

pub quantified_all : (q : Quant) → quantified (All q) ≡ All q ∷ []
unfolding quantified
quantified_all q = para_all (List Formula) (Unit {0}) quantified_step (λ q. tt) q

pub quantified_ex : (q : Quant) → quantified (Ex q) ≡ Ex q ∷ []
unfolding quantified
quantified_ex q = para_ex (List Formula) (Unit {0}) quantified_step (λ q. tt) q
