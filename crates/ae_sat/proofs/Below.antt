-- Which formulas say that one number is below another, at each form of formula.
use Rattle.std.proofs.Common.{◌≡◌, ℕ, true, false, List, ap}
use Rattle.ae_core.specs.declared.terms.Sort.{Sort}
use Rattle.ae_core.specs.declared.terms.Term.{Term}
use Rattle.ae_core.specs.declared.formulas.Formula.{Formula, True, False, Eq, Lt, Le, Pred, Not, And, Or, Xor, Iff, All, Ex}
use Rattle.ae_core.specs.declared.formulas.Formula.TheVariants.{outs-True, outs-False, outs-Eq, outs-Lt, outs-Le, outs-Pred, outs-Not, outs-And, outs-Or, outs-Xor, outs-Iff, outs-All, outs-Ex}
use Rattle.ae_core.specs.declared.formulas.Quant.{Quant}
use Rattle.ae_sat.specs.Strict.{is_below, is_below_of}

pub below_eq : (a b : Term) → is_below (Eq a b) ≡ false
unfolding is_below
below_eq a b = ap is_below_of (outs-Eq a b)

pub below_lt : (a b : Term) → is_below (Lt a b) ≡ true
unfolding is_below
below_lt a b = ap is_below_of (outs-Lt a b)

pub below_le : (a b : Term) → is_below (Le a b) ≡ false
unfolding is_below
below_le a b = ap is_below_of (outs-Le a b)

pub below_pred : (n : ℕ) (ss : List Sort) (ts : List Term) → is_below (Pred n ss ts) ≡ false
unfolding is_below
below_pred n ss ts = ap is_below_of (outs-Pred n ss ts)

pub below_true : is_below True ≡ false
unfolding is_below
below_true = ap is_below_of outs-True

pub below_false : is_below False ≡ false
unfolding is_below
below_false = ap is_below_of outs-False

pub below_not : (a : Formula) → is_below (Not a) ≡ false
unfolding is_below
below_not a = ap is_below_of (outs-Not a)

pub below_and : (a b : Formula) → is_below (And a b) ≡ false
unfolding is_below
below_and a b = ap is_below_of (outs-And a b)

pub below_or : (a b : Formula) → is_below (Or a b) ≡ false
unfolding is_below
below_or a b = ap is_below_of (outs-Or a b)

pub below_xor : (a b : Formula) → is_below (Xor a b) ≡ false
unfolding is_below
below_xor a b = ap is_below_of (outs-Xor a b)

pub below_iff : (a b : Formula) → is_below (Iff a b) ≡ false
unfolding is_below
below_iff a b = ap is_below_of (outs-Iff a b)

pub below_all : (q : Quant) → is_below (All q) ≡ false
unfolding is_below
below_all q = ap is_below_of (outs-All q)

pub below_ex : (q : Quant) → is_below (Ex q) ≡ false
unfolding is_below
below_ex q = ap is_below_of (outs-Ex q)

pub ruleset below_rules = (below_eq, below_lt, below_le, below_pred, below_true, below_false, below_not, below_and, below_or, below_xor, below_iff, below_all, below_ex)
