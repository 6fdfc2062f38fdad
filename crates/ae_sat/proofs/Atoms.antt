-- Which formulas are atoms, at each form of formula.
use Rattle.std.proofs.Common.{◌≡◌, ℕ, true, false, List, ap}
use Rattle.ae_core.specs.declared.terms.Sort.{Sort}
use Rattle.ae_core.specs.declared.terms.Term.{Term}
use Rattle.ae_core.specs.declared.formulas.Formula.{Formula, True, False, Eq, Lt, Le, Pred, Not, And, Or, Xor, Iff, All, Ex}
use Rattle.ae_core.specs.declared.formulas.Formula.TheVariants.{outs-True, outs-False, outs-Eq, outs-Lt, outs-Le, outs-Pred, outs-Not, outs-And, outs-Or, outs-Xor, outs-Iff, outs-All, outs-Ex}
use Rattle.ae_core.specs.declared.formulas.Quant.{Quant}
use Rattle.ae_theory.specs.Names.{is_atom, is_atom_of}

pub atom_eq : (a b : Term) → is_atom (Eq a b) ≡ true
unfolding is_atom
atom_eq a b = ap is_atom_of (outs-Eq a b)

pub atom_lt : (a b : Term) → is_atom (Lt a b) ≡ true
unfolding is_atom
atom_lt a b = ap is_atom_of (outs-Lt a b)

pub atom_le : (a b : Term) → is_atom (Le a b) ≡ true
unfolding is_atom
atom_le a b = ap is_atom_of (outs-Le a b)

pub atom_pred : (n : ℕ) (ss : List Sort) (ts : List Term) → is_atom (Pred n ss ts) ≡ true
unfolding is_atom
atom_pred n ss ts = ap is_atom_of (outs-Pred n ss ts)

pub atom_true : is_atom True ≡ false
unfolding is_atom
atom_true = ap is_atom_of outs-True

pub atom_false : is_atom False ≡ false
unfolding is_atom
atom_false = ap is_atom_of outs-False

pub atom_not : (a : Formula) → is_atom (Not a) ≡ false
unfolding is_atom
atom_not a = ap is_atom_of (outs-Not a)

pub atom_and : (a b : Formula) → is_atom (And a b) ≡ false
unfolding is_atom
atom_and a b = ap is_atom_of (outs-And a b)

pub atom_or : (a b : Formula) → is_atom (Or a b) ≡ false
unfolding is_atom
atom_or a b = ap is_atom_of (outs-Or a b)

pub atom_xor : (a b : Formula) → is_atom (Xor a b) ≡ false
unfolding is_atom
atom_xor a b = ap is_atom_of (outs-Xor a b)

pub atom_iff : (a b : Formula) → is_atom (Iff a b) ≡ false
unfolding is_atom
atom_iff a b = ap is_atom_of (outs-Iff a b)

pub atom_all : (q : Quant) → is_atom (All q) ≡ false
unfolding is_atom
atom_all q = ap is_atom_of (outs-All q)

pub atom_ex : (q : Quant) → is_atom (Ex q) ≡ false
unfolding is_atom
atom_ex q = ap is_atom_of (outs-Ex q)

pub ruleset atom_rules = (atom_eq, atom_lt, atom_le, atom_pred, atom_true, atom_false, atom_not, atom_and, atom_or, atom_xor, atom_iff, atom_all, atom_ex)
