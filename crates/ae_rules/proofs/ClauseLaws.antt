-- Literals and rows at each form of formula.
use Rattle.std.specs.Prelude.{ℕ, Bool, not, List, ◌≡◌, None}
use mathlib.Core.Path.{sym, ap, ◌∙◌}
use Rattle.ae_core.specs.declared.terms.Sort.{Sort}
use Rattle.ae_core.specs.declared.terms.Term.{Term}
use Rattle.ae_core.specs.declared.formulas.Formula.{Formula, True, False, Eq, Lt, Le, Pred, Not, And, Or, Xor, Iff, All, Ex, para-roll-Formula}
use Rattle.ae_core.specs.declared.formulas.Formula.TheOpen as layer_of
use Rattle.ae_core.specs.declared.formulas.Formula.TheVariants.{rolls-True, rolls-False, rolls-Eq, rolls-Lt, rolls-Le, rolls-Pred, rolls-Not, rolls-And, rolls-Or, rolls-Xor, rolls-Iff, rolls-All, rolls-Ex, outs-True, outs-False, outs-Eq, outs-Lt, outs-Le, outs-Pred, outs-Not, outs-And, outs-Or, outs-Xor, outs-Iff, outs-All, outs-Ex}
use Rattle.ae_core.specs.declared.formulas.Quant.{Quant}
use Rattle.ae_core.specs.declared.formulas.Lit.{Lit}
use Rattle.ae_rules.specs.Clauses.{literal, literal_step, row, row_of, and_row, or_row, iff_row, xor_row, true_row, false_row}

pub literal_true : (sign : Bool) → literal sign True ≡ record { positive = sign; formula = True }
unfolding literal
literal_true sign =
    ap (literal sign) (sym rolls-True) ∙ ap (λ g. g sign) (para-roll-Formula (Bool → Lit) (Unit {0}) literal_step (λ q. tt) layer_of.True)
    ∙ ap (λ f. record { positive = sign; formula = f }) rolls-True

pub literal_false : (sign : Bool) → literal sign False ≡ record { positive = sign; formula = False }
unfolding literal
literal_false sign =
    ap (literal sign) (sym rolls-False) ∙ ap (λ g. g sign) (para-roll-Formula (Bool → Lit) (Unit {0}) literal_step (λ q. tt) layer_of.False)
    ∙ ap (λ f. record { positive = sign; formula = f }) rolls-False

pub literal_eq : (sign : Bool) (a b : Term) → literal sign (Eq a b) ≡ record { positive = sign; formula = Eq a b }
unfolding literal
literal_eq sign a b =
    ap (literal sign) (sym (rolls-Eq a b)) ∙ ap (λ g. g sign) (para-roll-Formula (Bool → Lit) (Unit {0}) literal_step (λ q. tt) (layer_of.Eq a b))
    ∙ ap (λ f. record { positive = sign; formula = f }) (rolls-Eq a b)

pub literal_lt : (sign : Bool) (a b : Term) → literal sign (Lt a b) ≡ record { positive = sign; formula = Lt a b }
unfolding literal
literal_lt sign a b =
    ap (literal sign) (sym (rolls-Lt a b)) ∙ ap (λ g. g sign) (para-roll-Formula (Bool → Lit) (Unit {0}) literal_step (λ q. tt) (layer_of.Lt a b))
    ∙ ap (λ f. record { positive = sign; formula = f }) (rolls-Lt a b)

pub literal_le : (sign : Bool) (a b : Term) → literal sign (Le a b) ≡ record { positive = sign; formula = Le a b }
unfolding literal
literal_le sign a b =
    ap (literal sign) (sym (rolls-Le a b)) ∙ ap (λ g. g sign) (para-roll-Formula (Bool → Lit) (Unit {0}) literal_step (λ q. tt) (layer_of.Le a b))
    ∙ ap (λ f. record { positive = sign; formula = f }) (rolls-Le a b)

pub literal_pred : (sign : Bool) (p : ℕ) (ss : List Sort) (us : List Term) → literal sign (Pred p ss us) ≡ record { positive = sign; formula = Pred p ss us }
unfolding literal
literal_pred sign p ss us =
    ap (literal sign) (sym (rolls-Pred p ss us)) ∙ ap (λ g. g sign) (para-roll-Formula (Bool → Lit) (Unit {0}) literal_step (λ q. tt) (layer_of.Pred p ss us))
    ∙ ap (λ f. record { positive = sign; formula = f }) (rolls-Pred p ss us)

pub literal_not : (sign : Bool) (a : Formula) → literal sign (Not a) ≡ literal (not sign) a
unfolding literal
literal_not sign a = ap (literal sign) (sym (rolls-Not a)) ∙ ap (λ g. g sign) (para-roll-Formula (Bool → Lit) (Unit {0}) literal_step (λ q. tt) (layer_of.Not a))

pub literal_and : (sign : Bool) (a b : Formula) → literal sign (And a b) ≡ record { positive = sign; formula = And a b }
unfolding literal
literal_and sign a b =
    ap (literal sign) (sym (rolls-And a b)) ∙ ap (λ g. g sign) (para-roll-Formula (Bool → Lit) (Unit {0}) literal_step (λ q. tt) (layer_of.And a b))
    ∙ ap (λ f. record { positive = sign; formula = f }) (rolls-And a b)

pub literal_or : (sign : Bool) (a b : Formula) → literal sign (Or a b) ≡ record { positive = sign; formula = Or a b }
unfolding literal
literal_or sign a b =
    ap (literal sign) (sym (rolls-Or a b)) ∙ ap (λ g. g sign) (para-roll-Formula (Bool → Lit) (Unit {0}) literal_step (λ q. tt) (layer_of.Or a b))
    ∙ ap (λ f. record { positive = sign; formula = f }) (rolls-Or a b)

pub literal_xor : (sign : Bool) (a b : Formula) → literal sign (Xor a b) ≡ record { positive = sign; formula = Xor a b }
unfolding literal
literal_xor sign a b =
    ap (literal sign) (sym (rolls-Xor a b)) ∙ ap (λ g. g sign) (para-roll-Formula (Bool → Lit) (Unit {0}) literal_step (λ q. tt) (layer_of.Xor a b))
    ∙ ap (λ f. record { positive = sign; formula = f }) (rolls-Xor a b)

pub literal_iff : (sign : Bool) (a b : Formula) → literal sign (Iff a b) ≡ record { positive = sign; formula = Iff a b }
unfolding literal
literal_iff sign a b =
    ap (literal sign) (sym (rolls-Iff a b)) ∙ ap (λ g. g sign) (para-roll-Formula (Bool → Lit) (Unit {0}) literal_step (λ q. tt) (layer_of.Iff a b))
    ∙ ap (λ f. record { positive = sign; formula = f }) (rolls-Iff a b)

pub literal_all : (sign : Bool) (q : Quant) → literal sign (All q) ≡ record { positive = sign; formula = All q }
unfolding literal
literal_all sign q =
    ap (literal sign) (sym (rolls-All q)) ∙ ap (λ g. g sign) (para-roll-Formula (Bool → Lit) (Unit {0}) literal_step (λ q. tt) (layer_of.All q))
    ∙ ap (λ f. record { positive = sign; formula = f }) (rolls-All q)

pub literal_ex : (sign : Bool) (q : Quant) → literal sign (Ex q) ≡ record { positive = sign; formula = Ex q }
unfolding literal
literal_ex sign q =
    ap (literal sign) (sym (rolls-Ex q)) ∙ ap (λ g. g sign) (para-roll-Formula (Bool → Lit) (Unit {0}) literal_step (λ q. tt) (layer_of.Ex q))
    ∙ ap (λ f. record { positive = sign; formula = f }) (rolls-Ex q)

pub row_true : (r : ℕ) → row r True ≡ true_row r True
unfolding row row_of
row_true r = ap (row_of r True) outs-True

pub row_false : (r : ℕ) → row r False ≡ false_row r False
unfolding row row_of
row_false r = ap (row_of r False) outs-False

pub row_eq : (r : ℕ) (a b : Term) → row r (Eq a b) ≡ None
unfolding row row_of
row_eq r a b = ap (row_of r (Eq a b)) (outs-Eq a b)

pub row_lt : (r : ℕ) (a b : Term) → row r (Lt a b) ≡ None
unfolding row row_of
row_lt r a b = ap (row_of r (Lt a b)) (outs-Lt a b)

pub row_le : (r : ℕ) (a b : Term) → row r (Le a b) ≡ None
unfolding row row_of
row_le r a b = ap (row_of r (Le a b)) (outs-Le a b)

pub row_pred : (r : ℕ) (p : ℕ) (ss : List Sort) (us : List Term) → row r (Pred p ss us) ≡ None
unfolding row row_of
row_pred r p ss us = ap (row_of r (Pred p ss us)) (outs-Pred p ss us)

pub row_not : (r : ℕ) (a : Formula) → row r (Not a) ≡ None
unfolding row row_of
row_not r a = ap (row_of r (Not a)) (outs-Not a)

pub row_and : (r : ℕ) (a b : Formula) → row r (And a b) ≡ and_row r (And a b) a b
unfolding row row_of
row_and r a b = ap (row_of r (And a b)) (outs-And a b)

pub row_or : (r : ℕ) (a b : Formula) → row r (Or a b) ≡ or_row r (Or a b) a b
unfolding row row_of
row_or r a b = ap (row_of r (Or a b)) (outs-Or a b)

pub row_xor : (r : ℕ) (a b : Formula) → row r (Xor a b) ≡ xor_row r (Xor a b) a b
unfolding row row_of
row_xor r a b = ap (row_of r (Xor a b)) (outs-Xor a b)

pub row_iff : (r : ℕ) (a b : Formula) → row r (Iff a b) ≡ iff_row r (Iff a b) a b
unfolding row row_of
row_iff r a b = ap (row_of r (Iff a b)) (outs-Iff a b)

pub row_all : (r : ℕ) (q : Quant) → row r (All q) ≡ None
unfolding row row_of
row_all r q = ap (row_of r (All q)) (outs-All q)

pub row_ex : (r : ℕ) (q : Quant) → row r (Ex q) ≡ None
unfolding row row_of
row_ex r q = ap (row_of r (Ex q)) (outs-Ex q)

pub ruleset literal_rules = (literal_true, literal_false, literal_eq, literal_lt, literal_le, literal_pred, literal_not, literal_and, literal_or, literal_xor, literal_iff, literal_all, literal_ex)

pub ruleset row_rules = (row_true, row_false, row_eq, row_lt, row_le, row_pred, row_not, row_and, row_or, row_xor, row_iff, row_all, row_ex)
