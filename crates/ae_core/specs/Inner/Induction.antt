-- Induction on sorts, terms and formulas: a claim that each variant takes over from its parts holds of all.
-- A term is a variable, a numeral, a fresh constant or an application to a list of terms.
use Rattle.std.specs.Prelude.{ℕ, ℤ, Bool, List, [], ◌∷◌, map}
use Rattle.std.specs.List.{AllByRecursion}
use mathlib.Core.Path.{◌≡◌, sym, ap, ◌∙◌, subst}
use Rattle.ae_core.specs.declared.terms.Sort.{Sort, Sort-F, Var, Rigid, Int, Real, Bool as BoolSort, Unit as UnitSort, Named, map-Sort, ind-Sort, roll-Sort}
use Rattle.ae_core.specs.declared.terms.Sort.TheOpen as sort_layer
use Rattle.ae_core.specs.declared.terms.Sort.TheVariants.{rolls-Var, rolls-Rigid, rolls-Int, rolls-Real, rolls-Bool, rolls-Unit, rolls-Named}
use Rattle.ae_core.specs.declared.formulas.Formula.{Formula, Formula-F, True, False, Eq, Lt, Le, Pred, Not, And, Or, Xor, Iff, All, Ex, map-Formula, ind-Formula, roll-Formula}
use Rattle.ae_core.specs.declared.formulas.Formula.TheOpen as formula_layer
use Rattle.ae_core.specs.declared.formulas.Formula.TheVariants.{rolls-True, rolls-False, rolls-Eq, rolls-Lt, rolls-Le, rolls-Pred, rolls-Not, rolls-And, rolls-Or, rolls-Xor, rolls-Iff, rolls-All, rolls-Ex}
use Rattle.ae_core.specs.declared.formulas.Quant.{Quant, Quant-F, map-Quant, ind-Quant, roll-Quant, out-roll-Quant}
use Rattle.ae_core.specs.declared.terms.Head.{Head}
use Rattle.ae_core.specs.declared.terms.Term.{Term, Bound, Num, Fresh, Apply, Apply', Row_of-Term, end_of-Term, more_of-Term, roll-Term, roll-out-Term, items-the_row-Term, items_shown-the_row-Term-0}
use Rattle.ae_core.specs.declared.terms.Term.TheVariants.{rolls-Apply, outs-Apply'}

-- the induction on terms
module _ (P : Term → Type 0) (bound : (n : ℕ) → P (Bound n)) (num : (top bottom : ℤ) (real : Bool) → P (Num top bottom real))
    (fresh : (n : ℕ) (s : Sort) → P (Fresh n s))
    (apply : (h : Head) (ss : List Sort) (ts : List Term) → AllByRecursion P ts → P (Apply h ss ts)) where
  mutual
    term_go : (t : Term) → P t
    term_go (Bound n) = bound n
    term_go (Num a b r) = num a b r
    term_go (Fresh n s) = fresh n s
    term_go (Apply' h ss shape row) =
        let same = rolls-Apply h ss _ in
        let out = outs-Apply' h ss shape row in
        let back = roll-out-Term (Apply' h ss shape row) in
        subst P (sym same ∙ ap roll-Term (sym out) ∙ back)
        (apply h ss _ (subst (AllByRecursion P) (sym (items_shown-the_row-Term-0 shape row)) (terms_go row)))

    terms_go : {n : _} (row : Row_of-Term n) → AllByRecursion P (items-the_row-Term n row)
    terms_go end_of-Term = tt
    terms_go (more_of-Term t rest) = (term_go t, terms_go rest)

  pub by_terms : (t : Term) → P t
  by_terms = term_go

-- the induction on sorts
module _ (P : Sort → Type 0) (var : (i : ℕ) → P (Var i)) (rigid : (i : ℕ) → P (Rigid i)) (int : P Int) (real : P Real) (bool : P BoolSort) (unit : P UnitSort)
    (named : (h : ℕ) (ss : List Sort) → AllByRecursion P ss → P (Named h ss)) where
  held : (ys : List ((s : Sort) × P s)) → AllByRecursion P (map (λ e. e.0) ys)
  held [] = tt
  held (y ∷ ys) = (y.1, held ys)

  sort_case : (y : Sort-F ((s : Sort) × P s)) → P (roll-Sort (map-Sort ((s : Sort) × P s) Sort (λ e. e.0) y))
  sort_case (sort_layer.Var i) = subst P (sym (rolls-Var i)) (var i)
  sort_case (sort_layer.Rigid i) = subst P (sym (rolls-Rigid i)) (rigid i)
  sort_case sort_layer.Int = subst P (sym rolls-Int) int
  sort_case sort_layer.Real = subst P (sym rolls-Real) real
  sort_case sort_layer.Bool = subst P (sym rolls-Bool) bool
  sort_case sort_layer.Unit = subst P (sym rolls-Unit) unit
  sort_case (sort_layer.Named h ys) = subst P (sym (rolls-Named h (map (λ e. e.0) ys))) (named h (map (λ e. e.0) ys) (held ys))

  pub by_sorts : (s : Sort) → P s
  by_sorts = ind-Sort P (λ x y e. subst (λ z. P (roll-Sort z)) e (sort_case y))

-- the induction on formulas, with a claim on blocks
module _ (P : Formula → Type 0) (Q : Quant → Type 0) (yes : P True) (no : P False) (eq : (a b : Term) → P (Eq a b)) (lt : (a b : Term) → P (Lt a b)) (le : (a b : Term) → P (Le a b))
    (pred : (p : ℕ) (ss : List Sort) (ts : List Term) → P (Pred p ss ts)) (negated : (a : Formula) → P a → P (Not a))
    (both : (a b : Formula) → P a → P b → P (And a b)) (either : (a b : Formula) → P a → P b → P (Or a b)) (one : (a b : Formula) → P a → P b → P (Xor a b)) (alike : (a b : Formula) → P a → P b → P (Iff a b))
    (all : (q : Quant) → Q q → P (All q)) (some : (q : Quant) → Q q → P (Ex q))
    (block : (q : Quant) → P q.body → Q q) where
  formula_case : (y : Formula-F ((f : Formula) × P f) ((q : Quant) × Q q)) → P (roll-Formula (map-Formula ((f : Formula) × P f) ((q : Quant) × Q q) Formula Quant (λ e. e.0) (λ e. e.0) y))
  formula_case formula_layer.True = subst P (sym rolls-True) yes
  formula_case formula_layer.False = subst P (sym rolls-False) no
  formula_case (formula_layer.Eq a b) = subst P (sym (rolls-Eq a b)) (eq a b)
  formula_case (formula_layer.Lt a b) = subst P (sym (rolls-Lt a b)) (lt a b)
  formula_case (formula_layer.Le a b) = subst P (sym (rolls-Le a b)) (le a b)
  formula_case (formula_layer.Pred p ss ts) = subst P (sym (rolls-Pred p ss ts)) (pred p ss ts)
  formula_case (formula_layer.Not a) = subst P (sym (rolls-Not a.0)) (negated a.0 a.1)
  formula_case (formula_layer.And a b) = subst P (sym (rolls-And a.0 b.0)) (both a.0 b.0 a.1 b.1)
  formula_case (formula_layer.Or a b) = subst P (sym (rolls-Or a.0 b.0)) (either a.0 b.0 a.1 b.1)
  formula_case (formula_layer.Xor a b) = subst P (sym (rolls-Xor a.0 b.0)) (one a.0 b.0 a.1 b.1)
  formula_case (formula_layer.Iff a b) = subst P (sym (rolls-Iff a.0 b.0)) (alike a.0 b.0 a.1 b.1)
  formula_case (formula_layer.All q) = subst P (sym (rolls-All q.0)) (all q.0 q.1)
  formula_case (formula_layer.Ex q) = subst P (sym (rolls-Ex q.0)) (some q.0 q.1)

  formula_step : (x : Formula-F Formula Quant) (y : Formula-F ((f : Formula) × P f) ((q : Quant) × Q q)) → map-Formula ((f : Formula) × P f) ((q : Quant) × Q q) Formula Quant (λ e. e.0) (λ e. e.0) y ≡ x → P (roll-Formula x)
  formula_step x y e = subst (λ z. P (roll-Formula z)) e (formula_case y)

  block_step : (x : Quant-F Formula Quant) (y : Quant-F ((f : Formula) × P f) ((q : Quant) × Q q)) → map-Quant ((f : Formula) × P f) ((q : Quant) × Q q) Formula Quant (λ e. e.0) (λ e. e.0) y ≡ x → Q (roll-Quant x)
  block_step x y e = block (roll-Quant x) (subst (λ z. P z.body) (e ∙ sym (out-roll-Quant x)) y.body.1)

  pub by_formulas : (f : Formula) → P f
  by_formulas = ind-Formula P Q formula_step block_step

  pub by_quants : (q : Quant) → Q q
  by_quants = ind-Quant P Q formula_step block_step
