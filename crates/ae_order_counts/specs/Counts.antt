-- The comparisons of clauses, and how many of them compare terms whose order is open.
use Rattle.std.specs.Prelude.{ℕ, Bool, false, not, ◌||◌, List, [], ◌∷◌, ◌++◌, Option, Some, None}
use Rattle.std.specs.List.{filter, flat_map, list_any}
use Rattle.std.specs.Set.{distinct_count}
use Rattle.ae_base.specs.Decided.{decided}
use Rattle.ae_base.specs.Options.{◌>>=◌, or_else}
use Rattle.ae_core.specs.Decided.{Formula_discrete, Lit_discrete}
use Rattle.ae_core.specs.declared.formulas.Formula.{Formula, Formula-F, Eq, Lt, out-Formula, para-Formula}
use Rattle.ae_core.specs.declared.formulas.Formula.TheOpen as layer
use Rattle.ae_core.specs.declared.formulas.Lit.{Lit}
use Rattle.ae_core.specs.declared.formulas.Quant.{Quant}
use Rattle.ae_core.specs.declared.terms.Term.{Term}
use Rattle.ae_explain.specs.declared.trail.Assigned.{Assigned}
use Rattle.ae_propagation.specs.Settled.{Holds}
use Rattle.ae_rules.specs.Clauses.{Clause, is_true}

-- a trail says neither that two terms are equal nor that one is below the other
pub record IsOrderOpen (t : List Assigned) (s u : Term) : Type 0 where
  pub equal : ¬ Holds t (is_true (Eq s u))
  pub turned : ¬ Holds t (is_true (Eq u s))
  pub below : ¬ Holds t (is_true (Lt s u))
  pub above : ¬ Holds t (is_true (Lt u s))

-- the same as a truth value
abbrev pub holds_in : List Assigned → Lit → Bool
holds_in t l = list_any (λ (a : Assigned). decided (Lit_discrete a.lit l)) t

abbrev pub has_order : List Assigned → Term → Term → Bool
has_order t s u = holds_in t (is_true (Eq s u)) || holds_in t (is_true (Eq u s)) || holds_in t (is_true (Lt s u)) || holds_in t (is_true (Lt u s))

-- the two terms of an equation or a strict inequality
abbrev pub compared : Formula-F Formula Quant → Option (Term × Term)
compared (layer.Eq s u) = Some (s, u)
compared (layer.Lt s u) = Some (s, u)
compared _ = None

-- whether a formula compares two terms whose order is open
abbrev pub is_open_in : List Assigned → Formula → Bool
is_open_in t f = or_else (compared (out-Formula f) >>= λ p. Some (not (has_order t p.0 p.1))) false

-- the equations and strict inequalities of a formula, those in blocks left out
abbrev pub comparisons_step : Formula-F (Formula × List Formula) (Quant × Unit {0}) → List Formula
comparisons_step layer.True = []
comparisons_step layer.False = []
comparisons_step (layer.Eq s u) = Eq s u ∷ []
comparisons_step (layer.Lt s u) = Lt s u ∷ []
comparisons_step (layer.Le s u) = []
comparisons_step (layer.Pred p ss us) = []
comparisons_step (layer.Not a) = a.1
comparisons_step (layer.And a b) = a.1 ++ b.1
comparisons_step (layer.Or a b) = a.1 ++ b.1
comparisons_step (layer.Xor a b) = a.1 ++ b.1
comparisons_step (layer.Iff a b) = a.1 ++ b.1
comparisons_step (layer.All q) = []
comparisons_step (layer.Ex q) = []

unfoldable pub comparisons_of : Formula → List Formula
comparisons_of = para-Formula (List Formula) (Unit {0}) comparisons_step (λ q. tt)

-- those of the literals of clauses
abbrev pub comparisons_in : List Clause → List Formula
comparisons_in cs = flat_map (λ c. flat_map (λ (l : Lit). comparisons_of l.formula) c) cs

-- two formulas are the same
abbrev pub same_formula : Formula → Formula → Bool
same_formula f h = decided (Formula_discrete f h)

-- how many different comparisons of the clauses are of terms whose order is open
abbrev pub orders_left : List Assigned → List Clause → ℕ
orders_left t clauses = distinct_count same_formula (filter (is_open_in t) (comparisons_in clauses))
