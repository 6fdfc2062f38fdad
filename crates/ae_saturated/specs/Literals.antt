-- Tests of the literals of a state, one by one.
use Rattle.std.specs.Prelude.{ℕ, zero, suc, Bool, true, false, cond, not, ◌&&◌, ◌||◌, nat_eq, List, [], ◌∷◌, Option, Some, None}
use Rattle.std.specs.List.{list_all, list_any}
use Rattle.ae_base.specs.Decided.{decided}
use Rattle.ae_core.specs.Decided.{Term_discrete}
use Rattle.ae_core.specs.Sorts.{sort_of, same_known, same_sorts}
use Rattle.ae_core.specs.declared.formulas.Formula.{Formula, Formula-F, out-Formula}
use Rattle.ae_core.specs.declared.formulas.Formula.TheOpen as layer
use Rattle.ae_core.specs.declared.formulas.Lit.{Lit}
use Rattle.ae_core.specs.declared.formulas.Quant.{Quant}
use Rattle.ae_core.specs.declared.problems.Signature.{Signature}
use Rattle.ae_core.specs.declared.terms.Sort.{Sort}
use Rattle.ae_core.specs.declared.terms.Term.{Term}
use Rattle.ae_rules.specs.Clauses.{Clause, opposite, row, stands}
use Rattle.ae_journal.specs.States.{outside}
use Rattle.ae_journal.specs.declared.systems.System.{System}
use Rattle.ae_decide.specs.Names.{stands_in}
use Rattle.ae_decide.specs.Values.{are_alike}

-- not quantified
abbrev pub is_closed_by : Formula-F Formula Quant → Bool
is_closed_by (layer.All q) = false
is_closed_by (layer.Ex q) = false
is_closed_by _ = true

abbrev pub is_closed : Lit → Bool
is_closed l = is_closed_by (out-Formula l.formula)

-- the opposite doesn't stand
abbrev pub is_consistent : List Lit → Lit → Bool
is_consistent ls l = not (stands ls (opposite l))

-- what stands outside quantified parts is a name
abbrev pub are_named : List Term → Formula → Bool
are_named names f = list_all (stands_in names) (outside f)

-- a literal of a row stands
abbrev pub some_stands : List Lit → Option Clause → Bool
some_stands ls (Some c) = list_any (stands ls) c
some_stands ls None = true

-- one of each row below n
unfoldable pub rows_stand : List Lit → Formula → ℕ → Bool
rows_stand ls f zero = true
rows_stand ls f (suc r) = some_stands ls (row r f) && rows_stand ls f r

-- an equation is of terms of one value, a disequation isn't
abbrev pub equation_by : System → Bool → Formula-F Formula Quant → Bool
equation_by y sign (layer.Eq s t) = cond sign (are_alike y s t) (not (are_alike y s t))
equation_by y sign _ = true

abbrev pub equation_holds : System → Lit → Bool
equation_holds y l = equation_by y l.positive (out-Formula l.formula)

-- ---- predicates
abbrev pub are_same : Signature → System → Term → Term → Bool
are_same sig y t u = decided (Term_discrete t u) || (same_known (sort_of sig t) (sort_of sig u) && are_alike y t u)

abbrev pub all_same : Signature → System → List Term → List Term → Bool
all_same sig y [] [] = true
all_same sig y (t ∷ ts) (u ∷ us) = are_same sig y t u && all_same sig y ts us
all_same sig y _ _ = false

-- a literal says that a predicate doesn't hold of the same arguments
abbrev pub denies_by : Signature → System → ℕ → List Sort → List Term → Formula-F Formula Quant → Bool
denies_by sig y q ss ts (layer.Pred r os us) = nat_eq q r && same_sorts ss os && all_same sig y ts us
denies_by sig y q ss ts _ = false

abbrev pub denies : Signature → System → ℕ → List Sort → List Term → Lit → Bool
denies sig y q ss ts l = not l.positive && denies_by sig y q ss ts (out-Formula l.formula)

abbrev pub predicate_by : Signature → System → List Lit → Formula-F Formula Quant → Bool
predicate_by sig y ls (layer.Pred q ss ts) = not (list_any (denies sig y q ss ts) ls)
predicate_by sig y ls _ = true

-- no literal says the opposite of a predicate that holds
abbrev pub predicate_holds : Signature → System → List Lit → Lit → Bool
predicate_holds sig y ls l = not l.positive || predicate_by sig y ls (out-Formula l.formula)

-- ---- all of it
abbrev pub literal_fits : Signature → System → List Lit → Lit → Bool
literal_fits sig y ls l =
    is_consistent ls l && are_named y.names l.formula && rows_stand ls l.formula 17 && equation_holds y l && predicate_holds sig y ls l

abbrev pub literals_fit : Signature → System → List Lit → Bool
literals_fit sig y ls = list_all (literal_fits sig y ls) ls
