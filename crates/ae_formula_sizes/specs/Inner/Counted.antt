-- Sizes as they are counted: each number of them up to one more than the nodes that a formula may have.
use Rattle.std.specs.Prelude.{ℕ, ◌+◌, min, max, List, map}
use Rattle.ae_core.specs.declared.formulas.Formula.{Formula}
use Rattle.ae_core.specs.declared.formulas.Quant.{Quant, fold-Quant}
use Rattle.ae_core.specs.declared.terms.Sort.{Sort}
use Rattle.ae_core.specs.declared.terms.Term.{Term}
use Rattle.ae_journal.specs.Sizes.{joined, sort_size, term_size, formula_size, formula_size_step, quant_size_step}
use Rattle.ae_formula_sizes.specs.declared.counting.Size.{Size}

abbrev pub capped : ℕ → ℕ
capped n = min n 1000001

abbrev pub size : ℕ → ℕ → Size
size n l = record { nodes = n; levels = l }

abbrev pub counted : ℕ → ℕ → Size
counted n l = size (capped n) (capped l)

-- ---- what the code does with them
abbrev pub nothing : Size
nothing = size 0 0

abbrev pub leaf : Size
leaf = size 1 1

abbrev pub both : Size → Size → Size
both a b = size (capped (a.nodes + b.nodes)) (max a.levels b.levels)

abbrev pub round : Size → Size
round a = size (capped (a.nodes + 1)) (capped (a.levels + 1))

-- ---- the sizes of sorts, terms and formulas
abbrev pub sum : ℕ → ℕ → ℕ
sum m n = m + n

unfoldable pub size_of_sort : Sort → Size
size_of_sort s = counted (sort_size sum s) (sort_size max s)

unfoldable pub size_of_sorts : List Sort → Size
size_of_sorts ss = counted (joined sum (map (sort_size sum) ss)) (joined max (map (sort_size max) ss))

unfoldable pub size_of_term : Term → Size
size_of_term t = counted (term_size sum t) (term_size max t)

unfoldable pub size_of_terms : List Term → Size
size_of_terms ts = counted (joined sum (map (term_size sum) ts)) (joined max (map (term_size max) ts))

abbrev pub list_size : (ℕ → ℕ → ℕ) → List Term → ℕ
list_size join ts = joined join (map (term_size join) ts)

unfoldable pub size_of_triggers : List (List Term) → Size
size_of_triggers xs = counted (joined sum (map (list_size sum) xs)) (joined max (map (list_size max) xs))

abbrev pub quant_size : (ℕ → ℕ → ℕ) → Quant → ℕ
quant_size join = fold-Quant ℕ ℕ (formula_size_step join) (quant_size_step join)

unfoldable pub size_of_quant : Quant → Size
size_of_quant q = counted (quant_size sum q) (quant_size max q)

unfoldable pub size_of_formula : Formula → Size
size_of_formula f = counted (formula_size sum f) (formula_size max f)
