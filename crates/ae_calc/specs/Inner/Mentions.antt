-- Whether one of the constants that a line puts stands in a term, a formula, a clause and a line.
use Rattle.std.specs.Prelude.{ℕ, Bool, false, not, ◌||◌, List, [], Some, slice_get}
use Rattle.std.specs.List.{list_any}
use Rattle.ae_base.specs.Decided.{decided}
use Rattle.ae_core.specs.Decided.{Term_discrete}
use Rattle.ae_core.specs.Sorts.{same_sort}
use Rattle.ae_base.specs.Options.{or_else, ◌>>=◌}
use Rattle.ae_rules.specs.Clauses.{Clause}
use Rattle.ae_rules.specs.Lines.{states}
use Rattle.ae_rules.specs.Instances.{count_from, fresh_terms}
use Rattle.ae_core.specs.Constants.{constants, formula_constants}
use Rattle.ae_rules.specs.Derivations.{conclusion}
use Rattle.ae_core.specs.declared.terms.Sort.{Sort}
use Rattle.ae_core.specs.declared.terms.Term.{Term}
use Rattle.ae_core.specs.declared.formulas.Formula.{Formula}
use Rattle.ae_core.specs.declared.formulas.Quant.{Quant}
use Rattle.ae_core.specs.declared.problems.Problem.{Problem}
use Rattle.ae_core.specs.declared.proofs.EqLine.{EqLine}
use Rattle.ae_core.specs.declared.proofs.ClauseLine.{ClauseLine}
use Rattle.ae_core.specs.declared.proofs.ClauseLine.TheVariants.{Hyp, Goal, Def, Inst, Fresh as FreshLine, Exh, Tri, Block, Rup}

-- the sort at this place is s
abbrev pub has_sort : List Sort → ℕ → Sort → Bool
has_sort ss k s = or_else (slice_get ss k >>= λ x. Some (same_sort x s)) false

-- the constant is one of those of the sorts, numbered from m
unfoldable pub is_put : ℕ → List Sort → Term → Bool
is_put m ss t = list_any (λ c. decided (Term_discrete c t)) (count_from m ss)

-- one of them stands in the term
unfoldable pub mentions : ℕ → List Sort → Term → Bool
mentions m ss t = list_any (is_put m ss) (constants t)

-- in the formula, its triggers included
unfoldable pub formula_mentions : ℕ → List Sort → Formula → Bool
formula_mentions m ss f = list_any (is_put m ss) (formula_constants f)

unfoldable pub quant_mentions : ℕ → List Sort → Quant → Bool
quant_mentions m ss q = list_any (list_any (mentions m ss)) q.triggers || formula_mentions m ss q.body

-- in the clause
abbrev pub clause_mentions : ℕ → List Sort → Clause → Bool
clause_mentions m ss c = list_any (λ l. formula_mentions m ss l.formula) c

-- in what the derived line states
abbrev pub derived_mentions : ℕ → List Sort → EqLine → Bool
derived_mentions m ss l = mentions m ss (states l).left || mentions m ss (states l).right

-- in the line itself
abbrev pub own_mentions : ℕ → List Sort → ClauseLine → Bool
own_mentions m ss (Hyp k os) = false
own_mentions m ss Goal = false
own_mentions m ss (Def r f) = formula_mentions m ss f
own_mentions m ss (Inst f ts) = formula_mentions m ss f || list_any (mentions m ss) ts
own_mentions m ss (FreshLine f n) = formula_mentions m ss f || list_any (is_put m ss) (fresh_terms n f)
own_mentions m ss (Exh t) = mentions m ss t
own_mentions m ss (Tri s t) = mentions m ss s || mentions m ss t
own_mentions m ss (Block b) = clause_mentions m ss b.deriv.hyps || list_any (derived_mentions m ss) b.deriv.lines
own_mentions m ss (Rup c ks) = clause_mentions m ss c

-- in the line or in its clause
abbrev pub line_mentions : Problem → ℕ → ℕ → List Sort → ClauseLine → Bool
line_mentions p g m ss l = own_mentions m ss l || clause_mentions m ss (or_else (conclusion p g l) [])

-- in no earlier line, and not in the formula
abbrev pub no_mention : Problem → ℕ → List ClauseLine → ℕ → List Sort → Formula → Bool
no_mention p g earlier m ss f = not (formula_mentions m ss f || list_any (line_mentions p g m ss) earlier)
