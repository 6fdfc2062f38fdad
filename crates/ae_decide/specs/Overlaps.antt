-- A test of overlaps: normal forms by the rules of a symbol, and those of the two results of Deduce.
use Rattle.std.specs.Prelude.{ℕ, Bool, not, ◌&&◌, ◌||◌, ◌≡◌, List, slice_get, Option, Some}
use Rattle.std.specs.List.{list_all}
use mathlib.Core.List.{List-discrete}
use native.Mathlib.Decide.{ℕ_discrete}
use Rattle.ae_base.specs.Decided.{decided}
use Rattle.ae_core.specs.declared.problems.AcSymbol.{AcSymbol}
use Rattle.ae_multiset.specs.Multisets.{IsLess, common}
use Rattle.ae_multiset.specs.Normal.{normal_form, stepped}
use Rattle.ae_multiset.specs.Rewriting.{overlap_first, overlap_second}
use Rattle.ae_journal.specs.Evaluate.{sides_at}
use Rattle.ae_journal.specs.declared.systems.RuleEntry.{RuleEntry}
use Rattle.ae_decide.specs.Reduction.{is_empty, same_symbol}

-- the right side of each rule is the smaller
abbrev pub AllFall : List RuleEntry → Type 0
AllFall es = (k : ℕ) (e : RuleEntry) → slice_get es k ≡ Some e → IsLess e.right e.left

-- one step by the first rule of a symbol whose left side is a part
unfoldable pub step_by : List RuleEntry → AcSymbol → List ℕ → Option (List ℕ)
step_by es c a = stepped (sides_at c.head c.sorts es) a

-- the normal form by the rules of a symbol
abbrev pub nf : List RuleEntry → AcSymbol → List ℕ → List ℕ
nf es c a = normal_form (sides_at c.head c.sorts es) a

-- some name stands in both
abbrev pub share : List ℕ → List ℕ → Bool
share a b = not (is_empty (common a b))

abbrev pub same_names : List ℕ → List ℕ → Bool
same_names a b = decided (List-discrete ℕ_discrete a b)

abbrev pub results_agree : List RuleEntry → RuleEntry → RuleEntry → Bool
results_agree es d e =
    same_names (nf es d.symbol (overlap_first d.left d.right e.left)) (nf es d.symbol (overlap_second d.left e.left e.right))

-- where two rules of one symbol overlap, both results have one normal form
abbrev pub overlap_joins : List RuleEntry → RuleEntry → RuleEntry → Bool
overlap_joins es d e = not (same_symbol d.symbol e.symbol && share d.left e.left) || results_agree es d e

abbrev pub all_join : List RuleEntry → Bool
all_join es = list_all (λ d. list_all (overlap_joins es d) es) es
