-- Sets of fresh constants.
use Rattle.std.specs.Prelude.{ℕ, suc, ◌+◌, ◌≤◌, ◌^◌, Bool, false, not, ◌||◌, List, [], ◌∷◌, ◌≡◌, length}
use Rattle.std.specs.List.{list_any}
use Rattle.std.specs.BTreeSet.{BTreeSet, contains}
use Rattle.std.specs.declared.cmp.Ordering.{Ordering}
use Rattle.ae_core.specs.Orders.{term_order}
use Rattle.ae_core.specs.declared.terms.Sort.{Sort}
use Rattle.ae_core.specs.declared.terms.Term.{Fresh}
use Rattle.ae_core.specs.declared.formulas.Formula.{Formula, out-Formula}
use Rattle.ae_core.specs.declared.problems.Problem.{Problem}
use Rattle.ae_core.specs.declared.proofs.ClauseLine.{ClauseLine}
use Rattle.ae_core.specs.declared.proofs.ClauseLine.TheVariants.{Fresh as FreshLine}
use Rattle.ae_rules.specs.Instances.{block_sorts}
use Rattle.ae_calc.specs.Inner.Mentions.{formula_mentions, line_mentions}
use Rattle.ae_check.specs.declared.constants.Constant.{Constant}

abbrev pub constant_order : Constant → Constant → Ordering
constant_order a b = term_order a.term b.term

-- whether the set has constant n of the sort
abbrev pub has : BTreeSet Constant → ℕ → Sort → Bool
has set n s = contains constant_order set (record { term = Fresh n s })

-- the new set has the constants of the old one, and those of the test
pub record IsGathered (old new : BTreeSet Constant) (test : ℕ → Sort → Bool) : Type 0 where
  pub each : (n : ℕ) (s : Sort) → has new n s ≡ (has old n s || test n s)

-- the set has the constants of these lines and of their clauses
pub record IsOfLines (p : Problem) (g : ℕ) (lines : List ClauseLine) (set : BTreeSet Constant) : Type 0 where
  pub each : (n : ℕ) (s : Sort) → has set n s ≡ list_any (line_mentions p g n (s ∷ [])) lines

-- some of the constants of the sorts, numbered from m, is in the set
abbrev pub any_has : BTreeSet Constant → ℕ → List Sort → Bool
any_has set m [] = false
any_has set m (s ∷ ss) = has set m s || any_has set (suc m) ss

-- none of them is in the set or in the formula
abbrev pub has_none : BTreeSet Constant → ℕ → List Sort → Formula → Bool
has_none set m ss f = not (formula_mentions m ss f || any_has set m ss)

-- the numbers of the constants that a line puts are below 2^64
abbrev pub AreNumbered : ClauseLine → Type 0
AreNumbered (FreshLine f m) = m + length (block_sorts (out-Formula f)) ≤ 2 ^ 64
AreNumbered _ = Unit {0}
