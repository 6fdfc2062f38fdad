-- The limits of the numbers that a text shows, told apart: those that whatever is in memory keeps, and those that it may not keep.
use Rattle.std.specs.Prelude.{ℕ, true, ◌<◌, ◌^◌, List, ◌≡◌, slice_get, Some, unsigned_abs}
use Rattle.std.specs.List.{AllByRecursion}
use Rattle.std.specs.Int.{IsGcd}
use Rattle.ae_core.specs.Sorts.{within}
use Rattle.ae_core.specs.declared.formulas.Formula.{Formula}
use Rattle.ae_core.specs.declared.problems.Item.{Item}
use Rattle.ae_core.specs.declared.problems.Item.TheVariants.{Axiom, Goal}
use Rattle.ae_core.specs.declared.problems.Problem.{Problem}
use Rattle.ae_legal_texts.specs.Numbers.{Number, count, numeral, factor, formula_numbers}

-- a number of something, or a place, has 64 bits
abbrev pub IsCountWithin : Number → Type 0
IsCountWithin (count n) = n < 2 ^ 64
IsCountWithin _ = Unit {0}

abbrev pub AreCountsWithin : List Number → Type 0
AreCountsWithin = AllByRecursion IsCountWithin

-- a numeral is in lowest terms, and a factor has 127 bits beside its sign
abbrev pub IsValueWithin : Number → Type 0
IsValueWithin (count n) = Unit {0}
IsValueWithin (numeral a b) = IsGcd (unsigned_abs a) (unsigned_abs b) 1
IsValueWithin (factor z) = within z ≡ true

abbrev pub AreValuesWithin : List Number → Type 0
AreValuesWithin = AllByRecursion IsValueWithin

-- ---- problems
abbrev pub formula_of : Item → Formula
formula_of (Axiom name vars body) = body
formula_of (Goal name vars body) = body

-- each numeral in an axiom or a goal is in lowest terms
abbrev pub HasLowestNumerals : Problem → Type 0
HasLowestNumerals p = (k : ℕ) (i : Item) → slice_get p.items k ≡ Some i → AreValuesWithin (formula_numbers (formula_of i))
