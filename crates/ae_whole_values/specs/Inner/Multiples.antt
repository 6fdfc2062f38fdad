-- The equation `den * name = sum` of the value of an integer, where no integers solve it.
use Rattle.std.specs.Prelude.{ℕ, ℤ, pos, ◌*ℤ◌, List, ◌≡◌, ◌≢◌, Some}
use Rattle.std.specs.List.{AllByRecursion}
use Rattle.ae_core.specs.Sorts.{sort_of}
use Rattle.ae_core.specs.declared.problems.Signature.{Signature}
use Rattle.ae_core.specs.declared.terms.Sort.{Int}
use Rattle.ae_core.specs.declared.terms.Term.{Term}
use Rattle.ae_store.specs.Terms.{named}
use Rattle.ae_just.specs.declared.steps.Times.{Times}

-- a number divides the denominator and each factor, but not the constant
pub record IsNotWhole (d : ℕ) (den : ℤ) (parts : List Times) (constant : ℤ) : Type 0 where
  pub of_denominator : (z : ℤ) × (den ≡ z *ℤ pos d)
  pub of_factors : AllByRecursion (λ p. (z : ℤ) × (p.factor ≡ z *ℤ pos d)) parts
  pub not_of_constant : (z : ℤ) → constant ≢ z *ℤ pos d

-- the name and those of the sum are of sort `int`
pub record AreIntegers (sig : Signature) (ts : List Term) (name : ℕ) (parts : List Times) : Type 0 where
  pub of_name : sort_of sig (named ts name) ≡ Some Int
  pub of_parts : AllByRecursion (λ p. sort_of sig (named ts p.name) ≡ Some Int) parts
