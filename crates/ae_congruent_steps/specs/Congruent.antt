-- Names that apply one head to names that steps equate.
use Rattle.std.specs.Prelude.{ℕ, List, ◌≡◌, map}
use Rattle.ae_core.specs.declared.terms.Sort.{Sort}
use Rattle.ae_core.specs.declared.terms.Term.{Term, Apply}
use Rattle.ae_core.specs.declared.terms.Head.{Head}
use Rattle.ae_just.specs.declared.steps.Step.{Step}
use Rattle.ae_multiset_steps.specs.Equating.{AreEquated}
use Rattle.ae_store.specs.Terms.{named}

-- the terms of the names left and right apply one head at the same sorts, and the steps of these numbers equate the names of their arguments, one by one
pub record AreCongruent (ts : List Term) (steps : List Step) (left right : ℕ) (ids : List ℕ) : Type 0 where
  pub head : Head
  pub sorts : List Sort
  pub first : List ℕ
  pub second : List ℕ
  pub left_is : named ts left ≡ Apply head sorts (map (named ts) first)
  pub right_is : named ts right ≡ Apply head sorts (map (named ts) second)
  pub equated : AreEquated steps first second ids
