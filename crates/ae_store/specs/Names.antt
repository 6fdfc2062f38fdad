-- Names of terms.
use Rattle.std.specs.Prelude.{ℕ, ◌<◌, List, ◌≡◌, map, length, slice_get, true, Some, Bool, []}
use Rattle.std.specs.List.{AllByRecursion}
use Rattle.ae_base.specs.Options.{known}
use Rattle.ae_core.specs.Sorts.{sort_of, trigger_ok, is_closed_sort}
use Rattle.ae_core.specs.declared.problems.Signature.{Signature}
use Rattle.ae_core.specs.declared.terms.Term.{Term}
use Rattle.ae_store.specs.declared.nodes.Node.{Node}
use Rattle.ae_store.specs.Shapes.{shapes}
use Rattle.ae_store.specs.Terms as store
use Rattle.ae_store.specs.Terms.{named}

-- the names are those of the terms, one by one
pub record AreNames (ns : List Node) (names : List ℕ) (ts : List Term) : Type 0 where
  pub terms : map (named (store.terms (shapes ns))) names ≡ ts
  pub within : AllByRecursion (λ a. a < length ns) names

-- each of the terms is closed and well sorted
pub record AreTerms (sig : Signature) (ts : List Term) : Type 0 where
  pub all : (i : ℕ) (t : Term) → slice_get ts i ≡ Some t → known (sort_of sig t) ≡ true

-- each number is below n
pub record AreWithin (n : ℕ) (names : List ℕ) : Type 0 where
  pub all : AllByRecursion (λ a. a < n) names

-- the term is closed and well sorted, or a predicate's application that is
abbrev pub enterable : Signature → Term → Bool
enterable sig t = trigger_ok sig (is_closed_sort sig) [] t
