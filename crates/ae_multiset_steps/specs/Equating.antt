-- What a step that equates multisets of names rests on, of which names it is, and names that steps equate one by one.
use Rattle.std.specs.Prelude.{ℕ, ◌<◌, ◌≡◌, List, ◌++◌, length, slice_get, Some}
use Rattle.std.specs.List.{AllByRecursion}
use Rattle.ae_core.specs.declared.terms.Sort.{Sort}
use Rattle.ae_core.specs.declared.terms.Term.{Term}
use Rattle.ae_core.specs.declared.problems.AcSymbol.{AcSymbol}
use Rattle.ae_core.specs.declared.problems.Signature.{Signature}
use Rattle.ae_multiset.specs.Multisets.{IsSame}
use Rattle.ae_store.specs.Parts.{IsIn}
use Rattle.ae_just.specs.Needed.{RestsOn}
use Rattle.ae_just.specs.Steps.{IsSymbolOfNames}
use Rattle.ae_just.specs.declared.steps.Rule.TheVariants as rule
use Rattle.ae_just.specs.declared.steps.Step.{Step}
use Rattle.ae_state_steps.specs.ManySteps.{IsSymbolOn, IsOfSort, StatesMany, StatesNames}

-- the step of number k stood, and one of the given steps rests on it
pub record IsUnder (steps : List Step) (given : List ℕ) (k : ℕ) (s : Step) : Type 0 where
  pub by : ℕ
  pub one : IsIn by given
  pub rests : RestsOn steps by k
  pub there : slice_get steps k ≡ Some s

-- each assumption on which the step of number id of new rests is one on which one of the given steps of old rests
pub record RestsOnThese (old new : List Step) (id : ℕ) (given : List ℕ) : Type 0 where
  pub each : (k tag : ℕ) (s : Step) → RestsOn new id k → slice_get new k ≡ Some s → s.rule ≡ rule.Hyp tag → IsUnder old given k s

-- the symbol joins names of one sort to one of it, and these are such names; it is declared, or a name isn't plain
pub record AreNamesOf (sig : Signature) (ts : List Term) (u : AcSymbol) (names : List ℕ) : Type 0 where
  pub sort : Sort
  pub symbol : IsSymbolOn sig u sort
  pub of_names : IsSymbolOfNames sig ts u.head u.sorts
  pub sorted : AllByRecursion (IsOfSort sig ts sort) names

-- the steps of these numbers equate the names of the left list with those of the right one, place by place
pub record AreEquated (steps : List Step) (left right ids : List ℕ) : Type 0 where
  pub as_many : length right ≡ length left
  pub one_each : length ids ≡ length left
  pub each : (i x y id : ℕ) → slice_get left i ≡ Some x → slice_get right i ≡ Some y → slice_get ids i ≡ Some id → StatesNames steps id x y

-- a step states the equation of two multisets of names of the symbol, and the result is its right side with the rest
pub record IsRewriting (sig : Signature) (ts : List Term) (steps : List Step) (u : AcSymbol) (left right : List ℕ) (step : ℕ) (rest result : List ℕ) : Type 0 where
  pub names : AreNamesOf sig ts u (left ++ right ++ rest)
  pub states : StatesMany steps step u left right
  pub left_some : 0 < length left
  pub right_some : 0 < length right
  pub after : IsSame result (right ++ rest)
