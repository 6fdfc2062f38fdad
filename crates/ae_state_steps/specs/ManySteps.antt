-- Steps that equate multisets of names under an AC symbol, and that they are allowed.
use Rattle.std.specs.Prelude.{ℕ, ◌<◌, ◌≤◌, ◌≡◌, true, List, [], ◌∷◌, ◌++◌, length, slice_get, Some}
use Rattle.std.specs.List.{AllByRecursion, list_all}
use Rattle.ae_core.specs.Sorts.{sort_of, head_sort, is_closed_sort}
use Rattle.ae_core.specs.declared.terms.Sort.{Sort}
use Rattle.ae_core.specs.declared.terms.Term.{Term, Apply}
use Rattle.ae_core.specs.declared.problems.Signature.{Signature}
use Rattle.ae_core.specs.declared.problems.AcSymbol.{AcSymbol}
use Rattle.ae_multiset.specs.Multisets.{IsSame}
use Rattle.ae_rules.specs.Lines.{IsAc}
use Rattle.ae_store.specs.Terms.{named}
use Rattle.ae_just.specs.declared.steps.Side.TheVariants as side
use Rattle.ae_just.specs.declared.steps.Rule.{Rule}
use Rattle.ae_just.specs.declared.steps.Rule.TheVariants as rule
use Rattle.ae_just.specs.declared.steps.Step.{Step}
use Rattle.ae_just.specs.Steps.{IsAllowedStep}

-- an AC symbol that joins two terms of the sort to one of it
pub record IsSymbolOn (sig : Signature) (u : AcSymbol) (s : Sort) : Type 0 where
  pub ac : IsAc sig u.head
  pub closed : list_all (is_closed_sort sig) u.sorts ≡ true
  pub headed : head_sort sig u.head u.sorts (s ∷ s ∷ []) ≡ Some s

abbrev pub IsOfSort : Signature → List Term → Sort → ℕ → Type 0
IsOfSort sig ts s n = sort_of sig (named ts n) ≡ Some s

-- the step of this number equates two multisets, or two names
pub record StatesMany (steps : List Step) (id : ℕ) (u : AcSymbol) (xs ys : List ℕ) : Type 0 where
  pub by : Rule
  pub there : slice_get steps id ≡ Some (record { left = side.Many u xs; right = side.Many u ys; rule = by })

pub record StatesNames (steps : List Step) (id x y : ℕ) : Type 0 where
  pub by : Rule
  pub there : slice_get steps id ≡ Some (record { left = side.Name x; right = side.Name y; rule = by })

abbrev pub NameStep : Type 0
NameStep = (sig : Signature) (ts : List Term) (steps : List Step) (u : AcSymbol) (s : Sort) (a b n : ℕ) → IsOfSort sig ts s n → named ts n ≡ Apply u.head u.sorts (named ts a ∷ named ts b ∷ [])
    → IsAllowedStep sig ts steps (record { left = side.Many u (a ∷ b ∷ []); right = side.Name n; rule = rule.Refl })

abbrev pub ExtendStep : Type 0
ExtendStep = (sig : Signature) (ts : List Term) (steps : List Step) (u : AcSymbol) (s : Sort) (xs ys : List ℕ) (x y id ix : ℕ) → IsSymbolOn sig u s
    → AllByRecursion (IsOfSort sig ts s) (xs ++ x ∷ []) → AllByRecursion (IsOfSort sig ts s) (ys ++ y ∷ []) → 0 < length xs → 0 < length ys → StatesMany steps id u xs ys → StatesNames steps ix x y
    → IsAllowedStep sig ts steps (record { left = side.Many u (xs ++ x ∷ []); right = side.Many u (ys ++ y ∷ []); rule = rule.Cong (id ∷ ix ∷ []) })

abbrev pub OrderStep : Type 0
OrderStep = (sig : Signature) (ts : List Term) (steps : List Step) (u : AcSymbol) (s : Sort) (xs ys : List ℕ) → IsSymbolOn sig u s → AllByRecursion (IsOfSort sig ts s) xs → AllByRecursion (IsOfSort sig ts s) ys
    → IsSame xs ys → 2 ≤ length xs → IsAllowedStep sig ts steps (record { left = side.Many u xs; right = side.Many u ys; rule = rule.Ac })
