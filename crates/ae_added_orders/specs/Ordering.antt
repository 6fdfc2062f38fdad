-- Two terms of which the clause of their order may come.
use Rattle.std.specs.Prelude.{ℕ, ◌≡◌, ◌⊎◌, [], ◌∷◌, Some}
use Rattle.std.specs.List.{Contains}
use Rattle.ae_between_rounds.specs.declared.search.Search.{Search}
use Rattle.ae_core.specs.Sorts.{sort_of}
use Rattle.ae_core.specs.declared.problems.Problem.{Problem}
use Rattle.ae_core.specs.declared.problems.Signature.{Signature}
use Rattle.ae_core.specs.declared.terms.Sort.{Int, Real}
use Rattle.ae_core.specs.declared.terms.Term.{Term}
use Rattle.ae_goal_names.specs.Named.{StandsIn}
use Rattle.ae_journal.specs.Standing.{Setting, IsEntered}
use Rattle.ae_new_constants.specs.Below.{IsTermBelow}
use Rattle.ae_numerals_kept.specs.Lowest.{IsLowestTerm}
use Rattle.ae_orderless.specs.Orderless.{IsOrderlessGoal}
use Rattle.ae_searching.specs.Told.{IsToldIn}
use Rattle.ae_store.specs.Stores.{Stored}
use Rattle.ae_theory.specs.Names.{terms_in}
use Rattle.ae_writable.specs.Numbers.{HasLowestNumerals}

abbrev pub IsNumber : Signature → Term → Type 0
IsNumber sig t = (sort_of sig t ≡ Some Int) ⊎ (sort_of sig t ≡ Some Real)

-- each term that stands in it has a name, or is a number
abbrev pub IsOverNames : Signature → Stored → Term → Type 0
IsOverNames sig s t = (u : Term) → StandsIn sig (t ∷ []) u → Contains (terms_in s) u ⊎ IsNumber sig u

-- they are names of the journal, their constants are below the next one, their numerals are in lowest terms where the problem's are, what stands in them has
-- names but for numbers, and there is an inequality in the problem
pub record MayBeOrdered (p : Problem) (g : ℕ) (o : Search) (s t : Term) : Type 0 where
  pub entered : (x : Setting) → IsToldIn p g o.store o.blocks.opened x → IsEntered x o.journal.lines s × IsEntered x o.journal.lines t
  pub below : IsTermBelow o.blocks.next s × IsTermBelow o.blocks.next t
  pub lowest : HasLowestNumerals p → IsLowestTerm s × IsLowestTerm t
  pub over : IsOverNames p.signature o.store s × IsOverNames p.signature o.store t
  pub ordered : ¬ IsOrderlessGoal p g
