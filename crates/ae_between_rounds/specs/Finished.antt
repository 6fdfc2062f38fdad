-- When a search has nothing left to do, and what it shows then.
use Rattle.std.specs.Prelude.{ℕ, ◌≡◌, Bool, List, length, Some}
use Rattle.std.specs.List.{Contains}
use Rattle.ae_between_rounds.specs.Between.{IsBetweenRounds}
use Rattle.ae_between_rounds.specs.declared.search.Search.{Search}
use Rattle.ae_block_constants.specs.Blocks.{opened_pairs}
use Rattle.ae_core.specs.declared.formulas.Lit.{Lit}
use Rattle.ae_core.specs.declared.problems.Problem.{Problem}
use Rattle.ae_core.specs.declared.terms.Term.{Term}
use Rattle.ae_journal.specs.States.{HoldsAt, inequality}
use Rattle.ae_journal.specs.Systems.{ValueOf}
use Rattle.ae_journal.specs.Values.{Val, minus_val, sum_in}
use Rattle.ae_journal.specs.declared.systems.PointAt.{PointAt}
use Rattle.ae_journal.specs.declared.systems.Saturated.{Saturated}
use Rattle.ae_open_states.specs.Shown.{trail_literals}
use Rattle.ae_opening.specs.Asking.{AllServed}
use Rattle.ae_owed.specs.Instances.{Instance as NotedInstance}
use Rattle.ae_owed.specs.Owed.{IsInstantiated}
use Rattle.ae_sat.specs.Search.{IsOpen}
use Rattle.ae_state.specs.Complete.{IsComplete}
use Rattle.ae_state.specs.Names.{system_now, terms_now}
use Rattle.ae_theory.specs.Names.{terms_in}
use Rattle.ae_value_table.specs.Alike.{alike}

-- the solver has nothing left to do: each clause has a true literal, and the theory was told all of them and is complete for all names
pub record IsOpenSearch (o : Search) : Type 0 where
  pub all_true : IsOpen o.solver.propagation.trail o.solver.propagation.clauses
  pub told : o.solver.handed ≡ length o.solver.propagation.trail
  pub complete : IsComplete o.solver.theory × (terms_now o.solver.theory ≡ terms_in o.store)

-- a point of the inequalities that are true, by the values of the system
abbrev pub IsPointOf : Search → List PointAt → Type 0
IsPointOf o point = (l : Lit) (s t : Term) (strict : Bool) (v w : Val) → Contains (trail_literals o.solver.propagation.trail) l → inequality l ≡ Some (s, t, strict) →
    ValueOf (system_now o.solver.theory) s v → ValueOf (system_now o.solver.theory) t w → HoldsAt point strict (sum_in (minus_val v w))

-- no match is owed: each one below the bound whose instance is within the limits was made, up to names that are the same
abbrev pub IsInstantiatedBy : Problem → ℕ → ℕ → Search → Type 0
IsInstantiatedBy p g bound o =
    (instances : List NotedInstance) ×
    IsInstantiated p g bound (trail_literals o.solver.propagation.trail) (system_now o.solver.theory) o.store (alike o.solver.theory.values) (opened_pairs o.blocks.opened) instances

-- no block asks for terms, the inequalities have a point, and no instance is owed
pub record IsFinishedAt (p : Problem) (g bound : ℕ) (o : Search) (point : List PointAt) : Type 0 where
  pub between : IsBetweenRounds p g bound o
  pub is_open : IsOpenSearch o
  pub served : AllServed o.solver.propagation.trail o.blocks.opened
  pub inequalities : IsPointOf o point
  pub instantiated : IsInstantiatedBy p g bound o

-- the literals that are true, the system of the theory, and the point
abbrev pub shown_at : Search → List PointAt → Saturated
shown_at o point = record { literals = trail_literals o.solver.propagation.trail; system = system_now o.solver.theory; point = point }
