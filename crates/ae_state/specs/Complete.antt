-- When nothing is left to do, and when assumed literals can't hold together.
use Rattle.std.specs.Prelude.{ℕ, true, ◌≡◌, slice_get, Some}
use Rattle.std.specs.List.{Contains}
use Rattle.ae_core.specs.Sorts.{formula_ok}
use Rattle.ae_core.specs.declared.formulas.Lit.{Lit}
use Rattle.ae_pmap.specs.Forest.{present}
use Rattle.ae_journal.specs.Systems.{IsCompleted}
use Rattle.ae_settled.specs.Met.{Satisfies}
use Rattle.ae_theory.specs.Noting.{literals}
use Rattle.ae_conflicts.specs.declared.conflicts.Conflict.{Conflict}
use Rattle.ae_conflicts.specs.Conflicting.{IsConflict}
use Rattle.ae_state.specs.declared.holding.Holding.{Holding}
use Rattle.ae_state.specs.Names.{all_terms, system_now, assumed_in}

-- the literals that are assumed are well sorted
abbrev pub AreWellSorted : Holding → Type 0
AreWellSorted o = (l : Lit) → Contains (literals (assumed_in o)) l → formula_ok o.signature l.formula ≡ true

-- the system is completed, and the assumed literals hold of its values, where they are well sorted
pub record IsComplete (o : Holding) : Type 0 where
  pub completed : IsCompleted o.signature (system_now o)
  pub satisfied : AreWellSorted o → Satisfies o.signature (system_now o) (literals (assumed_in o))

-- the conflict of this number is one of the literals that are assumed
pub record IsOwnConflict (o : Holding) (k : ℕ) : Type 0 where
  pub conflict : Conflict
  pub at : slice_get o.conflicts k ≡ Some conflict
  pub is : IsConflict o.signature (all_terms o) o.justs (present o.assumed) conflict
