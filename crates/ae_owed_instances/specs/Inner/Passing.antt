-- What a pass over the owners at a number leaves.
use Rattle.std.specs.Prelude.{ℕ, ◌<◌, Bool, List, [], ◌≡◌, slice_get, Some}
use Rattle.std.specs.List.{filter}
use Rattle.ae_between_rounds.specs.declared.search.Owed.{Owed}
use Rattle.ae_between_rounds.specs.declared.search.Search.{Search}
use Rattle.ae_core.specs.declared.formulas.Formula.{Formula}
use Rattle.ae_core.specs.declared.formulas.Lit.{Lit}
use Rattle.ae_open_states.specs.Shown.{trail_literals}
use Rattle.ae_owed.specs.Owed.{OwnerIsThere}
use Rattle.ae_owed_matches.specs.Found.{AreFound, is_owed}
use Rattle.ae_owners.specs.Owners.{owner_of}
use Rattle.ae_owners.specs.declared.owners.Owner.{Owner}
use Rattle.ae_trigger.specs.declared.patterns.Subst.{Subst}
use Rattle.ae_value_table.specs.Alike.{alike}

abbrev pub lit_of : Bool → Formula → Lit
lit_of sign f = record { positive = sign; formula = f }

abbrev pub owed_of : ℕ → Subst → Owed
owed_of k m = record { owner = k; subst = m }

-- an owner is an axiom, or a literal that is true
abbrev pub IsThere : Search → Owner → Type 0
IsThere o w = OwnerIsThere (trail_literals o.solver.propagation.trail) (owner_of w)

-- what is found of it at a number was taken, all of it
abbrev pub HasNone : Search → ℕ → ℕ → Owner → Type 0
HasNone o n k w = (ms : List Subst) × AreFound o.store (alike o.solver.theory.values) n w.patterns ms × (filter (is_owed (alike o.solver.theory.values) k o.instances.taken.taken) ms ≡ [])

-- of each owner below a number that is there
abbrev pub HaveNone : Search → ℕ → ℕ → Type 0
HaveNone o n below = (k : ℕ) (w : Owner) → k < below → slice_get o.owners k ≡ Some w → IsThere o w → HasNone o n k w
