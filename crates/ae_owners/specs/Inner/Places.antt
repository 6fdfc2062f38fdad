-- Owners while the axioms are gone through.
use Rattle.std.specs.Prelude.{ℕ, ◌<◌, Bool, List, ◌≡◌, slice_get, Some}
use Rattle.ae_core.specs.declared.formulas.Formula.{Formula}
use Rattle.ae_core.specs.declared.formulas.Lit.{Lit}
use Rattle.ae_journal.specs.States.{of_axiom}
use Rattle.ae_owners.specs.Owners.{owner_of}
use Rattle.ae_owners.specs.declared.owners.Owner.{Owner}

-- each is an axiom at a place before this one
abbrev pub AreAxiomsBelow : ℕ → List Owner → Type 0
AreAxiomsBelow n os = (k : ℕ) (o : Owner) → slice_get os k ≡ Some o → (m : ℕ) × (m < n) × (owner_of o ≡ of_axiom m)

abbrev pub lit_of : Bool → Formula → Lit
lit_of sign f = record { positive = sign; formula = f }
