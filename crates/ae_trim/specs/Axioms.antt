-- The axioms on which a proof rests, by their places among the items of its problem.
use Rattle.std.specs.Prelude.{ℕ, List, [], ◌∷◌, ◌↔◌}
use Rattle.std.specs.List.{Contains, flat_map}
use Rattle.std.specs.List.Sorted.{IsStrictlyIncreasing}
use Rattle.ae_core.specs.declared.proofs.ClauseLine.{ClauseLine}
use Rattle.ae_core.specs.declared.proofs.ClauseLine.TheVariants.{Hyp}
use Rattle.ae_core.specs.declared.proofs.Proof.{Proof}

-- the place of the axiom that a line brings in: a `hyp` line alone does
abbrev pub axiom_in : ClauseLine → List ℕ
axiom_in (Hyp k ss) = k ∷ []
axiom_in _ = []

abbrev pub axioms_in : List ClauseLine → List ℕ
axioms_in lines = flat_map axiom_in lines

-- these are the places in the proof's `hyp` lines, rising, each once
pub record AreAxioms (proof : Proof) (places : List ℕ) : Type 0 where
  pub rising : IsStrictlyIncreasing places
  pub each : (k : ℕ) → Contains places k ↔ Contains (axioms_in proof.lines) k
