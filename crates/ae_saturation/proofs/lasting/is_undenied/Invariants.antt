use Rattle.std.specs.Prelude.{◌<◌, ◌≤◌, ◌≡◌, ℕ, Some}
use Rattle.ae_pmap.specs.Forest.{present}
use Rattle.ae_pmap.specs.Pairs.{found}
use Rattle.ae_literals.specs.declared.said.Said.{Said}
use Rattle.ae_saturation.specs.Lasting.{Denies}
use Rattle.ae_saturation.proofs.lasting.is_undenied.Given as goal

abbrev pub invariant-loop-place : goal.invariant-loop-place
invariant-loop-place l = (k : ℕ) (y : Said) → 0 ≤ k → k < l.place → found (present l.held.said) k ≡ Some y → ¬ Denies l.store.nodes l.held.values l.positive l.name y
