use Rattle.std.specs.Prelude.{◌<◌, ℕ}
use Rattle.ae_sweeps.specs.Given.{rep_in}
use Rattle.ae_literals.specs.Unmet.{AreOpposed}
use Rattle.ae_literals.proofs.atoms.first_opposed.Given as goal

abbrev pub invariant-loop-positive : goal.invariant-loop-positive
invariant-loop-positive l = (i j : ℕ) → i < l.positive → ¬ AreOpposed l.store.nodes (rep_in l.reps) l.said i j
