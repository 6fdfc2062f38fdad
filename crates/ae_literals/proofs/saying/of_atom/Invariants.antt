use Rattle.std.specs.Prelude.{◌<◌, ℕ}
use Rattle.ae_literals.specs.Said.{IsAtomOf}
use Rattle.ae_literals.proofs.saying.of_atom.Given as goal

abbrev pub invariant-loop-name : goal.invariant-loop-name
invariant-loop-name l = (n : ℕ) → n < l.name → ¬ IsAtomOf l.store n l.predicate l.sorts l.args
