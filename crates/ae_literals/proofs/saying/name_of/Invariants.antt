use Rattle.std.specs.Prelude.{◌<◌, ◌≡◌, ℕ, slice_get, Some}
use Rattle.ae_theory.specs.Names.{terms_in}
use Rattle.ae_literals.proofs.saying.name_of.Given as goal

abbrev pub invariant-loop-name : goal.invariant-loop-name
invariant-loop-name l = (n : ℕ) → n < l.name → slice_get (terms_in l.store) n ≡ Some l.term → ⊥
