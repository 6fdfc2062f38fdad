use Rattle.std.specs.Prelude.{◌<◌, ◌≡◌, ℕ, get_or, slice_get, Some}
use Rattle.ae_core.specs.declared.terms.Term.{Term}
use Rattle.ae_store.specs.Terms.{named}
use Rattle.ae_theory.specs.Names.{terms_in}
use Rattle.ae_literals.proofs.saying.are_names_of.Given as goal

abbrev pub invariant-loop-i : goal.invariant-loop-i
invariant-loop-i l = (k : ℕ) (t : Term) → k < l.i → slice_get l.terms k ≡ Some t → named (terms_in l.store) (get_or l.names k 0) ≡ t
