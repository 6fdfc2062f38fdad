use Rattle.std.proofs.Common.{◌≡◌, ℕ, ◌<◌, get_or, Some}
use Rattle.std.specs.Prelude.{not}
use Rattle.ae_propagation.specs.declared.codes.Code.{Code}
use Rattle.ae_explain.specs.Inner.Index.{value_at}
use Rattle.ae_propagation.proofs.codes.open_one.Given as goal

abbrev pub invariant-loop-i : goal.invariant-loop-i
invariant-loop-i l = (j : ℕ) (k : Code) → j < l.i → get_or l.codes j k ≡ k → value_at l.values k.number ≡ Some (not k.positive)
