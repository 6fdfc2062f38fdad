use Rattle.std.proofs.Common.{◌≡◌, false, take}
use Rattle.std.specs.List.{list_any}
use Rattle.ae_base.specs.Decided.{decided}
use Rattle.ae_core.specs.Decided.{Lit_discrete}
use Rattle.ae_calc.proofs.propagation.stands.Given as goal

abbrev pub invariant-loop-found : goal.invariant-loop-found
invariant-loop-found l = list_any (λ m. decided (Lit_discrete m l.lit)) (take l.found-index l.falsified) ≡ false
