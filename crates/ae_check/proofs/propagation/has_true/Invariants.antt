use Rattle.std.proofs.Common.{◌≡◌, false, take}
use Rattle.std.specs.List.{list_any}
use Rattle.ae_check.specs.Inner.Coding as spec
use Rattle.ae_check.proofs.propagation.has_true.Given as goal

abbrev pub invariant-loop-code : goal.invariant-loop-code
invariant-loop-code l = list_any (λ k. spec.is_false l.now l.stamps (spec.turned k)) (take l.code-index l.codes) ≡ false
