use Rattle.std.proofs.Common.{◌≡◌, false, take}
use Rattle.std.specs.List.{list_any}
use Rattle.std.specs.Prelude.{[]}
use Rattle.ae_core.specs.declared.terms.Term.{Apply}
use Rattle.ae_decide.specs.Values.{are_alike}
use Rattle.ae_saturated.proofs.names.is_one_of.Given as goal

abbrev pub invariant-loop-head : goal.invariant-loop-head
invariant-loop-head l = list_any (λ h. are_alike l.system (Apply h [] []) l.term) (take l.head-index l.heads) ≡ false
