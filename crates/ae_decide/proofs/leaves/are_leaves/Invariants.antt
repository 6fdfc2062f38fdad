use Rattle.std.proofs.Common.{◌≡◌, true, take}
use Rattle.std.specs.List.{list_all}
use Rattle.ae_decide.specs.Leaves.{is_leaf}
use Rattle.ae_decide.proofs.leaves.are_leaves.Given as goal

abbrev pub invariant-loop-part : goal.invariant-loop-part
invariant-loop-part l = list_all (λ p. is_leaf l.signature l.system l.sort p.key) (take l.part-index l.parts) ≡ true
