use Rattle.std.proofs.Common.{◌≡◌, false, take}
use Rattle.std.specs.List.{list_any}
use Rattle.ae_expressions.specs.Inner.Marks.{marked}
use Rattle.ae_expressions.proofs.marks.any_marked.Given as goal

abbrev pub invariant-loop-place : goal.invariant-loop-place
invariant-loop-place l = list_any (marked l.marks) (take l.place-index l.places) ≡ false
