use Rattle.std.proofs.Common.{◌≡◌, true, take}
use Rattle.std.specs.List.{list_all}
use Rattle.ae_computing.specs.Inner.Exact.{is_nought_in}
use Rattle.ae_computing.proofs.forms.are_nought.Given as goal

abbrev pub invariant-loop-part : goal.invariant-loop-part
invariant-loop-part l = list_all (is_nought_in l.parts) (take l.part-index l.parts) ≡ true
