use Rattle.std.proofs.Common.{take}
use Rattle.ae_trim.specs.Inner.Marks.{AreMarked}
use Rattle.ae_trim.proofs.used.mark.Given as goal

abbrev pub invariant-loop-place : goal.invariant-loop-place
invariant-loop-place l = AreMarked l.fn.marks.items (take l.place-index l.places) l.marks.items
