use Rattle.std.proofs.Common.{◌≡◌, map, take}
use Rattle.ae_derivations.specs.Inner.Moved.{moved}
use Rattle.ae_derivations.proofs.joining.all_moved.Given as goal

abbrev pub invariant-loop-line : goal.invariant-loop-line
invariant-loop-line l = l.copies ≡ map (moved l.by.lines l.by.hyps) (take l.line-index l.lines)
