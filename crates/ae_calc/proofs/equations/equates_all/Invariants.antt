use Rattle.std.proofs.Common.{◌≡◌, length, take}
use Rattle.ae_rules.specs.Lines.{Equated}
use Rattle.ae_calc.proofs.equations.equates_all.Given as goal

abbrev pub invariant-loop-i : goal.invariant-loop-i
invariant-loop-i l = (length l.lines ≡ length l.left) × (length l.lines ≡ length l.right) × Equated l.earlier (take l.i l.lines) (take l.i l.left) (take l.i l.right)
