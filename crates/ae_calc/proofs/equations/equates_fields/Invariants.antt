use Rattle.std.proofs.Common.{◌≡◌, length, take}
use Rattle.ae_rules.specs.Lines.{Equated, fields_from}
use Rattle.ae_calc.proofs.equations.equates_fields.Given as goal

abbrev pub invariant-loop-i : goal.invariant-loop-i
invariant-loop-i l =
    (length l.lines ≡ l.count)
    × Equated l.earlier (take l.i l.lines) (take l.i (fields_from l.of l.sorts l.left 0 l.count)) (take l.i (fields_from l.of l.sorts l.right 0 l.count))
