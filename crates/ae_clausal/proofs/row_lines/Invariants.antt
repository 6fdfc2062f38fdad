use Rattle.std.proofs.Common.{◌≡◌, map, take}
use Rattle.ae_core.specs.declared.proofs.ClauseLine.TheVariants.{Def}
use Rattle.ae_clausal.proofs.row_lines.Given as goal

abbrev pub invariant-loop-row : goal.invariant-loop-row
invariant-loop-row l = l.lines ≡ map (λ r. Def r l.formula) (take l.row-index l.rows)
