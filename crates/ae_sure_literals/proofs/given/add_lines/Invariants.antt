use Rattle.std.proofs.Common.{◌≡◌, ◌++◌, take}
use Rattle.std.specs.List.{flat_map}
use Rattle.ae_sure_literals.specs.Inner.Given.{line_clauses}
use Rattle.ae_sure_literals.proofs.given.add_lines.Given as goal

abbrev pub invariant-loop-line : goal.invariant-loop-line
invariant-loop-line l = l.given ≡ l.fn.given ++ flat_map (line_clauses l.problem l.goal) (take l.line-index l.lines)
