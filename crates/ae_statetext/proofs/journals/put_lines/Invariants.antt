use Rattle.std.proofs.Common.{◌≡◌, ◌++◌, drop}
use Rattle.std.specs.List.{flat_map}
use Rattle.ae_stategrammar.specs.StateTexts.{line_text}
use Rattle.ae_statetext.proofs.journals.put_lines.Given as goal

abbrev pub invariant-loop-line : goal.invariant-loop-line
invariant-loop-line l = l.out.items ++ flat_map (line_text l.signature) (drop l.line-index l.lines) ≡ l.fn.out.items ++ flat_map (line_text l.signature) l.lines
