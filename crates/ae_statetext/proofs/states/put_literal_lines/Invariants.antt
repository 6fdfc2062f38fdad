use Rattle.std.proofs.Common.{◌≡◌, ◌++◌, drop}
use Rattle.std.specs.List.{flat_map}
use Rattle.ae_stategrammar.specs.StateTexts.{literal_line}
use Rattle.ae_statetext.proofs.states.put_literal_lines.Given as goal

abbrev pub invariant-loop-literal : goal.invariant-loop-literal
invariant-loop-literal l = l.out.items ++ flat_map (literal_line l.signature) (drop l.literal-index l.literals) ≡ l.fn.out.items ++ flat_map (literal_line l.signature) l.literals
