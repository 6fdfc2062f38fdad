use Rattle.std.proofs.Common.{◌≡◌, ◌++◌, drop}
use Rattle.ae_stategrammar.specs.StateTexts.{name_lines}
use Rattle.ae_statetext.proofs.states.put_name_lines.Given as goal

abbrev pub invariant-loop-term : goal.invariant-loop-term
invariant-loop-term l = (l.name ≡ l.term-index) × (l.out.items ++ name_lines l.signature l.name (drop l.term-index l.terms) ≡ l.fn.out.items ++ name_lines l.signature 0 l.terms)
