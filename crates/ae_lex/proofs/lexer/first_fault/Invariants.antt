use Rattle.std.proofs.Common.{List, ◌-◌, length}
use Rattle.ae_lex.specs.declared.kinds.Token.{Token}
use Rattle.ae_lex.proofs.Cuts.{SoFar}
use Rattle.ae_lex.proofs.lexer.first_fault.Given as goal

abbrev pub invariant-loop-byte : goal.invariant-loop-byte
invariant-loop-byte l = (found : List Token) × SoFar l.text found l.at

abbrev pub decreases-loop-byte : goal.decreases-loop-byte
decreases-loop-byte l = length l.text - l.at
