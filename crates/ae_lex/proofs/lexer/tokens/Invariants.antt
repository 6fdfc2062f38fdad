use Rattle.std.proofs.Common.{◌-◌, length}
use Rattle.ae_lex.proofs.Cuts.{SoFar}
use Rattle.ae_lex.proofs.lexer.tokens.Given as goal

abbrev pub invariant-loop-byte : goal.invariant-loop-byte
invariant-loop-byte l = SoFar l.text l.found l.at

abbrev pub decreases-loop-byte : goal.decreases-loop-byte
decreases-loop-byte l = length l.text - l.at
