use Rattle.std.proofs.Common.{◌-◌, length}
use Rattle.ae_lex.specs.Lexis.{is_inner}
use Rattle.ae_lex.proofs.Parts.{InRun}
use Rattle.ae_lex.proofs.scans.word_end.Given as goal

abbrev pub invariant-loop-byte : goal.invariant-loop-byte
invariant-loop-byte l = InRun is_inner l.text l.fn.from l.at

abbrev pub decreases-loop-byte : goal.decreases-loop-byte
decreases-loop-byte l = length l.text - l.at
