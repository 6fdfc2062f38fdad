use Rattle.std.proofs.Common.{◌-◌, length}
use Rattle.ae_syntax.proofs.ParserMeetsMachine.Decls.{FileSoFar}
use Rattle.ae_syntax.proofs.parser.read_file.Given as goal

abbrev pub invariant-loop-first : goal.invariant-loop-first
invariant-loop-first l = FileSoFar l.tokens l.found l.at

abbrev pub decreases-loop-first : goal.decreases-loop-first
decreases-loop-first l = length l.tokens - l.at
