use Rattle.std.proofs.Common.{take}
use Rattle.ae_report.specs.Lines.{Precede}
use Rattle.ae_report.proofs.lines.place_of.Given as goal

abbrev pub invariant-loop-byte : goal.invariant-loop-byte
invariant-loop-byte l = Precede (take l.byte-index l.byte-items) l.line l.column
