use Rattle.std.proofs.Common.{slice_index}
use Rattle.ae_trim.proofs.Keeping.{AreKeptTo}
use Rattle.ae_trim.proofs.trim.kept_lines.Given as goal

abbrev pub invariant-loop-place : goal.invariant-loop-place
invariant-loop-place l = AreKeptTo (slice_index l.numbers) l.lines l.places l.place-index l.kept
