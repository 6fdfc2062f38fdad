use Rattle.std.proofs.Common.{arith, ◌++◌, take, length-append}
use Rattle.std.proofs.lemmas.Grind.{common_steps}
use Rattle.std.proofs.KnownBytes.{Consumes-trans}
use Rattle.ae_io.proofs.whole.read_all.Goals as goal

-- the last read took its bytes too, though there was no memory for them
pub returns-in_err-extend_from_slice-clause-memory_within :
    goal.returns-in_err-extend_from_slice-clause-memory_within
returns-in_err-extend_from_slice-clause-memory_within g c =
    let got = take c.in_ok-count.count c.read.new.buf in
    λ _. (
      c.loop-chunk.bytes.items ++ got,
      Consumes-trans (g.S.Source.left c.args.source.now) (g.S.Source.left c.loop-chunk.source) (g.S.Source.left c.read.new.self) c.loop-chunk.bytes.items got c.loop-chunk.invariant.taken c.in_ok-count.ensures.bytes.0,
      grind (arith, common_steps, length-append c.loop-chunk.bytes.items got, c.in_ok-count.ensures.bound),
    )
