use Rattle.std.proofs.Common.{◌≡◌, ◌++◌, drop}
use Rattle.ae_prooftext.specs.Inner.Pieces.{spaced_scaled}
use Rattle.ae_prooftext.proofs.bytes.put_spaced_scaled.Given as goal

abbrev pub invariant-loop-part : goal.invariant-loop-part
invariant-loop-part l = l.out.items ++ spaced_scaled (drop l.part-index l.parts) ≡ l.fn.out.items ++ spaced_scaled l.parts
