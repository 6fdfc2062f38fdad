use Rattle.std.proofs.Common.{◌≡◌, ◌++◌, drop}
use Rattle.ae_prooftext.specs.Inner.Pieces.{spaced_literals}
use Rattle.ae_prooftext.proofs.formulas.put_spaced_literals.Given as goal

abbrev pub invariant-loop-lit : goal.invariant-loop-lit
invariant-loop-lit l = l.out.items ++ spaced_literals l.signature (drop l.lit-index l.lits) ≡ l.fn.out.items ++ spaced_literals l.signature l.lits
