use Rattle.std.proofs.Common.{◌≡◌, ◌++◌, drop}
use Rattle.ae_prooftext.specs.Inner.Pieces.{spaced_triggers}
use Rattle.ae_prooftext.proofs.terms.put_spaced_triggers.Given as goal

abbrev pub invariant-loop-trigger : goal.invariant-loop-trigger
invariant-loop-trigger l = l.out.items ++ spaced_triggers l.signature (drop l.trigger-index l.triggers) ≡ l.fn.out.items ++ spaced_triggers l.signature l.triggers
