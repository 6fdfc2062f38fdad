use Rattle.std.proofs.Common.{◌≡◌, ◌++◌, drop}
use Rattle.std.specs.List.{flat_map}
use Rattle.ae_prooftext.specs.Texts.{hypothesis_text}
use Rattle.ae_prooftext.proofs.lines.put_hypotheses.Given as goal

abbrev pub invariant-loop-lit : goal.invariant-loop-lit
invariant-loop-lit l = l.out.items ++ flat_map (hypothesis_text l.signature) (drop l.lit-index l.lits) ≡ l.fn.out.items ++ flat_map (hypothesis_text l.signature) l.lits
