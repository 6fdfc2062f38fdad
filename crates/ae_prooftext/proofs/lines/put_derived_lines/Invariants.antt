use Rattle.std.proofs.Common.{◌≡◌, ◌++◌, drop}
use Rattle.std.specs.List.{flat_map}
use Rattle.ae_prooftext.specs.Texts.{derived_text}
use Rattle.ae_prooftext.proofs.lines.put_derived_lines.Given as goal

abbrev pub invariant-loop-line : goal.invariant-loop-line
invariant-loop-line l = l.out.items ++ flat_map (derived_text l.signature) (drop l.line-index l.lines) ≡ l.fn.out.items ++ flat_map (derived_text l.signature) l.lines
