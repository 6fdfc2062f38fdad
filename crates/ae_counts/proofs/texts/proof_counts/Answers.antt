use Rattle.std.proofs.Common.{ap, ◌∙◌, sym}
use Rattle.std.specs.List.{list_all}
use Rattle.ae_counts.specs.Inner.Counted.{line_counts}
use Rattle.ae_counts.proofs.Within.{proof_within}
use Rattle.ae_counts.proofs.texts.proof_counts.Goals as goal

pub returns : goal.returns
returns c = record { limits = proof_within c.args.text.now c.places_count.ensures (ap (list_all line_counts) (sym c.as_slice.ensures) ∙ c.lines_count.ensures) }
