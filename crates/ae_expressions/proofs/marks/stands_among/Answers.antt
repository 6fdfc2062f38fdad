use Rattle.std.proofs.Common.{◌∙◌}
use Rattle.ae_elab.specs.Nodes.{entries_of}
use Rattle.ae_expressions.proofs.MarkLaws.{marked_among}
use Rattle.ae_expressions.proofs.marks.stands_among.Goals as goal

pub returns : goal.returns
returns c = c.any_marked.ensures ∙ marked_among c.args.sought c.as_slice.result.now (entries_of c.args.nodes.now) (c.as_slice.ensures ∙ c.in_ok-marks.ensures) c.args.places.now
