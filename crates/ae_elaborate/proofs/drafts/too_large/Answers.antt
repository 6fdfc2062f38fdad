use Rattle.std.proofs.Common.{◌∙◌}
use Rattle.ae_elab.specs.Nodes.{entries_of}
use Rattle.ae_types.specs.Bound.{bound}
use Rattle.ae_elaborate.proofs.drafts.too_large.Goals as goal

pub returns : goal.returns
returns c = λ text. c.large_among.ensures text (bound c.args.bindings.now) (entries_of c.args.nodes.now) (c.as_slice.ensures ∙ c.in_ok-small.ensures)
