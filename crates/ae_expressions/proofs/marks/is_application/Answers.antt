use Rattle.std.proofs.Common.{◌∙◌, Some, None, sym}
use Rattle.ae_expressions.proofs.MarkLaws.{applies_at}
use Rattle.ae_expressions.proofs.marks.is_application.Goals as goal

pub returns-in-Some : goal.returns-in-Some
returns-in-Some c = c.is_applied.ensures ∙ sym (applies_at c.args.nodes.now c.args.place (Some c.in-Some.node.now) (sym c.in-Some.ensures))

pub returns-in-None : goal.returns-in-None
returns-in-None c = sym (applies_at c.args.nodes.now c.args.place None (sym c.in-None.ensures))
