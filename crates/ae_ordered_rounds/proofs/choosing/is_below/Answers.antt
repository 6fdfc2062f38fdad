use Rattle.std.proofs.Common.{◌∙◌}
use Rattle.ae_core.specs.declared.formulas.Formula.{Lt}
use Rattle.ae_ordered_rounds.proofs.Asking.{said_of}
use Rattle.ae_rules.specs.Clauses.{is_true}
use Rattle.ae_ordered_rounds.proofs.choosing.is_below.Goals as goal

pub returns : goal.returns
returns c = said_of c.args.trail.now.assigned c.get.result.now (is_true (Lt c.args.left.now c.args.right.now)) c.is_true.result (c.get.ensures ∙ c.in_ok-literal.ensures) c.is_true.ensures
