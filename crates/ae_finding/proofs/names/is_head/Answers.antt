use Rattle.std.proofs.Common.{sym, ap, ◌∙◌}
use Rattle.ae_matching.specs.Generating.{applies}
use Rattle.ae_match.specs.Seen.{applied}
use Rattle.ae_finding.proofs.NodeLaws.{head_test}
use Rattle.ae_finding.proofs.names.is_head.Goals as goal

pub returns-in-Of : goal.returns-in-Of
returns-in-Of c = head_test c.same_head.result c.args.head c.in-Of.other c.same_head.ensures ∙ ap (λ k. applies c.args.head (applied k)) (sym c.in-Of.is)
