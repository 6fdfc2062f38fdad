use Rattle.std.proofs.Common.{sym, ◌∙◌}
use Rattle.ae_base.proofs.Tests.{true_false}
use Rattle.ae_goal_parts.proofs.answers.goal_answer.Goals as goal

pub prove-requires-clause-reach : goal.prove-requires-clause-reach
prove-requires-clause-reach g c = c.in_ok-reached.ensures.0 c.if-reached.true

pub answer_in_rounds-requires-clause-outside : goal.answer_in_rounds-requires-clause-outside
answer_in_rounds-requires-clause-outside g c = λ r. true_false (sym (c.in_ok-reached.ensures.1 r) ∙ c.if-reached.false)
