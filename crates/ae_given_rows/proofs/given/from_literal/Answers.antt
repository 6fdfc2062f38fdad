use Rattle.std.specs.Prelude.{[], ◌∷◌, ◌++◌}
use Rattle.std.proofs.Common.{◌∙◌}
use Rattle.ae_given_rows.proofs.given.from_literal.Goals as goal

pub hypothesis-requires-clause-upper : goal.hypothesis-requires-clause-upper
hypothesis-requires-clause-upper c = c.requires.upper

pub hypothesis-requires-clause-lower : goal.hypothesis-requires-clause-lower
hypothesis-requires-clause-lower c = c.requires.lower

pub returns-clause-hyps : goal.returns-clause-hyps
returns-clause-hyps c = c.in_ok-push-2.ensures.ok ∙ (λ i. c.new-hyps.ensures i ++ c.in_ok-copy_lit.ensures i ∷ [])

pub returns-clause-lines : goal.returns-clause-lines
returns-clause-lines c = c.in_ok-push.ensures.ok ∙ (λ i. c.new-lines.ensures i ++ c.in_ok-line.ensures i ∷ [])
