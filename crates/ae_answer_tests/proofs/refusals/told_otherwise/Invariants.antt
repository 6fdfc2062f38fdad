use denote.Text.{Utf8}
use denote.Shadow.{shadow}
use Rattle.ae_answer_tests.proofs.refusals.told_otherwise.Given as goal

-- the text that is held is text
abbrev pub invariant-loop-line : goal.invariant-loop-line
invariant-loop-line g l =
    (goal.iterator-loop-line g).can_next l.line-iterator ×
    (goal.iterator-loop-line g).is_finite l.line-iterator ×
    shadow (Utf8 l.text)
