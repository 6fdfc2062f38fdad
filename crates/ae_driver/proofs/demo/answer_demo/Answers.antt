use Rattle.std.proofs.Common.{◌∙◌}
use Rattle.ae_driver.proofs.Counting.{no_demo_yet}
use Rattle.ae_driver.proofs.demo.answer_demo.Goals as goal

pub answer_text-requires-clause-text : goal.answer_text-requires-clause-text
answer_text-requires-clause-text g c = c.as_slice.ensures.value ∙ c.in-Ok.ensures.text

pub returns-in-Err-clause-ends : goal.returns-in-Err-clause-ends
returns-in-Err-clause-ends g c = no_demo_yet c.args.asked.limits c.args.goals (g.K.Sink.written c.args.sink.now)
