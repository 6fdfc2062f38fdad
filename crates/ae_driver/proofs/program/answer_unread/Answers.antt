use Rattle.std.proofs.Common.{subst}
use Rattle.ae_driver.specs.Inner.Endings.{IsNotRead}
use Rattle.ae_driver.proofs.Answered.{nothing_written, refusal_ends}
use Rattle.ae_driver.proofs.program.answer_unread.Goals as goal

pub refuse-requires : goal.refuse-requires
refuse-requires g c = (subst (IsNotRead c.args.text.now) c.in-Refused.is c.requires.none).1

pub returns-in-Refused-clause-ends : goal.returns-in-Refused-clause-ends
returns-in-Refused-clause-ends g c = λ limits.
    let none = subst (IsNotRead c.args.text.now) c.in-Refused.is c.requires.none in
    refusal_ends limits c.args.text.now c.in-Refused.why _ _ c.refuse.result none.0 c.refuse.ensures.ends

pub returns-in-Memory-clause-ends : goal.returns-in-Memory-clause-ends
returns-in-Memory-clause-ends g c = λ limits. nothing_written limits c.args.text.now (g.K.Sink.written c.args.sink.now)
