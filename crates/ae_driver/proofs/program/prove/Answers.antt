use Rattle.std.proofs.Common.{Err, inr, ap, subst, []}
use Rattle.ae_driver.specs.Inner.Endings.{TextEnds, RefusalEnds}
use Rattle.ae_report.specs.declared.refusal.Refusal.TheVariants as refusal
use Rattle.ae_driver.specs.declared.reasons.Reason.TheVariants.{Plain}
use Rattle.ae_driver.proofs.Answered.{cut_off_is, is_read, is_too_long, complete_is, not_too_long, passes_is}
use Rattle.ae_driver.proofs.program.prove.Goals as goal

pub returns-in-Ok-clause-passes : goal.returns-in-Ok-clause-passes
returns-in-Ok-clause-passes g c =
    let left = g.S.Source.left c.args.source.now in
    let text = c.in-Ok.text.items in
    let a = g.K.Sink.written c.args.sink.now in
    let e = g.K.Sink.written c.answer.new.sink in
    λ ended. passes_is c.args.asked.limits left text a e (is_read left text c.in-Ok.ensures.whole c.in-Ok.ensures.within)
    (subst (λ s. TextEnds c.args.asked.limits text a e s) ended (subst (λ t. TextEnds c.args.asked.limits t a e c.answer.result) c.as_slice.ensures.value c.answer.ensures.ends))

pub returns-in-Ok-clause-cut_off : goal.returns-in-Ok-clause-cut_off
returns-in-Ok-clause-cut_off g c =
    let left = g.S.Source.left c.args.source.now in
    let text = c.in-Ok.text.items in
    let a = g.K.Sink.written c.args.sink.now in
    let e = g.K.Sink.written c.answer.new.sink in
    λ ended. cut_off_is c.args.asked.limits left text a e (is_read left text c.in-Ok.ensures.whole c.in-Ok.ensures.within)
    (subst (λ s. TextEnds c.args.asked.limits text a e s) ended (subst (λ t. TextEnds c.args.asked.limits t a e c.answer.result) c.as_slice.ensures.value c.answer.ensures.ends))

pub returns-in-Ok-clause-complete : goal.returns-in-Ok-clause-complete
returns-in-Ok-clause-complete g c =
    let left = g.S.Source.left c.args.source.now in
    let text = c.in-Ok.text.items in
    let a = g.K.Sink.written c.args.sink.now in
    let e = g.K.Sink.written c.answer.new.sink in
    λ offered _ calm. complete_is c.args.asked.limits left text a e c.answer.result _ offered c.in-Ok.ensures.whole
    (subst (λ t. TextEnds c.args.asked.limits t a e c.answer.result) c.as_slice.ensures.value c.answer.ensures.ends) c.answer.ensures.write_fault calm

pub returns-in-Err-TooLong-clause-complete : goal.returns-in-Err-TooLong-clause-complete
returns-in-Err-TooLong-clause-complete g c =
    λ offered _ _. absurd (not_too_long (g.S.Source.left c.args.source.now) offered (c.in-Err-TooLong.ensures.longer (ap Err c.in-Err-TooLong.field-0-is)))

pub returns-in-Err-TooLong-clause-refused : goal.returns-in-Err-TooLong-clause-refused
returns-in-Err-TooLong-clause-refused g c =
    let a = g.K.Sink.written c.args.sink.now in
    let e = g.K.Sink.written c.refuse.new.sink in
    λ ended.
    let told = subst (λ s. RefusalEnds [] (Plain refusal.TooLong) a e s) ended c.refuse.ensures.ends in
    inr (record {
      too_long = is_too_long (g.S.Source.left c.args.source.now) (c.in-Err-TooLong.ensures.longer (ap Err c.in-Err-TooLong.field-0-is));
      line = told.0;
      is_line = told.1;
      written = told.2;
    })
