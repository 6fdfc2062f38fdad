use Rattle.std.proofs.Common.{Err, inl, inr, ap, subst, []}
use Rattle.ae_driver.specs.Inner.Endings.{InputEnds, RefusalEnds}
use Rattle.ae_report.specs.declared.refusal.Refusal.TheVariants as refusal
use Rattle.ae_driver.specs.declared.reasons.Reason.TheVariants.{Plain}
use Rattle.ae_driver.proofs.Answered.{is_read, is_too_long}
use Rattle.ae_driver.proofs.Checked.{done_checking_is, refused_checking_is, memory_checking_is, cut_off_checking_is, complete_checking_is, input_not_too_long}
use Rattle.ae_driver.proofs.program.check.Goals as goal

pub returns-in-Ok-clause-done : goal.returns-in-Ok-clause-done
returns-in-Ok-clause-done g c =
    let left = g.S.Source.left c.args.source.now in
    let input = c.in-Ok.input.items in
    let a = g.K.Sink.written c.args.sink.now in
    let e = g.K.Sink.written c.check_input.new.sink in
    λ ended. done_checking_is left input a e (is_read left input c.in-Ok.ensures.whole c.in-Ok.ensures.within)
    (subst (λ s. InputEnds input a e s) ended (subst (λ t. InputEnds t a e c.check_input.result) c.as_slice.ensures.value c.check_input.ensures.ends))

pub returns-in-Ok-clause-refused : goal.returns-in-Ok-clause-refused
returns-in-Ok-clause-refused g c =
    let left = g.S.Source.left c.args.source.now in
    let input = c.in-Ok.input.items in
    let a = g.K.Sink.written c.args.sink.now in
    let e = g.K.Sink.written c.check_input.new.sink in
    λ ended. inl (refused_checking_is left input a e (is_read left input c.in-Ok.ensures.whole c.in-Ok.ensures.within)
    (subst (λ s. InputEnds input a e s) ended (subst (λ t. InputEnds t a e c.check_input.result) c.as_slice.ensures.value c.check_input.ensures.ends)))

pub returns-in-Ok-clause-cut_off : goal.returns-in-Ok-clause-cut_off
returns-in-Ok-clause-cut_off g c =
    let left = g.S.Source.left c.args.source.now in
    let input = c.in-Ok.input.items in
    let a = g.K.Sink.written c.args.sink.now in
    let e = g.K.Sink.written c.check_input.new.sink in
    λ ended. cut_off_checking_is left input a e (is_read left input c.in-Ok.ensures.whole c.in-Ok.ensures.within)
    (subst (λ s. InputEnds input a e s) ended (subst (λ t. InputEnds t a e c.check_input.result) c.as_slice.ensures.value c.check_input.ensures.ends))

pub returns-in-Ok-clause-memory : goal.returns-in-Ok-clause-memory
returns-in-Ok-clause-memory g c =
    let left = g.S.Source.left c.args.source.now in
    let input = c.in-Ok.input.items in
    let a = g.K.Sink.written c.args.sink.now in
    let e = g.K.Sink.written c.check_input.new.sink in
    λ ended. memory_checking_is left input a e (is_read left input c.in-Ok.ensures.whole c.in-Ok.ensures.within)
    (subst (λ s. InputEnds input a e s) ended (subst (λ t. InputEnds t a e c.check_input.result) c.as_slice.ensures.value c.check_input.ensures.ends))

pub returns-in-Ok-clause-complete : goal.returns-in-Ok-clause-complete
returns-in-Ok-clause-complete g c =
    let left = g.S.Source.left c.args.source.now in
    let input = c.in-Ok.input.items in
    let a = g.K.Sink.written c.args.sink.now in
    let e = g.K.Sink.written c.check_input.new.sink in
    λ offered _ calm. complete_checking_is left input a e c.check_input.result _ offered c.in-Ok.ensures.whole
    (subst (λ t. InputEnds t a e c.check_input.result) c.as_slice.ensures.value c.check_input.ensures.ends) c.check_input.ensures.write_fault calm

pub returns-in-Err-TooLong-clause-complete : goal.returns-in-Err-TooLong-clause-complete
returns-in-Err-TooLong-clause-complete g c =
    λ offered _ _. absurd (input_not_too_long (g.S.Source.left c.args.source.now) offered (c.in-Err-TooLong.ensures.longer (ap Err c.in-Err-TooLong.field-0-is)))

pub returns-in-Err-TooLong-clause-refused : goal.returns-in-Err-TooLong-clause-refused
returns-in-Err-TooLong-clause-refused g c =
    let a = g.K.Sink.written c.args.sink.now in
    let e = g.K.Sink.written c.refuse.new.sink in
    λ ended.
    let told = subst (λ s. RefusalEnds [] (Plain refusal.TooLong) a e s) ended c.refuse.ensures.ends in
    inr (record {
      too_long = is_too_long (g.S.Source.left c.args.source.now) (c.in-Err-TooLong.ensures.longer (ap Err c.in-Err-TooLong.field-0-is));
      line = told.0;
      is_line = told.1;
      written = told.2;
    })
