use Rattle.std.proofs.Common.{sym, subst}
use Rattle.ae_driver.proofs.Answered.{printed}
use Rattle.ae_driver.proofs.Counting.{put_is_counted}
use Rattle.ae_driver.specs.Inner.Counting.{PutEnds}
use Rattle.ae_driver.specs.Inner.Endings.{IsPrinted}
use Rattle.ae_driver.proofs.demo.answer_counted.Goals as goal

pub put_item-requires-clause-printed : goal.put_item-requires-clause-printed
put_item-requires-clause-printed g c =
    subst (IsPrinted c.args.problem.now c.args.place) (sym c.as_slice.ensures.value)
    (printed c.args.problem.now c.args.asked.limits c.args.place c.in-Ok.part.items c.in-Ok.ensures.part c.in-Ok.ensures.read_back)

pub returns-in-Ok-clause-ends : goal.returns-in-Ok-clause-ends
returns-in-Ok-clause-ends g c =
    let a = g.K.Sink.written c.args.sink.now in
    let e = g.K.Sink.written c.put_item.new.sink in
    put_is_counted c.args.problem.now c.args.asked.limits c.args.place c.in-Ok.part.items c.args.counts.now c.put_item.new.counts a e c.put_item.result c.in-Ok.ensures.part
    (subst (λ t. PutEnds c.args.problem.now c.args.place t c.args.counts.now c.put_item.new.counts a e c.put_item.result) c.as_slice.ensures.value c.put_item.ensures.ends)
