use Rattle.ae_theory.proofs.Ways.{on_turned}
use Rattle.ae_theory.proofs.explaining.push_turned.Goals as goal

pub returns : goal.returns
returns c =
    on_turned c.push-3.result c.args.lines.now c.push.new.self c.push-2.new.self c.push-3.new.self c.args.left.now c.in_ok-copy_term.field-0 c.in_ok-copy_term-4.field-0 c.in_ok-copy_term-6.field-0 c.args.right.now
    c.in_ok-copy_term-2.field-0 c.in_ok-copy_term-3.field-0 c.args.start.now c.in_ok-copy_term-5.field-0 c.args.hyp c.len-line.result c.len-second.result c.in_ok-push.ensures.ok c.in_ok-push-2.ensures.ok
    c.len-line.ensures c.len-second.ensures c.in_ok-copy_term.ensures c.in_ok-copy_term-4.ensures c.in_ok-copy_term-6.ensures c.in_ok-copy_term-2.ensures c.in_ok-copy_term-3.ensures c.in_ok-copy_term-5.ensures
    c.push-3.ensures.ok
