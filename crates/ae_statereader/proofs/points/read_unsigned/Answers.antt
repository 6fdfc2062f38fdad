use Rattle.ae_statereader.proofs.PointReading.{close_back, no_stroke}
use Rattle.ae_statereader.proofs.points.read_unsigned.Goals as goal

pub returns-then-close-ne47-clause-read : goal.returns-then-close-ne47-clause-read
returns-then-close-ne47-clause-read c =
    no_stroke c.args.negated c.args.text.now c.args.at c.in_ok-size.behind (c.in_ok-size.size, c.in_ok-size.close) c.in_ok-size.ensures.read c.if-close-ne47.true
    (close_back c.args.negated c.args.text.now c.args.at c.in_ok-size.behind (c.in_ok-size.size, c.in_ok-size.close) c.in_ok-size.ensures.exact c.in_ok-size.ensures.ahead.0 c.in_ok-size.ensures.ahead.1)
