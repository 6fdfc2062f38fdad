use Rattle.std.proofs.Common.{ap, ◌∙◌}
use Rattle.ae_driver.specs.Inner.Counting.{with_verdict}
use Rattle.ae_driver.proofs.Counting.{room_left}
use Rattle.ae_driver.proofs.demo.count_part.Goals as goal

pub count_verdict-requires : goal.count_verdict-requires
count_verdict-requires c = room_left c.args.part.now c.args.counts.now c.count_kind.new.counts c.count_kind.ensures c.requires

pub returns : goal.returns
returns c = (c.in_ok-found.found, c.in_ok-found.ensures, c.count_verdict.ensures ∙ ap (with_verdict c.in_ok-found.found) c.count_kind.ensures)
