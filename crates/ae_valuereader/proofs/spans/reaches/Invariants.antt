use Rattle.std.proofs.Common.{◌≡◌}
use Rattle.ae_valuereader.specs.Spans.{spans}
use Rattle.ae_valuereader.proofs.spans.reaches.Given as goal

abbrev pub invariant-loop-more : goal.invariant-loop-more
invariant-loop-more l = spans 40 l.low l.high l.value ≡ spans l.more l.least l.most l.value

abbrev pub decreases-loop-more : goal.decreases-loop-more
decreases-loop-more l = l.more
