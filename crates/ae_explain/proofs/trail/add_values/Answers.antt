use Rattle.std.proofs.Common.{◌∙◌, arith}
use Rattle.ae_explain.proofs.trail.add_values.Goals as goal

pub loop-size-preserved : goal.loop-size-preserved
loop-size-preserved c = record {
  size = omega (arith, c.in_ok-push_value.ensures.ok, c.loop-size.invariant.size);
  longer = omega (arith, c.in_ok-push_value.ensures.ok, c.loop-size.invariant.longer);
  same = λ n. c.push_value.ensures.same n ∙ c.loop-size.invariant.same n;
}
