use Rattle.std.proofs.Common.{rules}
use Rattle.ae_conflicts.proofs.reasons.both.Goals as goal

pub returns : goal.returns
returns c = record {
  hyps = c.in_ok-deriv.ensures.hyps;
  tags = search rules;
  long = c.in_ok-deriv.ensures.lines;
  before = c.in_ok-deriv.ensures.before;
  after = c.in_ok-deriv.ensures.after;
  allowed = c.in_ok-deriv.ensures.allowed;
  factors = c.in_ok-deriv.ensures.factors;
}
